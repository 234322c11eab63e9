-- What a search tells, question by question.
use Rattle.std.proofs.Common.{◌≡◌, ℕ, true, false, leb, ltb, List, Some, None, Option, refl, inl, inr, arith}
use Rattle.std.proofs.lemmas.Bool.{cases_Bool, cond-true, cond-false}
use Rattle.limits.specs.declared.pair.Pair.{Pair}
use Rattle.planner.specs.declared.outcome.Outcome.{Outcome}
use Rattle.planner.specs.declared.outcome.Outcome.TheVariants.{Spent, NoneWithin, Found}
use Rattle.planner.specs.Named.{Aim, visits, named}
use Rattle.planner.specs.Outcome.{told_of, outcome}

module _ {T : Type 0} (a : Aim T) (cs : List (List Pair)) (allowance : ℕ) where
  -- what each way of ending says of the visits and of the named setting
  abbrev Says : Outcome T → Type 0
  Says Spent = leb (visits a cs) allowance ≡ false
  Says (NoneWithin count) = (leb (visits a cs) allowance ≡ true) × (named a cs ≡ None)
  Says (Found total count) = (leb (visits a cs) allowance ≡ true) × ((s : List Pair) × (named a cs ≡ Some s) × (a.total s ≡ total) × (visits a cs ≡ count))

  unspent : (o : Option (List Pair)) → named a cs ≡ o → leb (visits a cs) allowance ≡ true → Says (told_of a (visits a cs) o)
  unspent None n few = (few, n)
  unspent (Some s) n few = (few, (s, n, refl, refl))

  outcome_says : Says (outcome a cs allowance)
  outcome_says =
      elim (cases_Bool (ltb allowance (visits a cs))) [
        | inl many ↦ rw (cond-true (ltb allowance (visits a cs)) Spent (told_of a (visits a cs) (named a cs)) many) (grind (arith, many))
        | inr few ↦ rw (cond-false (ltb allowance (visits a cs)) Spent (told_of a (visits a cs) (named a cs)) few) (unspent (named a cs) refl (grind (arith, few)))
      ]

  pub says : (o : Outcome T) → o ≡ outcome a cs allowance → Says o
  says o e = rw e outcome_says
