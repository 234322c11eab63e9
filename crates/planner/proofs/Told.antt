-- What a search tells that is not spent.
use Rattle.std.proofs.Common.{◌≡◌, ℕ, ◌≤◌, ltb, List, Option, sym, ap₂, ◌∙◌, arith}
use Rattle.std.proofs.lemmas.Bool.{cond-false, le-ltb}
use Rattle.limits.specs.declared.pair.Pair.{Pair}
use Rattle.planner.specs.declared.outcome.Outcome.TheVariants.{Spent}
use Rattle.planner.specs.Named.{Aim, visits, named}
use Rattle.planner.specs.Outcome.{told_of, outcome}

-- with the visits and the named setting known, it is what is told of them
pub told_unspent : {T : Type 0} (a : Aim T) (cs : List (List Pair)) (allowance v : ℕ) (found : Option (List Pair)) → v ≡ visits a cs → v ≤ allowance → named a cs ≡ found → told_of a v found ≡ outcome a cs allowance
told_unspent a cs allowance v found c le n =
    ap₂ (told_of a) c (sym n)
    ∙ sym (cond-false (ltb allowance (visits a cs)) Spent (told_of a (visits a cs) (named a cs)) (le-ltb allowance (visits a cs) (omega arith)))
