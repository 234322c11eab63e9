-- The searches that end before the first turn: no selection is within the limit, or there is no link.
use Rattle.std.proofs.Common.{◌≡◌, ℕ, ◌<◌, true, false, cond, List, [], ◌∷◌, ◌++◌, map, filter, length, Some, None, refl, sym, ap, ◌∙◌, inl, arith}
use Rattle.std.specs.List.{AllByRecursion, list_all}
use Rattle.std.proofs.lemmas.Bool.{cond-true, cond-false, and_from}
use Rattle.limits.specs.declared.pair.Pair.{Pair}
use Rattle.planner.specs.declared.outcome.Outcome.TheVariants.{NoneWithin}
use Rattle.planner.specs.Named.{Aim, no_more, admitted, first, visits, named}
use Rattle.planner.specs.Outcome.{outcome, placed}
use Rattle.planner.specs.Selections.{partial}
use Rattle.planner.specs.Table.{LawfulCandidates}
use Rattle.planner.proofs.Chosen.{final_named}
use Rattle.planner.proofs.Fold.{reflexive, seens_all}
use Rattle.planner.proofs.Told.{told_unspent}
use Rattle.planner.proofs.Laws.{Laws}
use Rattle.planner.proofs.Left.{from_nothing, Owes, owes_whole, owes_skip, Idle, idle_all}

module _ {T : Type 0} (a : Aim T) (laws : Laws a) where
  -- with no link the empty selection is the one setting
  pub named_empty : a.within [] ≡ true → named a [] ≡ Some []
  named_empty within =
      let one : admitted a [] ≡ [] ∷ [] = cond-true (a.within []) ([] ∷ []) [] within in
      let itself : list_all (no_more a []) ([] ∷ []) ≡ true = and_from (no_more a [] []) true (reflexive laws.ranks (a.total [])) refl in
      ap (λ ss. first (filter (λ s. list_all (no_more a s) ss) ss)) one
      ∙ ap (λ b. first (cond b ([] ∷ []) [])) itself

  -- where the empty selection is not within, there is no setting and no visit
  record Barren (cs : List (List Pair)) : Type 0 where
    none : named a cs ≡ None
    unvisited : visits a cs ≡ 0

  barren_empty : a.within [] ≡ false → Barren []
  barren_empty outside = record {
    none = ap (λ ss. first (filter (λ s. list_all (no_more a s) ss) ss)) (cond-false (a.within []) ([] ∷ []) [] outside);
    unvisited = refl;
  }

  barren_some : (cs : List (List Pair)) → 0 < length cs → LawfulCandidates cs → a.within [] ≡ false → Barren cs
  barren_some cs some lawful outside =
      let f = lawful.few in
      let idle : AllByRecursion (Idle a cs None) (map (λ y. [] ++ y) (partial cs)) = idle_all a cs laws None [] cs tt lawful.lawful (omega arith) (inl outside) in
      let end : Owes a cs None 0 [] = owes_skip a cs None 0 (map (λ y. [] ++ y) (partial cs)) [] idle (rw (from_nothing (partial cs)) (owes_whole a cs)) in
      let c = end.count in
      record {
        none = final_named a laws.ranks cs some lawful None (sym end.ends);
        unvisited = omega (arith, seens_all a laws.ranks cs some lawful);
      }

  barren : (cs : List (List Pair)) → LawfulCandidates cs → a.within [] ≡ false → Barren cs
  barren [] lawful outside = barren_empty outside
  barren (c ∷ cs) lawful outside = barren_some (c ∷ cs) (omega arith) lawful outside

  -- no setting is told, without a visit
  pub outside_told : (cs : List (List Pair)) (allowance : ℕ) → LawfulCandidates cs → a.within [] ≡ false → NoneWithin 0 ≡ outcome a cs allowance
  outside_told cs allowance lawful outside =
      let none = barren cs lawful outside in
      told_unspent a cs allowance 0 None (sym none.unvisited) (omega arith) none.none

  -- and the places stay
  pub outside_placed : (cs : List (List Pair)) (old : List Pair) → LawfulCandidates cs → a.within [] ≡ false → old ≡ placed (named a cs) old
  outside_placed cs old lawful outside = ap (λ o. placed o old) (sym (barren cs lawful outside).none)
