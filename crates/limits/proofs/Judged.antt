-- What is told of a selection, and of a list that is none.
use Rattle.std.proofs.Common.{◌≡◌, true, List, Some, None, ap}
use Rattle.std.specs.Prelude.{if◌then◌else◌}
use Rattle.std.proofs.lemmas.Bool.{leb-true, le-leb, and_parts, and_from, false_from_ne_true}
use Rattle.limits.specs.declared.pair.Pair.{Pair}
use Rattle.limits.specs.Gaps.{eight_gaps}
use Rattle.limits.specs.Lawful.{lawful}
use Rattle.limits.specs.Selection.{Selection, is_selection}
use Rattle.limits.specs.Judged.{judged}
use Rattle.limits.specs.Every.{all_from_every, every_from_all}

test_from_selection : (s : List Pair) → Selection s → is_selection s ≡ true
test_from_selection s sel = and_from _ _ (le-leb _ _ sel.few) (every_from_all (lawful eight_gaps) s sel.each)

selection_from_test : (s : List Pair) → is_selection s ≡ true → Selection s
selection_from_test s h = let a = and_parts _ _ h in record { few = leb-true _ _ a.0; each = all_from_every (lawful eight_gaps) s a.1 }

pub judged_selection : {X : Type 0} (meaning : List Pair → X) (s : List Pair) → Selection s → judged meaning s ≡ Some (meaning s)
judged_selection meaning s sel = ap (λ b. if b then Some (meaning s) else None) (test_from_selection s sel)

pub judged_other : {X : Type 0} (meaning : List Pair → X) (s : List Pair) → (Selection s → ⊥) → judged meaning s ≡ None
judged_other meaning s other = ap (λ b. if b then Some (meaning s) else None) (false_from_ne_true (is_selection s) (λ t. other (selection_from_test s t)))
