-- The setting that a search names, and how many partial selections it visits.
use Rattle.std.specs.Prelude.{ℕ, Bool, ◌&&◌, not, List, Option, ◌==◌}
use Rattle.std.specs.List.{filter, find, list_any, list_all, count_by}
use Rattle.limits.specs.declared.pair.Pair.{Pair}
use Rattle.planner.specs.Selections.{complete, partial, parent, before}

-- what a search goes by: which selections are within the limit, what each totals, and which totals are no more than which
pub record Aim (T : Type 0) : Type 0 where
  pub within : List Pair → Bool
  pub total : List Pair → T
  pub at_most : T → T → Bool

-- the aim under a limit that has these breaches: a selection of breach 0 is within
abbrev pub aim_of : {T : Type 0} → (List Pair → ℕ) → (List Pair → T) → (T → T → Bool) → Aim T
aim_of breach total at_most = record { within = λ s. breach s == 0; total = total; at_most = at_most }

-- the first selection totals no more than the second
abbrev pub no_more : {T : Type 0} → Aim T → List Pair → List Pair → Bool
no_more a s t = a.at_most (a.total s) (a.total t)

-- the complete selections that are within the limit
abbrev pub admitted : {T : Type 0} → Aim T → List (List Pair) → List (List Pair)
admitted a cs = filter a.within (complete cs)

-- a partial selection is visited when its parent is within the limit, and no complete selection that is within and comes
-- before it totals no more than the parent
abbrev pub visited : {T : Type 0} → Aim T → List (List Pair) → List Pair → Bool
visited a cs p = a.within (parent p) && not (list_any (λ s. before s p && no_more a s (parent p)) (admitted a cs))

-- the visits: how many partial selections are visited
abbrev pub visits : {T : Type 0} → Aim T → List (List Pair) → ℕ
visits a cs = count_by (visited a cs) (partial cs)

-- of the complete selections within the limit, those that total no more than any other
abbrev pub least : {T : Type 0} → Aim T → List (List Pair) → List (List Pair)
least a cs = filter (λ s. list_all (no_more a s) (admitted a cs)) (admitted a cs)

-- of some selections, the one that none of them comes before
abbrev pub first : List (List Pair) → Option (List Pair)
first ss = find (λ s. not (list_any (λ t. before t s) ss)) ss

-- the named setting, if there is one: the first that totals no more than any other
abbrev pub named : {T : Type 0} → Aim T → List (List Pair) → Option (List Pair)
named a cs = first (least a cs)
