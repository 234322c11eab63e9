-- Selections of other pairs than the candidates, and how the named setting compares with them.
use Rattle.std.specs.Prelude.{◌≡◌, Bool, true, false, ◌&&◌, List, [], ◌∷◌, Some, ◌==◌, nat_le}
use Rattle.std.specs.List.{list_any}
use Rattle.limits.specs.declared.pair.Pair.{Pair}
use Rattle.limits.specs.Gaps.{eight_gaps}
use Rattle.limits.specs.Lawful.{lawful}
use Rattle.planner.specs.Named.{Aim, no_more, named}

-- the pair is a candidate of the link with its MTU raised or left: it is lawful, and the link has a candidate of the same gap
-- and of no greater MTU
abbrev pub raised_candidate : List Pair → Pair → Bool
raised_candidate c p = lawful eight_gaps p && list_any (λ q. (q.gap == p.gap) && nat_le q.mtu p.mtu) c

-- one such pair for each link, in plan order
abbrev pub raised_candidates : List (List Pair) → List Pair → Bool
raised_candidates [] [] = true
raised_candidates [] (p ∷ s) = false
raised_candidates (c ∷ cs) [] = false
raised_candidates (c ∷ cs) (p ∷ s) = raised_candidate c p && raised_candidates cs s

-- every such list that is within the limit shows that there is a named setting, and totals at least as much
abbrev pub LeastOfAll : {T : Type 0} → Aim T → List (List Pair) → Type 0
LeastOfAll a cs =
    (t : List Pair) → raised_candidates cs t ≡ true → a.within t ≡ true
    → (s : List Pair) × (named a cs ≡ Some s) × (no_more a s t ≡ true)
