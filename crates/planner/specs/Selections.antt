-- Selections made of candidates: the links come in plan order, and each link's candidates in rising gap.
use Rattle.std.specs.Prelude.{◌-◌, Bool, false, if◌then◌else◌, List, [], ◌∷◌, map, length, take, ◌==◌, nat_lt}
use Rattle.std.specs.List.{flat_map}
use Rattle.limits.specs.declared.pair.Pair.{Pair}

-- the complete selections: one candidate of each link
abbrev pub complete : List (List Pair) → List (List Pair)
complete [] = [] ∷ []
complete (c ∷ cs) = flat_map (λ p. map (λ s. p ∷ s) (complete cs)) c

-- the partial selections: one candidate of each of the first links, and of one link at least
abbrev pub partial : List (List Pair) → List (List Pair)
partial [] = []
partial (c ∷ cs) = flat_map (λ p. (p ∷ []) ∷ map (λ s. p ∷ s) (partial cs)) c

-- the selection without its last pair
abbrev pub parent : List Pair → List Pair
parent s = take (length s - 1) s

-- at the first link where their gaps differ, the first selection has the smaller one (candidates of one link that differ have
-- different gaps)
abbrev pub before : List Pair → List Pair → Bool
before [] t = false
before (p ∷ s) [] = false
before (p ∷ s) (q ∷ t) = if p.gap == q.gap then before s t else nat_lt p.gap q.gap
