-- The table of candidates that a search is handed: a row for each link, with a place for each gap.
use Rattle.std.specs.Prelude.{◌≤◌, ◌<◌, List, [], ◌∷◌, map, length, Option}
use Rattle.std.specs.List.{filter_map, AllByRecursion}
use Rattle.limits.specs.declared.pair.Pair.{Pair}
use Rattle.limits.specs.Selection.{Lawful, max_pairs}

-- the candidates that a row holds
abbrev pub present : List (Option Pair) → List Pair
present row = filter_map (λ place. place) row

-- those of each link
abbrev pub candidates_of : List (List (Option Pair)) → List (List Pair)
candidates_of table = map present table

-- the gaps rise
abbrev pub Rising : List Pair → Type 0
Rising [] = Unit {0}
Rising (p ∷ ps) = AllByRecursion (λ q. p.gap < q.gap) ps × Rising ps

-- no more links than a selection may have pairs, and each link's candidates lawful and in rising gap
pub record LawfulCandidates (cs : List (List Pair)) : Type 0 where
  pub few : length cs ≤ max_pairs
  pub lawful : AllByRecursion (λ c. AllByRecursion Lawful c) cs
  pub rising : AllByRecursion Rising cs
