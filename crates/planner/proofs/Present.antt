-- The candidates in the first places of a row, one place on.
use Rattle.std.proofs.Common.{◌≡◌, ℕ, zero, suc, ◌+◌, ◌<◌, List, [], ◌∷◌, ◌++◌, length, get_or, take, Some, None, Option, ap, ◌∙◌, append-nil, arith}
use Rattle.std.proofs.lemmas.List.{take_more}
use Rattle.std.proofs.lemmas.List.Elements.{filter_map-append}
use Rattle.limits.specs.declared.pair.Pair.{Pair}
use Rattle.std.specs.List.{AllByRecursion}
use Rattle.limits.specs.Selection.{Lawful}
use Rattle.planner.specs.Table.{present, candidates_of}

module _ (places : List (Option Pair)) (i : ℕ) (within : i < length places) where
  present_more : present (take (i + 1) places) ≡ present (take i places) ++ present (get_or places i None ∷ [])
  present_more = ap present (take_more places i None within) ∙ filter_map-append (λ p. p) (take i places) (get_or places i None ∷ [])

  -- a place that holds a candidate
  pub present_some : (p : Pair) → get_or places i None ≡ Some p → present (take (i + 1) places) ≡ present (take i places) ++ p ∷ []
  present_some p e = present_more ∙ ap (λ o. present (take i places) ++ present (o ∷ [])) e

  -- an empty place
  pub present_none : get_or places i None ≡ None → present (take (i + 1) places) ≡ present (take i places)
  present_none e = present_more ∙ ap (λ o. present (take i places) ++ present (o ∷ [])) e ∙ append-nil (present (take i places))

-- the candidates in the row of one link are lawful where those of all links are
pub lawful_row : (table : List (List (Option Pair))) (i : ℕ) → i < length table → AllByRecursion (AllByRecursion Lawful) (candidates_of table) → AllByRecursion Lawful (present (get_or table i []))
lawful_row [] i h all = absurd (omega arith)
lawful_row (row ∷ table) zero h all = all.0
lawful_row (row ∷ table) (suc i) h all = lawful_row table i (omega arith) all.1
