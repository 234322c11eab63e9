-- The work table of a search.
use Rattle.std.specs.Prelude.{ℕ, List, [], map, take, length, replicate}
use Rattle.limits.specs.declared.pair.Pair.{Pair}
use Rattle.planner.specs.declared.search_row.Figures.{Figures}
use Rattle.planner.specs.declared.search_row.SearchRow.{SearchRow}

module _ {B T W C : Type 0} where
  -- the candidates that its first n rows hold, a row for each link
  abbrev pub held : ℕ → List (SearchRow B T W C) → List (List Pair)
  held n work = map (λ row. row.candidates.items) (take n work)

  -- the figures that stand beside them
  abbrev pub noted : ℕ → List (SearchRow B T W C) → List (List (Figures W C))
  noted n work = map (λ row. take (length row.candidates.items) row.figures) (take n work)

-- the figures of a pair: its weight and its cost
abbrev pub figures_of : {W C : Type 0} → (Pair → W) → (Pair → C) → Pair → Figures W C
figures_of weighed costed p = record { weight = weighed p; cost = costed p }

-- a row to begin with: no candidates, the figures of the pair (1, 1) in every place, and a level with the load and the total
-- of the empty selection and nothing tried
abbrev pub blank_row : {B T W C : Type 0} → (List Pair → B) → (Pair → W) → (List Pair → T) → (Pair → C) → SearchRow B T W C
blank_row loaded weighed totalled costed =
    let pair : Pair = record { gap = 1; mtu = 1 } in
    record {
      candidates = record { items = [] };
      figures = replicate 8 (figures_of weighed costed pair);
      level = record { load = loaded []; total = totalled []; tried = 0 };
      pair = pair;
    }
