-- The rows of a setting, and writing them one after the other.
use Rattle.std.proofs.Common.{◌≡◌, ℕ, ◌+◌, ◌<◌, ◌≤◌, List, [], ◌∷◌, ◌++◌, length, get_or, take, drop, set, refl, sym, ap, ◌∙◌, arith}
use Rattle.std.specs.List.{zip}
use Rattle.std.proofs.lemmas.List.{take_more, take_all, length-map, length-take-le, get_or-map}
use Rattle.std.proofs.lemmas.Slice.Zip.{length-zip, get_or-zip, seconds-zip}
use Rattle.std.proofs.lemmas.Simd.{map-map}
use Rattle.std.proofs.Math.Seq.{take-append_seam}
use Rattle.limits.specs.declared.pair.Pair.{Pair}
use Rattle.planner.specs.declared.row.Row.{Row}
use Rattle.planner.specs.Ending.{rows_of}
use Rattle.planner.specs.Setting.{pairs}
use Rattle.planner.proofs.Stack.{put}

abbrev row_of : ℕ × Pair → Row
row_of given = record { link = given.0; pair = given.1 }

module _ (links : List ℕ) (s : List Pair) where
  -- there are as many as links
  rows_long : length links ≤ length s → length (rows_of links s) ≡ length links
  rows_long long = omega (arith, length-map (zip links s) row_of, length-zip links s)

  -- the row of a link has its pair
  row_at : (i : ℕ) (p : Pair) (row : Row) → i < length links → length links ≤ length s → get_or (rows_of links s) i row ≡ record { link = get_or links i 0; pair = get_or s i p }
  row_at i p row within long =
      let here : i < length (zip links s) = omega (arith, length-zip links s) in
      get_or-map row_of (zip links s) i (0, p) row here ∙ ap row_of (get_or-zip links s i (0, p) within (omega (arith, within, long)))

  -- one more of them is written
  pub row_written : (old rows : List Row) (i : ℕ) (p : Pair) → i < length links → length links ≤ length s → length links ≤ length old → rows ≡ take i (rows_of links s) ++ drop i old → set rows i (record { link = get_or links i 0; pair = get_or s i p }) ≡ take (i + 1) (rows_of links s) ++ drop (i + 1) old
  row_written old rows i p within long places is =
      let row : Row = record { link = get_or links i 0; pair = get_or s i p } in
      let whole = rows_long long in
      ap (λ r. set r i row) is
      ∙ put (take i (rows_of links s)) old i row (length-take-le i (rows_of links s) (omega (arith, within, whole))) (omega (arith, within, places))
      ∙ ap (λ r. r ++ drop (i + 1) old) (ap (λ r. take i (rows_of links s) ++ r ∷ []) (sym (row_at i p row within long)) ∙ sym (take_more (rows_of links s) i row (omega (arith, within, whole))))

  -- and in the end all are
  pub rows_written : (old rows : List Row) (i : ℕ) → i ≡ length links → length links ≤ length s → rows ≡ take i (rows_of links s) ++ drop i old → rows ≡ rows_of links s ++ drop (length links) old
  rows_written old rows i at long is =
      is
      ∙ ap (λ k. take k (rows_of links s) ++ drop k old) at
      ∙ ap (λ r. r ++ drop (length links) old) (take_all (length links) (rows_of links s) (omega (arith, rows_long long)))

  module _ (long : length s ≡ length links) where
    -- the rows of the links are those
    pub rows_back : (rest : List Row) → take (length links) (rows_of links s ++ rest) ≡ rows_of links s
    rows_back rest = ap (λ k. take k (rows_of links s ++ rest)) (sym (rows_long (omega (arith, long)))) ∙ take-append_seam (rows_of links s) rest

    -- with the pairs of the setting
    pub pairs_back : (rest : List Row) → pairs (take (length links) (rows_of links s ++ rest)) ≡ s
    pairs_back rest = ap pairs (rows_back rest) ∙ map-map (λ row. row.pair) row_of (zip links s) ∙ seconds-zip links s long

-- the rows of the links take no more than their pairs
pub rows_front : (links : List ℕ) (s rest : List Pair) → length s ≡ length links → rows_of links (s ++ rest) ≡ rows_of links s
rows_front [] [] rest long = refl
rows_front [] (p ∷ s) rest long = absurd (omega (arith, long))
rows_front (link ∷ links) [] rest long = absurd (omega (arith, long))
rows_front (link ∷ links) (p ∷ s) rest long = ap (λ rows. record { link = link; pair = p } ∷ rows) (rows_front links s rest (omega (arith, long)))
