-- The pairs of the first rows of a setting.
use Rattle.std.proofs.Common.{◌≡◌, ℕ, ◌+◌, ◌<◌, zero, suc, List, [], ◌∷◌, ◌++◌, length, take, refl, ap, ◌∙◌, length-take, arith}
use Rattle.std.specs.Prelude.{slice_index_or}
use Rattle.std.specs.List.{AllByRecursion}
use Rattle.limits.specs.declared.pair.Pair.{Pair}
use Rattle.limits.specs.Selection.{Selection, Lawful}
use Rattle.planner.specs.declared.row.Row.{Row}
use Rattle.planner.specs.Setting.{pairs}

up_to : (rows : List Row) (i : ℕ) (d : Row) → i < length rows → take (suc i) (pairs rows) ≡ take i (pairs rows) ++ (slice_index_or rows i d).pair ∷ []
up_to [] i d lt = absurd (omega (arith, lt))
up_to (row ∷ rows) zero d lt = refl
up_to (row ∷ rows) (suc i) d lt = ap (λ ps. row.pair ∷ ps) (up_to rows i d (omega (arith, lt)))

-- the pairs up to a row are those before it and its own
pub pairs_up_to : (rows : List Row) (i : ℕ) (d : Row) → i < length rows → take (i + 1) (pairs rows) ≡ take i (pairs rows) ++ (slice_index_or rows i d).pair ∷ []
pairs_up_to rows i d lt =
    let one : i + 1 ≡ suc i = omega arith in
    ap (λ n. take n (pairs rows)) one ∙ up_to rows i d lt

all_up_to : (n : ℕ) (ps : List Pair) → AllByRecursion Lawful ps → AllByRecursion Lawful (take n ps)
all_up_to zero ps h = tt
all_up_to (suc n) [] h = tt
all_up_to (suc n) (p ∷ ps) h = (h.0, all_up_to n ps h.1)

-- the first pairs of a selection are a selection
pub selection_up_to : (n : ℕ) (ps : List Pair) → Selection ps → Selection (take n ps)
selection_up_to n ps sel = record { few = omega (arith, sel.few, length-take n ps); each = all_up_to n ps sel.each }

-- the pair of a row of a selection is lawful
pub lawful_row : (rows : List Row) (i : ℕ) (d : Row) → i < length rows → AllByRecursion Lawful (pairs rows) → Lawful (slice_index_or rows i d).pair
lawful_row [] i d lt all = absurd (omega (arith, lt))
lawful_row (row ∷ rows) zero d lt all = all.0
lawful_row (row ∷ rows) (suc i) d lt all = lawful_row rows i d (omega (arith, lt)) all.1
