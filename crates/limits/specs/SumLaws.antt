-- The laws of the sums over a selection: what a limit or a measure that adds up its pairs rests on.
use Rattle.std.specs.Prelude.{◌≡◌, ℕ, ◌+◌, ◌*◌, ◌^◌, ◌<◌, ◌≤◌, List, [], ◌∷◌, ◌++◌, sum_by, refl}
use Rattle.std.proofs.Common.{le_trans, mul-le-mul_right, arith}
use Rattle.std.specs.List.{AllByRecursion}
use Rattle.std.proofs.ByRecursion.{All-weaker, sum_by_le}
use Rattle.std.proofs.lemmas.List.Sums.{sum_by-cons, sum_by-append, sum_by_push}
use Rattle.limits.specs.declared.pair.Pair.{Pair}
use Rattle.limits.specs.Frame.{frame, units}
use Rattle.limits.specs.Selection.{max_pairs, Lawful, Selection, Lower, Lowered}
use Rattle.limits.specs.Sums.{burst_bytes, reserve}
use Rattle.limits.specs.FrameLaws.{max_frame, frame_rises, frame_most, max_units, units_rise, units_most}

-- the total adds up a figure of each pair, which rises with the MTU and is at most so much
pub record Adds (total : List Pair → ℕ) (figure : Pair → ℕ) (most : ℕ) : Type 0 where
  pub none : total [] ≡ 0
  pub cons : (p : Pair) (s : List Pair) → total (p ∷ s) ≡ figure p + total s
  pub push : (s : List Pair) (p : Pair) → total (s ++ p ∷ []) ≡ total s + figure p
  pub begins : (xs ys : List Pair) → total xs ≤ total (xs ++ ys)
  pub lowers : (xs ys : List Pair) → Selection ys → Lowered xs ys → total xs ≤ total ys
  pub bound : (s : List Pair) → Selection s → total s ≤ max_pairs * most

module _ (figure : Pair → ℕ) (most : ℕ) (rises : (p q : Pair) → Lawful q → Lower p q → figure p ≤ figure q) (bounded : (p : Pair) → Lawful p → figure p ≤ most) where
  lowered : (xs ys : List Pair) → AllByRecursion Lawful ys → Lowered xs ys → sum_by figure xs ≤ sum_by figure ys
  lowered [] [] h low = omega arith
  lowered [] (y ∷ ys) h low = absurd low
  lowered (x ∷ xs) [] h low = absurd low
  lowered (x ∷ xs) (y ∷ ys) h low =
      omega (arith, sum_by-cons figure x xs, sum_by-cons figure y ys, rises x y h.0 low.0, lowered xs ys h.1 low.1)

  -- a sum of such a figure adds it up
  pub adds : Adds (sum_by figure) figure most
  adds = record {
    none = refl;
    cons = sum_by-cons figure;
    push = sum_by_push figure;
    begins = λ xs ys. omega (arith, sum_by-append figure xs ys);
    lowers = λ xs ys sel low. lowered xs ys sel.each low;
    bound = λ s sel. le_trans (sum_by_le figure most s (All-weaker Lawful (λ p. figure p ≤ most) bounded s sel.each)) (mul-le-mul_right most sel.few);
  }

pub burst_adds : Adds burst_bytes frame max_frame
unfolding burst_bytes
burst_adds = adds frame max_frame (λ p q _ low. frame_rises p q low) frame_most

pub reserve_adds : Adds reserve units max_units
unfolding reserve
reserve_adds = adds units max_units units_rise units_most

-- a number of 32 bits holds the sums of a selection
pub burst_fits : max_pairs * max_frame < 2 ^ 32
burst_fits = omega arith

pub reserve_fits : max_pairs * max_units < 2 ^ 32
reserve_fits = omega arith
