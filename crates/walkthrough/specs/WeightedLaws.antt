-- The laws of the weighted total: it rises where both its parts do.
use Rattle.std.specs.Prelude.{◌≡◌, ℕ, ◌+◌, ◌*◌, ◌^◌, ◌<◌, ◌≤◌, true, List, [], ◌∷◌, ◌++◌, nat_le}
use Rattle.std.proofs.Common.{ap, mul-add, mul-le-mul_left, arith}
use Rattle.std.proofs.lemmas.Bool.{le-leb}
use Rattle.limits.specs.declared.pair.Pair.{Pair}
use Rattle.limits.specs.Frame.{frame}
use Rattle.limits.specs.Selection.{Selection, Lowered}
use Rattle.limits.specs.SumLaws.{burst_adds, reserve_adds}
use Rattle.limits.specs.Sums.{burst_bytes, reserve}
use Rattle.walkthrough.specs.Weighted.{weighted, weighted_pair}

-- of no pair
pub weighted_none : (byte : ℕ) → weighted byte [] ≡ 0
weighted_none byte = omega (arith, reserve_adds.none, ap (λ n. byte * n) burst_adds.none)

-- with one more pair
pub weighted_push : (byte : ℕ) (s : List Pair) (p : Pair) → weighted byte (s ++ p ∷ []) ≡ weighted byte s + weighted_pair byte p
weighted_push byte s p =
    let bytes = ap (λ n. byte * n) (burst_adds.push s p) in
    omega (arith, reserve_adds.push s p, bytes, mul-add byte (burst_bytes s) (frame p))

-- a number of 64 bits holds the total of a selection
fits : (byte : ℕ) (s : List Pair) → byte < 2 ^ 32 → Selection s → weighted byte s < 2 ^ 64
fits byte s small sel =
    omega (arith, reserve_adds.bound s sel, mul-le-mul_left byte (burst_adds.bound s sel))

-- and that of a selection with one more pair, as it is added up
pub weighted_fits : (byte : ℕ) (s : List Pair) (p : Pair) → byte < 2 ^ 32 → Selection (s ++ p ∷ []) → weighted byte s + weighted_pair byte p < 2 ^ 64
weighted_fits byte s p small sel = omega (arith, weighted_push byte s p, fits byte (s ++ p ∷ []) small sel)

rises : (byte : ℕ) (xs ys : List Pair) → reserve xs ≤ reserve ys → burst_bytes xs ≤ burst_bytes ys → nat_le (weighted byte xs) (weighted byte ys) ≡ true
rises byte xs ys units bytes =
    le-leb (weighted byte xs) (weighted byte ys) (omega (arith, units, mul-le-mul_left byte bytes))

-- the two laws of the measure that speak of selections
pub weighted_begins : (byte : ℕ) (xs ys : List Pair) → nat_le (weighted byte xs) (weighted byte (xs ++ ys)) ≡ true
weighted_begins byte xs ys = rises byte xs (xs ++ ys) (reserve_adds.begins xs ys) (burst_adds.begins xs ys)

pub weighted_lowers : (byte : ℕ) (xs ys : List Pair) → Selection ys → Lowered xs ys → nat_le (weighted byte xs) (weighted byte ys) ≡ true
weighted_lowers byte xs ys sel low = rises byte xs ys (reserve_adds.lowers xs ys sel low) (burst_adds.lowers xs ys sel low)
