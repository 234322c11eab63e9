-- The laws of frame bytes and units. What rests on them uses these, and not how they are computed.
use Rattle.std.specs.Prelude.{◌≡◌, ℕ, ◌*◌, ◌%◌, ◌<◌, ◌≤◌, Bool, true, ◌&&◌, ◌==◌, nat_lt, refl}
use Rattle.std.proofs.Common.{le_trans, le-div_iff_mul-le, div-mul-le_self, div-le_self, mul-le-mul_right, arith}
use Rattle.std.proofs.Math.Nat.{div-mul_cancel, dvd-mul_left, dvd_trans, dvd_of_mod-eq-zero}
use Rattle.std.proofs.lemmas.Bool.{and_parts, ltb-true, eqb-true}
use Rattle.limits.specs.declared.pair.Pair.{Pair}
use Rattle.limits.specs.Frame.{frame_bytes, frame, units}
use Rattle.limits.specs.Gaps.{eight_gaps}
use Rattle.limits.specs.Lawful.{mtu_min, mtu_max}
use Rattle.limits.specs.Selection.{Lawful, Lower}
use Rattle.limits.specs.Among.{all_among}
use Rattle.limits.specs.Every.{all_from_every}
use Rattle.limits.specs.Within.{le_from_within}

-- ---- what the gap and the MTU of a lawful pair are
-- a number is positive and divides 128
abbrev divides_128 : ℕ → Bool
divides_128 g = nat_lt 0 g && 128 % g == 0

-- the gap of a lawful pair is such a number
gap_divides_128 : (p : Pair) → Lawful p → divides_128 p.gap ≡ true
gap_divides_128 p h =
    all_among (λ g. divides_128 g ≡ true) eight_gaps p.gap (all_from_every divides_128 eight_gaps refl) (and_parts _ _ h).0

-- so it is positive
pub gap_positive : (p : Pair) → Lawful p → 0 < p.gap
gap_positive p h = ltb-true 0 p.gap (and_parts _ _ (gap_divides_128 p h)).0

-- the MTU of a lawful pair is at most the largest
mtu_most : (p : Pair) → Lawful p → p.mtu ≤ mtu_max
mtu_most p h = (le_from_within mtu_min mtu_max p.mtu (and_parts _ _ h).1).1

-- ---- frame bytes
-- the bytes of the longest frame, which is that of MTU 1,471
abbrev pub max_frame : ℕ
max_frame = 1538

-- a frame with a lower MTU has no more bytes
pub frame_rises : (p q : Pair) → Lower p q → frame p ≤ frame q
unfolding frame_bytes
frame_rises p q low = omega arith

-- no frame of a lawful pair exceeds that
pub frame_most : (p : Pair) → Lawful p → frame p ≤ max_frame
unfolding frame_bytes
frame_most p h = omega (arith, mtu_most p h)

-- ---- units
-- the most units that a lawful pair reserves, which are those of gap 1 and MTU 1,471
abbrev pub max_units : ℕ
max_units = 196864

-- a pair with a lower MTU reserves no more
pub units_rise : (p q : Pair) → Lawful q → Lower p q → units p ≤ units q
unfolding units
units_rise p q h low =
    let more = mul-le-mul_right 128 (frame_rises p q low) in
    rw low.0 ((le-div_iff_mul-le (gap_positive q h)).1 (le_trans (div-mul-le_self (frame p * 128) q.gap) more))

-- no lawful pair reserves more than that
pub units_most : (p : Pair) → Lawful p → units p ≤ max_units
unfolding units
units_most p h = let less = frame_most p h in le_trans (div-le_self (frame p * 128) p.gap) (omega arith)

-- nothing is rounded
pub units_exact : (p : Pair) → Lawful p → units p * p.gap ≡ frame p * 128
unfolding units
units_exact p h =
    let divides = dvd_of_mod-eq-zero p.gap (eqb-true (128 % p.gap) 0 (and_parts _ _ (gap_divides_128 p h)).1) in
    div-mul_cancel p.gap (dvd_trans p.gap divides (dvd-mul_left 128 (frame p)))
