-- The rules of a port in exact fractions are those in whole units and bytes.
use Rattle.std.proofs.Common.{◌≡◌, ℕ, ◌+◌, ◌*◌, ◌<◌, ◌≤◌, List, [], ◌∷◌, map, sum_by, sym, ap, ◌∙◌, mul_assoc, mul_comm, add-mul, mul-le-mul_left, mul-pos, mul-add, mul_right_comm, arith}
use native.Mathlib.Nat.{le_of_mul-le-mul_left}
use Rattle.std.specs.List.{AllByRecursion}
use Rattle.std.proofs.lemmas.Bool.{leb-true, le-leb}
use Rattle.std.proofs.lemmas.List.Sums.{sum_by-cons}
use Rattle.std.proofs.lemmas.Bool.Decides.{same_from_decides}
use Rattle.limits.specs.declared.pair.Pair.{Pair}
use Rattle.limits.specs.Frame.{frame, units}
use Rattle.limits.specs.Rules.{within_share, within_jitter}
use Rattle.limits.specs.Selection.{Lawful}
use Rattle.limits.specs.Sums.{burst_bytes, reserve}
use Rattle.limits.specs.FrameLaws.{gap_positive, units_exact}
use Rattle.limits.specs.SumLaws.{burst_adds, reserve_adds}
use Rattle.plan.specs.Fraction.{total}
use Rattle.planner.specs.Field.{bytes_per_ms, bandwidth_kept, jitter_kept}

-- one pair more in the sum, where the rest is N / D and reserves U units
add_pair : (f g u D N U : ℕ) → u * g ≡ f * 128 → N * 128 ≡ D * U → (f * D + N * g) * 128 ≡ g * D * (u + U)
add_pair f g u D N U exact rest =
    let new : f * D * 128 ≡ g * D * u = mul_right_comm f D 128 ∙ ap (λ x. x * D) (sym exact) ∙ mul_assoc u g D ∙ mul_comm u (g * D) in
    let old : N * g * 128 ≡ g * D * U = mul_right_comm N g 128 ∙ ap (λ x. x * g) rest ∙ mul_comm (D * U) g ∙ sym (mul_assoc g D U) in
    add-mul (f * D) (N * g) 128 ∙ (λ i. new i + old i) ∙ sym (mul-add (g * D) u U)

-- the bytes a millisecond of the pairs, N / D, are their units over 128
scaled : (s : List Pair) → AllByRecursion Lawful s → (total (map bytes_per_ms s)).num * 128 ≡ (total (map bytes_per_ms s)).den * reserve s
scaled [] h = omega (arith, reserve_adds.none)
scaled (p ∷ s) h =
    let N = (total (map bytes_per_ms s)).num in
    let D = (total (map bytes_per_ms s)).den in
    add_pair (frame p) p.gap (units p) D N (reserve s) (units_exact p h.0) (scaled s h.1) ∙ ap (λ x. p.gap * D * x) (sym (reserve_adds.cons p s))

den_positive : (s : List Pair) → AllByRecursion Lawful s → 0 < (total (map bytes_per_ms s)).den
den_positive [] h = omega arith
den_positive (p ∷ s) h = mul-pos (gap_positive p h.0) (den_positive s h.1)

-- 8,000 × N / D is at most 1,000 × R exactly when U is at most 16 × R
module _ (N D U R : ℕ) (e : N * 128 ≡ D * U) where
  wide : R * 1000 * D ≡ 1000 * (D * R)
  wide = ap (λ x. x * D) (mul_comm R 1000) ∙ mul_assoc 1000 R D ∙ ap (λ x. 1000 * x) (mul_comm R D)

  narrow : D * (16 * R) ≡ 16 * (D * R)
  narrow = sym (mul_assoc D 16 R) ∙ ap (λ x. x * R) (mul_comm D 16) ∙ mul_assoc 16 D R

  to_units : 0 < D → 8 * (1000 * N) * 1 ≤ R * 1000 * D → U ≤ 16 * R
  to_units pos le = le_of_mul-le-mul_left {k = D} (omega (arith, e, wide, narrow)) pos

  to_fraction : U ≤ 16 * R → 8 * (1000 * N) * 1 ≤ R * 1000 * D
  to_fraction le = omega (arith, e, wide, narrow, mul-le-mul_left D le)

pub bandwidth_exact : (share : ℕ) (s : List Pair) → AllByRecursion Lawful s → bandwidth_kept share s ≡ within_share share s
bandwidth_exact share s h =
    let e = scaled s h in
    same_from_decides (bandwidth_kept share s) (within_share share s)
    (λ t. to_units _ _ _ share e (den_positive s h) (leb-true _ _ t), λ le. le-leb _ _ (to_fraction _ _ _ share e le))
    (λ t. leb-true _ _ t, λ le. le-leb _ _ le)

-- the bytes of one frame of every pair, added up
bytes_added : (s : List Pair) → burst_bytes s ≡ sum_by frame s
bytes_added [] = burst_adds.none
bytes_added (p ∷ s) = burst_adds.cons p s ∙ ap (λ x. frame p + x) (bytes_added s) ∙ sym (sum_by-cons frame p s)

pub jitter_exact : (rate : ℕ) (s : List Pair) → jitter_kept rate s ≡ within_jitter rate s
jitter_exact rate s =
    let bytes = bytes_added s in
    same_from_decides (jitter_kept rate s) (within_jitter rate s)
    (λ t. let le = leb-true _ _ t in omega (arith, bytes), λ le. le-leb _ _ (omega (arith, bytes))) (λ t. leb-true _ _ t, λ le. le-leb _ _ le)
