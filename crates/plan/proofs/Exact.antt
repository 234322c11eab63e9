-- The message rule in exact fractions and the one in whole numbers are the same.
use Rattle.std.proofs.Common.{◌≡◌, ℕ, ◌+◌, ◌*◌, ◌/◌, ◌<◌, ◌≤◌, true, List, [], ◌∷◌, map, ap, mul-le-mul_right, mul-le-mul_left, mul-pos, one-mul, le_of_mul-le-mul_right, arith}
use Prim.Native.Nat.{◌∣◌}
use native.Mathlib.Nat.{le_of_mul-le-mul_left, mul-div_cancel'}
use Rattle.std.specs.List.{AllByRecursion}
use Rattle.std.proofs.lemmas.Bool.Decides.{nat_tests}
use Rattle.plan.specs.declared.flow.Flow.{Flow}
use Rattle.plan.specs.Regular.{AllInRange}
use Rattle.plan.specs.Cycle.{common}
use Rattle.plan.specs.Fraction.{total}
use Rattle.plan.specs.Message.{frames, rate, meets, sent, Exact}
use Rattle.plan.proofs.Common.{common_pos, common_divided}
use Rattle.plan.proofs.Frames.{sent_falls}

-- one flow more in the sum, where the rest is N / D and sends S in h = p × q milliseconds
add_one_flow : (n p D N h S q : ℕ) → p * q ≡ h → N * h ≡ D * S → (n * D + N * p) * h ≡ p * D * (n * q + S)
add_one_flow n p D N h S q e rest = omega (arith, ap (λ x. n * D * x) e, ap (λ x. p * x) rest)

module _ (h m : ℕ) where
  den_pos : (fs : List Flow) → AllInRange fs → 0 < (total (map (rate m) fs)).den
  den_pos [] r = omega arith
  den_pos (f ∷ fs) r = mul-pos r.0.2 (den_pos fs r.1)

  scaled : (fs : List Flow) → AllByRecursion (λ f. f.cycle ∣ h) fs → (total (map (rate m) fs)).num * h ≡ (total (map (rate m) fs)).den * sent h m fs
  scaled [] d = omega (arith, one-mul h)
  scaled (f ∷ fs) d =
      add_one_flow (frames f.payload m) f.cycle (total (map (rate m) fs)).den (total (map (rate m) fs)).num h (sent h m fs) (h / f.cycle)
      (mul-div_cancel' f.cycle d.0) (scaled fs d.1)

-- N / D is at most 1 / g exactly when g × S is at most h
module _ (N D S g h : ℕ) (e : N * h ≡ D * S) where
  crossed : N * g * h ≡ D * (g * S)
  crossed = omega (arith, ap (λ x. x * g) e)

  to_whole : 0 < D → N * g ≤ 1 * D → g * S ≤ h
  to_whole pos le = le_of_mul-le-mul_left {k = D} (omega (arith, crossed, mul-le-mul_right h le)) pos

  to_fraction : 0 < h → g * S ≤ h → N * g ≤ 1 * D
  to_fraction pos le = le_of_mul-le-mul_right {k = h} (omega (arith, crossed, mul-le-mul_left D le)) pos

pub exact : (fs : List Flow) → AllInRange fs → Exact fs
unfolding meets
exact fs r g m =
    let h = common fs in
    let e = scaled h m fs (common_divided fs) in
    let whole = to_whole _ _ _ g h e (den_pos h m fs r) in
    let fraction = to_fraction _ _ _ g h e (common_pos fs r) in
    grind (arith, nat_tests)

-- what meets the rule at an MTU meets it at a larger one
pub meets_rises : (fs : List Flow) → AllInRange fs → (g m m' : ℕ) → 0 < m → m ≤ m' → meets fs g m ≡ true → meets fs g m' ≡ true
meets_rises fs r g m m' pos le t =
    let fewer = mul-le-mul_left g (sent_falls (common fs) m m' fs pos le) in
    grind (arith, nat_tests, t, exact fs r g m, exact fs r g m')
