-- Euclid's rule, and the least common multiple by it.
use Rattle.std.proofs.Common.{◌≡◌, ℕ, zero, suc, ◌+◌, ◌*◌, ◌/◌, ◌%◌, ◌<◌, ◌≤◌, sym, refl, ap, ◌∙◌, subst, mod-lt, mul_comm, mul-pos, arith}
use Prim.Native.Nat.{◌∣◌}
use native.Mathlib.Nat.{dvd_refl, dvd_antisymm, dvd_trans, one-dvd, dvd-add_iff_right, dvd-mul_left, dvd-mul_right, dvd-mul_right_of_dvd, dvd_of_mul-dvd-mul_right, mul-dvd-mul_left, mul-dvd-mul_right, pos_of_dvd_of_pos, le_of_dvd, div-add-mod, div-mul_cancel, mul-div_cancel'}
use Rattle.std.specs.Int.{IsGcd}
use Rattle.std.proofs.lemmas.Nat.Gcd.{IsGcd-from_zero, IsGcd-from_mod}
use Rattle.plan.specs.Cycle.{gcd_in, gcd, lcm, Euclid}

enough : (n m a b : ℕ) → b ≤ n → b ≤ m → gcd_in n a b ≡ gcd_in m a b
unfolding gcd_in
enough zero zero a b p q = refl
enough zero (suc m) a zero p q = refl
enough zero (suc m) a (suc b) p q = absurd (omega arith)
enough (suc n) zero a zero p q = refl
enough (suc n) zero a (suc b) p q = absurd (omega arith)
enough (suc n) (suc m) a zero p q = refl
enough (suc n) (suc m) a (suc b) p q =
    let pos : 0 < suc b = omega arith in
    let less = mod-lt a {m = suc b} pos in
    enough n m (suc b) (a % suc b) (omega arith) (omega arith)

pub gcd_more : (a b : ℕ) → 0 < b → gcd a b ≡ gcd b (a % b)
unfolding gcd gcd_in
gcd_more a zero h = absurd (omega arith)
gcd_more a (suc b) h =
    let less = mod-lt a {m = suc b} h in
    enough b (a % suc b) (suc b) (a % suc b) (omega arith) (omega arith)

pub euclid : Euclid
unfolding gcd gcd_in
euclid = (λ a. refl, gcd_more)

module _ (P : ℕ → ℕ → ℕ → Type 0) (base : (a : ℕ) → P a 0 a) (step : (a b g : ℕ) → 0 < b → P b (a % b) g → P a b g) where
  walk : (n a b : ℕ) → b ≤ n → P a b (gcd_in n a b)
  unfolding gcd_in
  walk zero a zero p = base a
  walk zero a (suc b) p = absurd (omega arith)
  walk (suc n) a zero p = base a
  walk (suc n) a (suc b) p =
      let pos : 0 < suc b = omega arith in
      let less = mod-lt a {m = suc b} pos in
      step a (suc b) _ pos (walk n (suc b) (a % suc b) (omega arith))

  pub gcd_ind : (a b : ℕ) → P a b (gcd a b)
  unfolding gcd
  gcd_ind a b = walk b a b (omega arith)

gcd_is : (a b : ℕ) → IsGcd a b (gcd a b)
gcd_is = gcd_ind IsGcd (λ a. IsGcd-from_zero a 0 refl) (λ a b g _ h. IsGcd-from_mod a b g h)

-- what divides x times both divides x times their greatest common divisor
pub gcd_greatest : (k x a b : ℕ) → k ∣ x * a → k ∣ x * b → k ∣ x * gcd a b
gcd_greatest k x a b =
    gcd_ind (λ a b g. k ∣ x * a → k ∣ x * b → k ∣ x * g) (λ a p q. p)
    (λ a b g pos h p q.
    let whole : x * b * (a / b) + x * (a % b) ≡ x * a = omega (arith, ap (λ n. x * n) (div-add-mod a b)) in
    h q ((dvd-add_iff_right k (dvd-mul_right_of_dvd k q (a / b))).1 (subst (λ n. k ∣ n) (sym whole) p)))
    a b

pub gcd_pos : (a b : ℕ) → 0 < b → 0 < gcd a b
gcd_pos a b h = pos_of_dvd_of_pos (gcd_is a b).1 h

pub lcm_left : (a b : ℕ) → a ∣ lcm a b
unfolding lcm
lcm_left a b = dvd-mul_right a (b / gcd a b)

pub lcm_right : (a b : ℕ) → b ∣ lcm a b
unfolding lcm
lcm_right a b =
    let g = gcd a b in
    let d = gcd_is a b in
    let e : a / g * b ≡ a * (b / g) = omega (arith, ap (λ n. a / g * n) (mul-div_cancel' g d.1), ap (λ n. n * (b / g)) (div-mul_cancel g d.0)) in
    subst (λ n. b ∣ n) e (dvd-mul_left b (a / g))

pub lcm_least : (a b m : ℕ) → 0 < b → a ∣ m → b ∣ m → lcm a b ∣ m
unfolding lcm
lcm_least a b m pos p q =
    let g = gcd a b in
    let e : a * b ≡ a * (b / g) * g = omega (arith, ap (λ n. a * n) (div-mul_cancel g (gcd_is a b).1)) in
    let both = gcd_greatest (a * b) m a b (subst (λ n. a * b ∣ n) (mul_comm a m) (mul-dvd-mul_left b a q)) (mul-dvd-mul_right a p b) in
    dvd_of_mul-dvd-mul_right (a * (b / g)) (gcd_pos a b pos) (subst (λ n. n ∣ m * g) e both)

pub lcm_pos : (a b : ℕ) → 0 < a → 0 < b → 0 < lcm a b
lcm_pos a b p q = pos_of_dvd_of_pos (lcm_least a b (a * b) q (dvd-mul_right a b) (dvd-mul_left b a)) (mul-pos p q)

pub lcm_above : (a b : ℕ) → 0 < a → 0 < b → a ≤ lcm a b
lcm_above a b p q = le_of_dvd (lcm_pos a b p q) (lcm_left a b)

pub lcm_comm : (a b : ℕ) → 0 < a → 0 < b → lcm a b ≡ lcm b a
lcm_comm a b p q = dvd_antisymm (lcm_least a b (lcm b a) q (lcm_right b a) (lcm_left b a)) (lcm_least b a (lcm a b) p (lcm_right a b) (lcm_left a b))

pub lcm_assoc : (a b c : ℕ) → 0 < b → 0 < c → lcm (lcm a b) c ≡ lcm a (lcm b c)
lcm_assoc a b c p q =
    let whole = lcm a (lcm b c) in
    let front = lcm (lcm a b) c in
    let inner = lcm_right a (lcm b c) in
    let outer = lcm_left (lcm a b) c in
    dvd_antisymm
    (lcm_least (lcm a b) c whole q (lcm_least a b whole p (lcm_left a (lcm b c)) (dvd_trans b (lcm_left b c) inner)) (dvd_trans c (lcm_right b c) inner))
    (lcm_least a (lcm b c) front (lcm_pos b c p q) (dvd_trans a (lcm_left a b) outer) (lcm_least b c front q (dvd_trans b (lcm_right a b) outer) (lcm_right (lcm a b) c)))

-- two that are joined to a third change places
pub lcm_swap : (a b c : ℕ) → 0 < a → 0 < b → 0 < c → lcm a (lcm b c) ≡ lcm b (lcm a c)
lcm_swap a b c p q r = sym (lcm_assoc a b c q r) ∙ ap (λ x. lcm x c) (lcm_comm a b p q) ∙ lcm_assoc b a c p r

pub lcm-one_left : (b : ℕ) → 0 < b → lcm 1 b ≡ b
lcm-one_left b p = dvd_antisymm (lcm_least 1 b b p (one-dvd b) (dvd_refl b)) (lcm_right 1 b)

pub lcm-one_right : (a : ℕ) → lcm a 1 ≡ a
lcm-one_right a = dvd_antisymm (lcm_least a 1 a (omega arith) (dvd_refl a) (one-dvd a)) (lcm_left a 1)
