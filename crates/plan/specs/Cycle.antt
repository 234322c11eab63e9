-- The greatest common divisor by Euclid's rule, the least common multiple, and the common cycle of flows.
use Rattle.std.specs.Prelude.{◌≡◌, ℕ, zero, suc, ◌*◌, ◌/◌, ◌%◌, ◌<◌, List, [], ◌∷◌}
use Rattle.std.specs.Int.{◌∣◌}
use Rattle.std.specs.List.{AllByRecursion}
use Rattle.plan.specs.declared.flow.Flow.{Flow}

-- Euclid's rule, at most n times: b falls each time, so b times are enough
unfoldable pub gcd_in : ℕ → ℕ → ℕ → ℕ
gcd_in zero a b = a
gcd_in (suc n) a zero = a
gcd_in (suc n) a (suc b) = gcd_in n (suc b) (a % suc b)

-- the greatest common divisor
unfoldable pub gcd : ℕ → ℕ → ℕ
gcd a b = gcd_in b a b

-- the least common multiple
unfoldable pub lcm : ℕ → ℕ → ℕ
lcm a b = a * (b / gcd a b)

-- the common cycle of flows: the least common multiple of their cycles, 1 where there are none
abbrev pub common : List Flow → ℕ
common [] = 1
common (f ∷ fs) = lcm f.cycle (common fs)

-- the divisor of a and 0 is a, and that of a and b is that of b and a mod b
abbrev pub Euclid : Type 0
Euclid = ((a : ℕ) → gcd a 0 ≡ a) × ((a b : ℕ) → 0 < b → gcd a b ≡ gcd b (a % b))

-- every cycle divides the common cycle, and that divides whatever every cycle divides
abbrev pub LeastCommon : Type 0
LeastCommon =
    (fs : List Flow) → AllByRecursion (λ f. 0 < f.cycle) fs →
    AllByRecursion (λ f. f.cycle ∣ common fs) fs × ((m : ℕ) → AllByRecursion (λ f. f.cycle ∣ m) fs → common fs ∣ m)
