-- The common cycle of flows is their cycles' least common multiple.
use mathlib.Core.List.{List, [], ◌∷◌}
use Prim.Native.Nat.{ℕ, ◌<◌, ◌∣◌}
use native.Mathlib.Nat.{dvd_trans, one-dvd}
use native.Mathlib.Omega.{arith}
use Rattle.std.proofs.Common.{Bool, drop, filter}
use Rattle.std.specs.List.{AllByRecursion}
use Rattle.std.proofs.ByRecursion.{All-weaker, All-drop, all_kept_by}
use Rattle.std.proofs.lemmas.Grind.{common_steps}
use Rattle.plan.specs.declared.flow.Flow.{Flow}
use Rattle.plan.specs.Cycle.{lcm, common, LeastCommon}
use Rattle.plan.specs.Regular.{InRange, AllInRange}
use Rattle.plan.proofs.Gcd.{lcm_above, lcm_assoc, lcm-one_left, lcm-one_right, lcm_left, lcm_right, lcm_least, lcm_pos}

-- every cycle is positive
abbrev Positive : List Flow → Type 0
Positive fs = AllByRecursion (λ f. 0 < f.cycle) fs

positive_common : (fs : List Flow) → Positive fs → 0 < common fs
positive_common [] p = omega arith
positive_common (f ∷ fs) p = lcm_pos f.cycle (common fs) p.0 (positive_common fs p.1)

positive : (fs : List Flow) → AllInRange fs → Positive fs
positive fs r = All-weaker _ (λ f. 0 < f.cycle) (λ f e. e.2) fs r

pub common_pos : (fs : List Flow) → AllInRange fs → 0 < common fs
common_pos fs r = positive_common fs (positive fs r)

-- so it is for those of the flows that pass a test
pub kept_pos : (test : Flow → Bool) (fs : List Flow) → AllInRange fs → 0 < common (filter test fs)
kept_pos test fs r = common_pos (filter test fs) (all_kept_by test InRange fs r)

pub rest_pos : (test : Flow → Bool) (fs : List Flow) (i : ℕ) → AllInRange fs → 0 < common (filter test (drop i fs))
rest_pos test fs i r = kept_pos test (drop i fs) (All-drop InRange i fs r)

pub common_divided : (fs : List Flow) → AllByRecursion (λ f. f.cycle ∣ common fs) fs
common_divided [] = tt
common_divided (f ∷ fs) = (
  lcm_left f.cycle (common fs),
  All-weaker _ (λ g. g.cycle ∣ lcm f.cycle (common fs)) (λ g d. dvd_trans g.cycle d (lcm_right f.cycle (common fs))) fs (common_divided fs),
)

divides_positive : (fs : List Flow) → Positive fs → (m : ℕ) → AllByRecursion (λ f. f.cycle ∣ m) fs → common fs ∣ m
divides_positive [] p m d = one-dvd m
divides_positive (f ∷ fs) p m d = lcm_least f.cycle (common fs) m (positive_common fs p.1) d.0 (divides_positive fs p.1 m d.1)

pub common_divides : (fs : List Flow) → AllInRange fs → (m : ℕ) → AllByRecursion (λ f. f.cycle ∣ m) fs → common fs ∣ m
common_divides fs r = divides_positive fs (positive fs r)

pub common_least : LeastCommon
common_least fs p = (common_divided fs, divides_positive fs p)

-- what a loop needs that joins the cycles one by one
pub ruleset joining = (common_steps, lcm_above, lcm_pos, lcm_assoc, lcm-one_left, lcm-one_right, common_pos, rest_pos)
