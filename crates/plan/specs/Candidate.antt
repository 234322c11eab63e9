-- The candidates of a link: for each gap the pair with the least MTU that meets the message rule.
use Rattle.std.specs.Prelude.{◌≡◌, ℕ, zero, suc, ◌-◌, ◌≤◌, Bool, true, false, if◌then◌else◌, List, map, Some, None, Option}
use Rattle.std.specs.Option.{option_map}
use Rattle.limits.specs.declared.pair.Pair.{Pair}
use Rattle.limits.specs.Lawful.{mtu_min, mtu_max}
use Rattle.plan.specs.declared.flow.Flow.{Flow}
use Rattle.plan.specs.Message.{meets}

-- the first of the n numbers from low on that passes the test
unfoldable pub first_from : (ℕ → Bool) → ℕ → ℕ → Option ℕ
first_from test low zero = None
first_from test low (suc n) = if test low then Some low else first_from test (suc low) n

-- the least number from low to high that passes the test
abbrev pub least_within : ℕ → ℕ → (ℕ → Bool) → Option ℕ
least_within low high test = first_from test low (suc high - low)

-- the least MTU that meets the message rule at gap g
unfoldable pub least_mtu : List Flow → ℕ → Option ℕ
least_mtu fs g = least_within mtu_min mtu_max (meets fs g)

-- the pair of a gap and an MTU
abbrev pub pair_of : ℕ → ℕ → Pair
pair_of g m = record { gap = g; mtu = m }

-- the candidate of a link's flows at gap g
abbrev pub candidate : List Flow → ℕ → Option Pair
candidate fs g = option_map (pair_of g) (least_mtu fs g)

-- the candidates at each of the gaps
abbrev pub candidates : List ℕ → List Flow → List (Option Pair)
candidates gaps fs = map (candidate fs) gaps

-- what a candidate at gap g is: a pair of that gap whose MTU is in range, meets the rule and exceeds no other MTU that does;
-- and where there is none, no MTU in range meets the rule
abbrev pub LeastAt : List Flow → ℕ → Option Pair → Type 0
LeastAt fs g (Some p) =
    (p.gap ≡ g) × (mtu_min ≤ p.mtu) × (p.mtu ≤ mtu_max) × (meets fs g p.mtu ≡ true)
    × ((m : ℕ) → mtu_min ≤ m → meets fs g m ≡ true → p.mtu ≤ m)
LeastAt fs g None = (m : ℕ) → mtu_min ≤ m → m ≤ mtu_max → meets fs g m ≡ false
