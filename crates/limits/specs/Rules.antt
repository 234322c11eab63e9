-- The rules of a port, each a test of a selection.
use Rattle.std.specs.Prelude.{ℕ, ◌*◌, Bool, List, nat_le}
use Rattle.limits.specs.declared.pair.Pair.{Pair}
use Rattle.std.specs.List.{list_all}
use Rattle.limits.specs.Sums.{burst_bytes, reserve}

-- no gap is below d milliseconds
abbrev pub above_floor : ℕ → List Pair → Bool
above_floor d s = list_all (λ p. nat_le d p.gap) s

-- the pairs reserve at most r kbit/s
abbrev pub within_share : ℕ → List Pair → Bool
within_share r s = nat_le (reserve s) (16 * r)

-- at c kbit/s one frame of every pair takes at most 460 microseconds: 8 × bytes / c milliseconds
abbrev pub within_jitter : ℕ → List Pair → Bool
within_jitter c s = nat_le (400 * burst_bytes s) (23 * c)
