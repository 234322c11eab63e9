-- The burst of a selection, and how two bursts compare.
use Rattle.std.specs.Prelude.{Bool, ◌&&◌, ◌||◌, List, ◌==◌, nat_le, nat_lt}
use Rattle.limits.specs.declared.pair.Pair.{Pair}
use Rattle.limits.specs.declared.burst_total.BurstTotal.{BurstTotal}
use Rattle.limits.specs.Frame.{frame, units}
use Rattle.limits.specs.Sums.{burst_bytes, reserve}

-- the bytes of one frame of every pair, and what the pairs reserve
abbrev pub burst : List Pair → BurstTotal
burst s = record { bytes = burst_bytes s; units = reserve s }

-- the same of one pair
abbrev pub burst_of_pair : Pair → BurstTotal
burst_of_pair p = record { bytes = frame p; units = units p }

-- fewer bytes, or as many and no more reserved
abbrev pub burst_at_most : BurstTotal → BurstTotal → Bool
burst_at_most x y = nat_lt x.bytes y.bytes || (x.bytes == y.bytes && nat_le x.units y.units)
