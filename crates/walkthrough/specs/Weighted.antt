-- What is reserved and the bytes of the frames in one figure, at so many units for each byte.
use Rattle.std.specs.Prelude.{ℕ, ◌+◌, ◌*◌, List}
use Rattle.limits.specs.declared.pair.Pair.{Pair}
use Rattle.limits.specs.Frame.{frame, units}
use Rattle.limits.specs.Sums.{burst_bytes, reserve}

-- of a pair
abbrev pub weighted_pair : ℕ → Pair → ℕ
weighted_pair byte p = units p + byte * frame p

-- of a selection
abbrev pub weighted : ℕ → List Pair → ℕ
weighted byte s = reserve s + byte * burst_bytes s
