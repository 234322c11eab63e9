-- What the pairs of a selection come to together.
use Rattle.std.specs.Prelude.{ℕ, List, sum_by}
use Rattle.limits.specs.declared.pair.Pair.{Pair}
use Rattle.limits.specs.Frame.{frame, units}

-- the bytes of one frame of every pair
unfoldable pub burst_bytes : List Pair → ℕ
burst_bytes s = sum_by frame s

-- what the pairs reserve, in units of 1/16 kbit/s
unfoldable pub reserve : List Pair → ℕ
reserve s = sum_by units s
