-- What a frame counts with, and what a pair reserves of the port. What rests on these uses their laws
-- (FrameLaws.antt): both rise with the MTU, and each has a greatest value.
use Rattle.std.specs.Prelude.{ℕ, ◌+◌, ◌*◌, ◌/◌}
use Rattle.limits.specs.declared.pair.Pair.{Pair}

-- the bytes that a frame with m bytes of a message counts with; the padding of a short frame is not among them
unfoldable pub frame_bytes : ℕ → ℕ
frame_bytes m = m + 67

-- the bytes of one frame of a pair
abbrev pub frame : Pair → ℕ
frame p = frame_bytes p.mtu

-- what a pair reserves, in units of 1/16 kbit/s: one frame every gap is frame × 8 / gap kbit/s
unfoldable pub units : Pair → ℕ
units p = frame p * 128 / p.gap
