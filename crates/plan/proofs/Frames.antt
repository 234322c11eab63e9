-- Frames of a payload: enough to carry it, and no more than any number that is enough.
use Rattle.std.proofs.Common.{ℕ, ◌+◌, ◌*◌, ◌/◌, ◌<◌, ◌≤◌, List, [], ◌∷◌, le_trans, mul-le-mul_right, mul-le-mul, lt_of_mul-lt-mul_right, mul-le-mul_left, div-le_self, le-mul_of_pos_right, arith}
use Rattle.std.proofs.lemmas.Grind.{div_ceil_times}
use Rattle.plan.specs.declared.flow.Flow.{Flow}
use Rattle.plan.specs.Bounds.{max_payload, max_common_cycle}
use Rattle.plan.specs.Message.{frames, sent_by, sent}

pub frames_enough : (l m : ℕ) → 0 < m → l ≤ frames l m * m
unfolding frames
frames_enough l m pos = (div_ceil_times l m pos).0

pub frames_fewest : (l m k : ℕ) → 0 < m → l ≤ k * m → frames l m ≤ k
unfolding frames
frames_fewest l m k pos h =
    let less : frames l m < k + 1 = lt_of_mul-lt-mul_right m (omega (arith, (div_ceil_times l m pos).1)) in
    omega arith

pub frames_le_payload : (l m : ℕ) → 0 < m → frames l m ≤ l
frames_le_payload l m pos = frames_fewest l m l pos (le-mul_of_pos_right l pos)

-- a larger MTU needs no more frames
pub frames_fall : (l m m' : ℕ) → 0 < m → m ≤ m' → frames l m' ≤ frames l m
frames_fall l m m' pos h =
    frames_fewest l m' (frames l m) (omega arith) (omega (arith, frames_enough l m pos, mul-le-mul_left (frames l m) h))

pub sent_falls : (h m m' : ℕ) (fs : List Flow) → 0 < m → m ≤ m' → sent h m' fs ≤ sent h m fs
sent_falls h m m' [] pos le = omega arith
sent_falls h m m' (f ∷ fs) pos le =
    omega (arith, mul-le-mul_right (h / f.cycle) (frames_fall f.payload m m' pos le), sent_falls h m m' fs pos le)

-- a flow in range sends so many frames at most
pub sent_by_bound : (h m : ℕ) (f : Flow) → 0 < m → f.payload ≤ max_payload → h ≤ max_common_cycle → sent_by h m f ≤ max_payload * max_common_cycle
sent_by_bound h m f pos small short =
    let few = frames_le_payload f.payload m pos in
    let turns = div-le_self h f.cycle in
    mul-le-mul (le_trans few small) (le_trans turns short)
