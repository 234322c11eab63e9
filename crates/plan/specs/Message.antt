-- The message rule: which gaps and MTUs serve the flows of a link.
use Rattle.std.specs.Prelude.{◌≡◌, ℕ, ◌+◌, ◌*◌, ◌/◌, ◌%◌, ◌<◌, ◌≤◌, min, Bool, List, [], ◌∷◌, map, nat_le}
use Rattle.plan.specs.declared.flow.Flow.{Flow}
use Rattle.plan.specs.Cycle.{common}
use Rattle.plan.specs.Fraction.{Fraction, over, total, at_most}

-- the frames that a payload is cut into at MTU m: the quotient, and one more where bytes are left over
unfoldable pub frames : ℕ → ℕ → ℕ
frames payload m = payload / m + min 1 (payload % m)

-- frames of m bytes are just enough for a payload: they hold it, and no smaller number does
abbrev pub JustEnough : Type 0
JustEnough = (l m : ℕ) → 0 < m → (l ≤ frames l m * m) × ((k : ℕ) → l ≤ k * m → frames l m ≤ k)

-- the frames that a flow sends in a millisecond
abbrev pub rate : ℕ → Flow → Fraction
rate m f = over (frames f.payload m) f.cycle

-- the message rule of a link's flows at gap g and MTU m: together they send at most one frame every g milliseconds
unfoldable pub meets : List Flow → ℕ → ℕ → Bool
meets fs g m = at_most (total (map (rate m) fs)) (over 1 g)

-- the frames that a flow sends in h milliseconds, where its cycle divides h
abbrev pub sent_by : ℕ → ℕ → Flow → ℕ
sent_by h m f = frames f.payload m * (h / f.cycle)

-- the frames that the flows send in h milliseconds together
abbrev pub sent : ℕ → ℕ → List Flow → ℕ
sent h m [] = 0
sent h m (f ∷ fs) = sent_by h m f + sent h m fs

-- the same rule in whole numbers: in one common cycle every frame has its gap
abbrev pub meets_whole : List Flow → ℕ → ℕ → Bool
meets_whole fs g m = nat_le (g * sent (common fs) m fs) (common fs)

-- the two rules are the same
abbrev pub Exact : List Flow → Type 0
Exact fs = (g m : ℕ) → meets fs g m ≡ meets_whole fs g m
