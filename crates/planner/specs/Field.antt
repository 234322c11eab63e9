-- A setting at a port, in the terms of the field and in exact fractions.
use Rattle.std.specs.Prelude.{◌≡◌, ℕ, ◌*◌, Bool, false, ◌&&◌, List, [], ◌∷◌, map, sum_by, ◌==◌}
use Rattle.limits.specs.declared.pair.Pair.{Pair}
use Rattle.limits.specs.declared.port.Port.{Port}
use Rattle.limits.specs.Frame.{frame}
use Rattle.limits.specs.Range.{among}
use Rattle.std.specs.List.{list_all}
use Rattle.limits.specs.Rules.{above_floor}
use Rattle.plan.specs.Fraction.{Fraction, over, plus, total, at_most}
use Rattle.plan.specs.Standing.{Standing}
use Rattle.planner.specs.declared.row.Row.{Row}
use Rattle.planner.specs.Setting.{pairs, messages_served}

-- a fraction n times
abbrev pub times : ℕ → Fraction → Fraction
times n x = over (n * x.num) x.den

-- the bytes that a pair may send in a millisecond: one frame every gap
abbrev pub bytes_per_ms : Pair → Fraction
bytes_per_ms p = over (frame p) p.gap

-- the links together send at most the share: 8 bits a byte and 1,000 ms a second, against the share in bit/s
abbrev pub bandwidth_kept : ℕ → List Pair → Bool
bandwidth_kept share s = at_most (times 8 (times 1000 (total (map bytes_per_ms s)))) (over (share * 1000) 1)

-- a frame waits at most 500 microseconds: 40 in the hardware, and while one frame of every link is sent at the rate in bit/s
abbrev pub jitter_kept : ℕ → List Pair → Bool
jitter_kept rate s = at_most (plus (over 40 1000000) (over (8 * sum_by frame s) (rate * 1000))) (over 500 1000000)

-- the message rule of every link, the bandwidth, the jitter and the floor are kept
abbrev pub field_rules : Port → Standing → List Row → Bool
field_rules port st rows =
    list_all (messages_served st) rows
    && (bandwidth_kept port.share (pairs rows)
    && (jitter_kept port.rate (pairs rows) && above_floor port.floor (pairs rows)))

-- what a setting at a port is told, unless it is refused for its links, its names, its gaps or its MTUs: 0 exactly when the
-- rules of the field hold
abbrev pub JudgedByField : Port → Standing → List Row → ℕ × ℕ → Type 0
JudgedByField port st rows told =
    among (13 ∷ 19 ∷ 20 ∷ 21 ∷ []) told.0 ≡ false → (told.0 == 0) ≡ field_rules port st rows
