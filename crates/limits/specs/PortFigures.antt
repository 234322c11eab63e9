-- The figures of a port: its rate and the share that links may reserve in kbit/s, and its floor, the least gap in ms.
use Rattle.std.specs.Prelude.{ℕ, [], ◌∷◌}
use Rattle.limits.specs.Gaps.{eight_gaps}
use Rattle.limits.specs.Questions.{Questions, first_no}
use Rattle.limits.specs.Range.{within, among}

-- the highest rate, in kbit/s
abbrev pub max_rate : ℕ
max_rate = 1000000

-- what is asked of the figures of a port
abbrev pub port_questions : ℕ → ℕ → ℕ → Questions
port_questions rate share floor =
    (1, within 1 max_rate rate)
    ∷ (2, within 1 rate share)
    ∷ (3, among eight_gaps floor)
    ∷ []

-- 0 where the figures are accepted, else the number of the refusal
abbrev pub port_answer : ℕ → ℕ → ℕ → ℕ
port_answer rate share floor = first_no (port_questions rate share floor)
