-- Questions that tell a detail.
use Rattle.std.specs.Prelude.{ℕ, suc, Bool, if◌then◌else◌, List, [], ◌∷◌, Some, None, Option}
use Rattle.std.specs.Option.{option_map}

-- each question's number, and the detail of what fails it first, if anything does
abbrev pub Asked : Type 0
Asked = List (ℕ × Option ℕ)

-- the number with the detail, or what is told otherwise where nothing fails
abbrev pub told_or : ℕ → (ℕ × ℕ) → Option ℕ → ℕ × ℕ
told_or number otherwise None = otherwise
told_or number otherwise (Some detail) = (number, detail)

-- the number and the detail of the first question that something fails, or 0 and 0
abbrev pub refusal : Asked → ℕ × ℕ
refusal [] = (0, 0)
refusal (q ∷ qs) = told_or q.0 (refusal qs) q.1

-- the place, from 1, of the first element that fails the test
abbrev pub first_failing : {X : Type 0} → (X → Bool) → List X → Option ℕ
first_failing test [] = None
first_failing test (x ∷ xs) = if test x then option_map suc (first_failing test xs) else Some 1
