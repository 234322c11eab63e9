-- The questions that a call is asked.
use Rattle.std.specs.Prelude.{ℕ, Bool, if◌then◌else◌, List, [], ◌∷◌}

-- each question's number, and whether it is answered yes
abbrev pub Questions : Type 0
Questions = List (ℕ × Bool)

-- the number of the first question that is answered no, or 0
abbrev pub first_no : Questions → ℕ
first_no [] = 0
first_no (q ∷ qs) = if q.1 then first_no qs else q.0
