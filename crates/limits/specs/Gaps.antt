-- The gaps that a pair may have. What depends on gaps takes such a list as an argument.
use Rattle.std.specs.Prelude.{ℕ, List, [], ◌∷◌}

-- the eight bandwidth allocation gaps of the port, in milliseconds, rising
abbrev pub eight_gaps : List ℕ
eight_gaps = 1 ∷ 2 ∷ 4 ∷ 8 ∷ 16 ∷ 32 ∷ 64 ∷ 128 ∷ []
