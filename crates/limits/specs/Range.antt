-- Tests on numbers that the rules are put in.
use Rattle.std.specs.Prelude.{ℕ, Bool, ◌&&◌, List, nat_eq, nat_le}
use Rattle.std.specs.List.{list_any}

-- x is from low to high
abbrev pub within : ℕ → ℕ → ℕ → Bool
within low high x = nat_le low x && nat_le x high

-- x is one of the numbers
abbrev pub among : List ℕ → ℕ → Bool
among xs x = list_any (λ y. nat_eq y x) xs
