-- Exact fractions.
use Rattle.std.specs.Prelude.{ℕ, ◌+◌, ◌*◌, Bool, List, [], ◌∷◌, nat_le}

-- a numerator over a denominator; the rules have only positive ones: gaps, cycles, rates and products of them
pub record Fraction : Type 0 where
  pub num : ℕ
  pub den : ℕ

-- n over d
abbrev pub over : ℕ → ℕ → Fraction
over n d = record { num = n; den = d }

-- the sum of two, over the product of the denominators
abbrev pub plus : Fraction → Fraction → Fraction
plus x y = over (x.num * y.den + y.num * x.den) (x.den * y.den)

-- the sum of a list
abbrev pub total : List Fraction → Fraction
total [] = over 0 1
total (x ∷ xs) = plus x (total xs)

-- x is at most y, by cross-multiplication
abbrev pub at_most : Fraction → Fraction → Bool
at_most x y = nat_le (x.num * y.den) (y.num * x.den)
