-- Lowered MTUs leave the gaps, and with them what the floor says.
use Rattle.std.specs.Prelude.{◌≡◌, ℕ, ◌&&◌, List, [], ◌∷◌, nat_le, refl}
use Rattle.limits.specs.declared.pair.Pair.{Pair}
use Rattle.limits.specs.Rules.{above_floor}
use Rattle.limits.specs.Selection.{Lowered}

-- the floor says of both lists the same
pub same_floor : (d : ℕ) (xs ys : List Pair) → Lowered xs ys → above_floor d xs ≡ above_floor d ys
same_floor d [] [] low = refl
same_floor d [] (y ∷ ys) low = absurd low
same_floor d (x ∷ xs) [] low = absurd low
same_floor d (x ∷ xs) (y ∷ ys) low = λ i. nat_le d (low.0.0 i) && same_floor d xs ys low.1 i
