-- Which numbers are among a list.
use Rattle.std.specs.Prelude.{◌≡◌, ℕ, zero, suc, ◌<◌, true, List, [], ◌∷◌, length, ◌==◌, slice_index, refl}
use Rattle.std.proofs.Common.{subst, inl, inr, arith}
use Rattle.std.specs.List.{AllByRecursion}
use Rattle.std.proofs.lemmas.Bool.{eq-eqb, eqb-true, or_left, or_right, or_cases, false≢true}
use Rattle.limits.specs.Range.{among}

-- each number of a list is among it
pub among-get_or : (xs : List ℕ) (k : ℕ) → k < length xs → among xs (slice_index xs k) ≡ true
among-get_or [] k h = absurd (omega arith)
among-get_or (x ∷ xs) zero h = or_left _ _ (eq-eqb x x refl)
among-get_or (x ∷ xs) (suc k) h = or_right (x == slice_index xs k) _ (among-get_or xs k (omega arith))

-- what holds of each number holds of one that is among them
pub all_among : (P : ℕ → Type 0) (xs : List ℕ) (x : ℕ) → AllByRecursion P xs → among xs x ≡ true → P x
all_among P [] x h e = absurd (false≢true e)
all_among P (y ∷ ys) x h e =
    elim (or_cases (y == x) (among ys x) e) [ inl q ↦ subst P (eqb-true y x q) h.0 | inr q ↦ all_among P ys x h.1 q ]
