-- A call that is not refused had every question answered yes.
use Rattle.std.proofs.Common.{◌≡◌, ℕ, ◌<◌, Bool, true, false, cond, [], ◌∷◌, refl, arith}
use Rattle.std.specs.List.{AllByRecursion}
use Rattle.limits.specs.Questions.{Questions, first_no}

asked : (n : ℕ) (b : Bool) (rest : ℕ) → 0 < n → 0 ≡ cond b rest n → (b ≡ true) × (0 ≡ rest)
asked n true rest pos h = (refl, h)
asked n false rest pos h = absurd (omega arith)

pub all_yes : (qs : Questions) → AllByRecursion (λ q. 0 < q.0) qs → 0 ≡ first_no qs → AllByRecursion (λ q. q.1 ≡ true) qs
all_yes [] pos h = tt
all_yes (q ∷ qs) pos h = let a = asked q.0 q.1 (first_no qs) pos.0 h in (a.0, all_yes qs pos.1 a.1)
