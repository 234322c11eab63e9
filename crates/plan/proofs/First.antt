-- The first number that passes a test, by what it is.
use Rattle.std.proofs.Common.{◌≡◌, ℕ, zero, suc, ◌+◌, ◌<◌, ◌≤◌, Bool, true, false, Some, None, Option, ltb, arith, MatchOption}
use Rattle.std.specs.Bool.{then_some}
use Rattle.std.proofs.lemmas.Bool.{cond_both}
use Rattle.std.proofs.lemmas.Bool.Decides.{nat_tests}
use Rattle.plan.specs.Candidate.{first_from}

module _ (test : ℕ → Bool) where
  -- nothing from low up to high passes
  abbrev pub NoneFrom : ℕ → ℕ → Type 0
  NoneFrom low high = (k : ℕ) → low ≤ k → k < high → test k ≡ false

  abbrev pub First : ℕ → ℕ → ℕ → Type 0
  First low n m = (low ≤ m) × (m < low + n) × (test m ≡ true) × NoneFrom low m

  below_too : (low high : ℕ) → test low ≡ false → NoneFrom (suc low) high → NoneFrom low high
  below_too low high f no' k l h = grind (arith, no' k)

  further : (low n : ℕ) → test low ≡ false → (o : Option ℕ) → MatchOption o (NoneFrom (suc low) (suc low + n)) (First (suc low) n) → MatchOption o (NoneFrom low (low + suc n)) (First low (suc n))
  further low n f None no' = below_too low (low + suc n) f (λ k l h. no' k l (omega arith))
  further low n f (Some m) c = (omega arith, omega arith, c.2, below_too low m f c.3)

  pub first_is : (low n : ℕ) → MatchOption (first_from test low n) (NoneFrom low (low + n)) (First low n)
  unfolding first_from
  first_is low zero = λ k l h. absurd (omega arith)
  first_is low (suc n) =
      cond_both (test low) (Some low) (first_from test (suc low) n) (λ o. MatchOption o (NoneFrom low (low + suc n)) (First low (suc n)))
      (λ t. (omega arith, omega arith, t, λ k l h. absurd (omega arith)))
      (λ f. further low n f (first_from test (suc low) n) (first_is (suc low) n))

  -- where nothing before m passes, and m does unless it is past the end, m is the first
  pub same_first : (low n m : ℕ) (o : Option ℕ) → MatchOption o (NoneFrom low (low + n)) (First low n) → low ≤ m → m ≤ low + n → NoneFrom low m → (m < low + n → test m ≡ true) → o ≡ then_some (ltb m (low + n)) m
  same_first low n m None no' le most before here = grind (arith, nat_tests, no' m le, here)
  same_first low n m (Some k) c le most before here = grind (arith, nat_tests, c.2, before k c.0, c.3 m le, here)
