-- The laws of the three rules: what a limit that is one of them rests on.
use Rattle.std.specs.Prelude.{◌≡◌, ℕ, ◌*◌, List, ◌++◌, nat_le}
use Rattle.std.proofs.Common.{sym, ◌∙◌, mul-le-mul_left}
use Rattle.std.proofs.lemmas.Bool.{and_parts}
use Rattle.std.proofs.lemmas.List.Folds.{list_all-append}
use Rattle.limits.specs.declared.pair.Pair.{Pair}
use Rattle.limits.specs.Breach.{unless}
use Rattle.limits.specs.Kept.{still_within, less_within}
use Rattle.limits.specs.Rules.{above_floor, within_share, within_jitter}
use Rattle.limits.specs.SameGaps.{same_floor}
use Rattle.limits.specs.Selection.{Selection, Lowered}
use Rattle.limits.specs.SumLaws.{burst_adds, reserve_adds}
use Rattle.limits.specs.Sums.{burst_bytes, reserve}

-- a beginning of a selection keeps a rule that the whole keeps, and a selection keeps it when MTUs are lowered
pub record Keeps (breach : List Pair → ℕ) : Type 0 where
  pub begins : (xs ys : List Pair) → breach (xs ++ ys) ≡ 0 → breach xs ≡ 0
  pub lowers : (xs ys : List Pair) → Selection ys → Lowered xs ys → breach ys ≡ 0 → breach xs ≡ 0

pub floor_keeps : (d : ℕ) → Keeps (λ s. unless (above_floor d s))
floor_keeps d = record {
  begins = λ xs ys. still_within (above_floor d (xs ++ ys)) (above_floor d xs) (λ e. (and_parts _ _ (sym (list_all-append (λ p. nat_le d p.gap) xs ys) ∙ e)).0);
  lowers = λ xs ys sel low. still_within (above_floor d ys) (above_floor d xs) (λ e. same_floor d xs ys low ∙ e);
}

pub share_keeps : (r : ℕ) → Keeps (λ s. unless (within_share r s))
share_keeps r = record {
  begins = λ xs ys. still_within (within_share r (xs ++ ys)) (within_share r xs) (less_within (reserve xs) _ (16 * r) (reserve_adds.begins xs ys));
  lowers = λ xs ys sel low. still_within (within_share r ys) (within_share r xs) (less_within (reserve xs) _ (16 * r) (reserve_adds.lowers xs ys sel low));
}

pub jitter_keeps : (c : ℕ) → Keeps (λ s. unless (within_jitter c s))
jitter_keeps c = record {
  begins = λ xs ys. still_within (within_jitter c (xs ++ ys)) (within_jitter c xs) (less_within (400 * burst_bytes xs) _ (23 * c) (mul-le-mul_left 400 (burst_adds.begins xs ys)));
  lowers = λ xs ys sel low. still_within (within_jitter c ys) (within_jitter c xs) (less_within (400 * burst_bytes xs) _ (23 * c) (mul-le-mul_left 400 (burst_adds.lowers xs ys sel low)));
}
