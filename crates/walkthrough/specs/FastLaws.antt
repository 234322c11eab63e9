-- The laws of the count of pairs at a gap of 1 ms: it adds up 1 for each of them.
use Rattle.std.specs.Prelude.{◌≡◌, ◌≤◌, ℕ, if◌then◌else◌, List, ◌++◌, ◌==◌}
use Rattle.std.proofs.Common.{ap, arith}
use Rattle.limits.specs.declared.pair.Pair.{Pair}
use Rattle.limits.specs.Breach.{unless}
use Rattle.limits.specs.Kept.{still_within, less_within}
use Rattle.limits.specs.Selection.{Selection, Lower, Lowered}
use Rattle.limits.specs.SumLaws.{Adds, adds}
use Rattle.walkthrough.specs.FewFast.{is_fast, fast, few_fast}

-- what a pair adds
abbrev one_if_fast : Pair → ℕ
one_if_fast p = if is_fast p then 1 else 0

-- a lowered MTU leaves the gap
one_stays : (p q : Pair) → Lower p q → one_if_fast p ≤ one_if_fast q
one_stays p q low = let same = ap {B = ℕ} (λ gap. if gap == 1 then 1 else 0) low.0 in omega (arith, same)

one_most : (p : Pair) → one_if_fast p ≤ 1
one_most p = grind (arith)

pub fast_adds : Adds fast one_if_fast 1
fast_adds = adds one_if_fast 1 (λ p q _ low. one_stays p q low) (λ p _. one_most p)

-- the two laws of the limit
pub few_fast_begins : (most : ℕ) (xs ys : List Pair) → unless (few_fast most (xs ++ ys)) ≡ 0 → unless (few_fast most xs) ≡ 0
few_fast_begins most xs ys =
    still_within (few_fast most (xs ++ ys)) (few_fast most xs) (less_within (fast xs) _ most (fast_adds.begins xs ys))

pub few_fast_lowers : (most : ℕ) (xs ys : List Pair) → Selection ys → Lowered xs ys → unless (few_fast most ys) ≡ 0 → unless (few_fast most xs) ≡ 0
few_fast_lowers most xs ys sel low =
    still_within (few_fast most ys) (few_fast most xs) (less_within (fast xs) _ most (fast_adds.lowers xs ys sel low))
