-- The flows that count for a common cycle: what is left out, and that the cycle stays short.
use Rattle.std.proofs.Common.{◌≡◌, ℕ, ◌<◌, ◌≤◌, ◌&&◌, Bool, List, [], ◌∷◌, Option, None, Some, filter, drop, refl, sym, subst, le_trans, arith}
use Rattle.std.proofs.ByRecursion.{all_kept_by}
use Rattle.plan.specs.declared.flow.Flow.{Flow}
use Rattle.plan.specs.Bounds.{max_common_cycle}
use Rattle.plan.specs.Cycle.{lcm, common}
use Rattle.plan.specs.Edited.{other_name, without}
use Rattle.plan.specs.Regular.{InRange, Regular, counts, counted}
use Rattle.plan.specs.Standing.{is_of, of_link}
use Rattle.plan.proofs.Common.{rest_pos}
use Rattle.plan.proofs.Gcd.{lcm_above}
use Rattle.plan.proofs.Removed.{common-without_of}

-- a test after another is both at once
filters_both : {X : Type 0} (p q : X → Bool) (xs : List X) → filter q (filter p xs) ≡ filter (λ x. p x && q x) xs
filters_both p q [] = refl
filters_both p q (x ∷ xs) = grind (arith, filters_both p q xs)

pub counted_without : (k n : ℕ) (fs : List Flow) → counted k (Some n) fs ≡ without n (of_link k fs)
counted_without k n fs = sym (filters_both (is_of k) (other_name n) fs)

counted_short : (k : ℕ) (but : Option ℕ) (fs : List Flow) → Regular k fs → common (counted k but fs) ≤ max_common_cycle
counted_short k None fs r = r.short
counted_short k (Some n) fs r =
    rw (counted_without k n fs) (le_trans (common-without_of n (of_link k fs) (all_kept_by (is_of k) InRange fs r.range)) r.short)

-- what is joined so far is no longer than what it comes to with the flows that are left
pub joined_short :
    (k : ℕ) (but : Option ℕ) (fs : List Flow) (i joined : ℕ) → Regular k fs → 0 < joined →
    lcm joined (common (counted k but (drop i fs))) ≡ common (counted k but fs) → joined ≤ max_common_cycle
joined_short k but fs i joined r pos e =
    le_trans (lcm_above joined _ pos (rest_pos (counts k but) fs i r.range)) (subst (λ x. x ≤ max_common_cycle) (sym e) (counted_short k but fs r))
