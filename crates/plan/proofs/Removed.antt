-- A flow struck by its name: its place, what it keeps, and that no common cycle grows.
use Rattle.std.proofs.Common.{◌≡◌, ℕ, ◌<◌, ◌≤◌, Bool, false, List, [], ◌∷◌, length, filter, refl, arith}
use Prim.Native.Nat.{◌∣◌}
use native.Mathlib.Nat.{le_of_dvd}
use Rattle.std.specs.List.{remove}
use Rattle.std.proofs.ByRecursion.{all_kept_by}
use Rattle.std.proofs.lemmas.List.Sums.{length-filter, count_by-le-length}
use Rattle.std.proofs.lemmas.Bool.{cond_both}
use Rattle.std.proofs.lemmas.Map.Views.{any-filter_same}
use Rattle.std.proofs.lemmas.Bool.Decides.{nat_tests}
use Rattle.plan.specs.declared.flow.Flow.{Flow}
use Rattle.plan.specs.Cycle.{common}
use Rattle.plan.specs.Edited.{other_name, without}
use Rattle.plan.specs.Regular.{InRange, AllInRange}
use Rattle.plan.specs.Standing.{is_named, named, is_of, of_link}
use Rattle.plan.proofs.Common.{common_pos, common_divided, common_divides}
use Rattle.plan.proofs.Every.{Up}
use Rattle.plan.proofs.Found.{Found, here, there}

-- two tests pass in either order
pub filters_swap : {X : Type 0} (p q : X → Bool) (xs : List X) → filter p (filter q xs) ≡ filter q (filter p xs)
filters_swap p q [] = refl
filters_swap p q (x ∷ xs) = grind (arith, filters_swap p q xs)

-- what passes a test passes it again
pub filter_again : {X : Type 0} (p : X → Bool) (xs : List X) → filter p (filter p xs) ≡ filter p xs
filter_again p [] = refl
filter_again p (x ∷ xs) = grind (arith, filter_again p xs)

pub without_none : (n : ℕ) (fs : List Flow) → named fs n ≡ false → without n fs ≡ fs
without_none n [] h = refl
without_none n (f ∷ fs) h = grind (arith, without_none n fs)

-- the name is free again
pub not_named_without : (n : ℕ) (fs : List Flow) → named (without n fs) n ≡ false
not_named_without n fs = any-filter_same (is_named n) (other_name n) false (λ f e. grind arith) fs

pub length_without : (n : ℕ) (fs : List Flow) → length (without n fs) ≤ length fs
length_without n fs = omega (arith, length-filter (other_name n) fs, count_by-le-length (other_name n) fs)

pub Up-without : (n : ℕ) (fs : List Flow) → Up fs → Up (without n fs)
Up-without n [] up = tt
Up-without n (f ∷ fs) up =
    cond_both (other_name n f) (f ∷ without n fs) (without n fs) Up
    (λ _. (all_kept_by (other_name n) (λ g. f.name < g.name) fs up.0, Up-without n fs up.1)) (λ _. Up-without n fs up.1)

pub without_at : {n : ℕ} {fs : List Flow} {k : ℕ} → Found n fs k → remove fs k ≡ without n fs
without_at {n} (here {f = f} {fs = fs} e none) = grind (arith, nat_tests, without_none n fs none)
without_at {n} (there {f = f} {fs = fs} ne r) = grind (arith, nat_tests, without_at r)

-- the place is free again
pub length-without_found : {n : ℕ} {fs : List Flow} {k : ℕ} → Found n fs k → length (without n fs) < length fs
length-without_found {n} (here {f = f} {fs = fs} e none) = grind (arith, nat_tests, length_without n fs)
length-without_found {n} (there {f = f} {fs = fs} ne r) = grind (arith, nat_tests, length-without_found r)

-- a common cycle divides that of more flows
pub common-without_of : (n : ℕ) (fs : List Flow) → AllInRange fs → common (without n fs) ≤ common fs
common-without_of n fs r =
    le_of_dvd (common_pos fs r)
    (common_divides (without n fs) (all_kept_by (other_name n) InRange fs r) (common fs) (all_kept_by (other_name n) (λ f. f.cycle ∣ common fs) fs (common_divided fs)))

pub common-without : (k n : ℕ) (fs : List Flow) → AllInRange fs → common (of_link k (without n fs)) ≤ common (of_link k fs)
common-without k n fs r = rw (filters_swap (is_of k) (other_name n) fs) (common-without_of n (of_link k fs) (all_kept_by (is_of k) InRange fs r))
