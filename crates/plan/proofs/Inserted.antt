-- A flow inserted by its name: its position, what it keeps, and the links whose flows it changes.
use Rattle.std.proofs.Common.{◌≡◌, ℕ, ◌+◌, ◌<◌, true, false, ltb, List, [], ◌∷◌, length, refl, arith}
use Rattle.std.specs.List.{insert as inserted, AllByRecursion}
use Rattle.std.proofs.ByRecursion.{All-weaker, all_kept_by}
use Rattle.std.proofs.lemmas.Bool.{ltb-true, cond_both}
use Rattle.std.proofs.lemmas.Bool.Decides.{nat_tests}
use Rattle.plan.specs.declared.flow.Flow.{Flow}
use Rattle.plan.specs.Cycle.{lcm, common}
use Rattle.plan.specs.Edited.{insert}
use Rattle.plan.specs.Position.{position_of}
use Rattle.plan.specs.Regular.{InRange, AllInRange}
use Rattle.plan.specs.Standing.{named, is_of, of_link}
use Rattle.plan.proofs.Common.{common_pos}
use Rattle.plan.proofs.Every.{Up}
use Rattle.plan.proofs.Gcd.{lcm_swap}

pub insert_at_position : (f : Flow) (fs : List Flow) → inserted fs (position_of f.name fs) f ≡ insert f fs
insert_at_position f [] = refl
insert_at_position f (g ∷ gs) = grind (arith, insert_at_position f gs)

pub insert_first : (f : Flow) (fs : List Flow) → AllByRecursion (λ g. f.name < g.name) fs → insert f fs ≡ f ∷ fs
insert_first f [] h = refl
insert_first f (g ∷ gs) h = grind (arith, nat_tests, h.0)

pub length-insert : (f : Flow) (fs : List Flow) → length (insert f fs) ≡ length fs + 1
length-insert f [] = omega arith
length-insert f (g ∷ gs) = grind (arith, length-insert f gs)

pub all_insert : (P : Flow → Type 0) (f : Flow) (fs : List Flow) → P f → AllByRecursion P fs → AllByRecursion P (insert f fs)
all_insert P f [] p h = (p, tt)
all_insert P f (g ∷ gs) p h =
    cond_both (ltb g.name f.name) (g ∷ insert f gs) (f ∷ g ∷ gs) (AllByRecursion P) (λ _. (h.0, all_insert P f gs p h.1)) (λ _. (p, h))

pub Up-insert : (f : Flow) (fs : List Flow) → Up fs → named fs f.name ≡ false → Up (insert f fs)
Up-insert f [] u s = (tt, tt)
Up-insert f (g ∷ gs) u s =
    cond_both (ltb g.name f.name) (g ∷ insert f gs) (f ∷ g ∷ gs) Up
    (λ e. (all_insert (λ x. g.name < x.name) f gs (ltb-true _ _ e) u.0, Up-insert f gs u.1 (grind arith)))
    (λ e. let lt : f.name < g.name = grind (arith, nat_tests) in ((lt, All-weaker _ (λ x. f.name < x.name) (λ x k. omega arith) gs u.0), u))

-- the flows of another link stay as they are
pub of_other_link : (k : ℕ) (f : Flow) (fs : List Flow) → is_of k f ≡ false → of_link k (insert f fs) ≡ of_link k fs
of_other_link k f [] off = grind (arith, off)
of_other_link k f (g ∷ gs) off = grind (arith, off, of_other_link k f gs off)

-- the common cycle of its own link is the least common multiple with its cycle
pub common-insert : (k : ℕ) (f : Flow) (fs : List Flow) → is_of k f ≡ true → 0 < f.cycle → AllInRange fs → common (of_link k (insert f fs)) ≡ lcm f.cycle (common (of_link k fs))
common-insert k f [] of pos r = grind (arith, of)
common-insert k f (g ∷ gs) of pos r =
    let rest = common_pos (of_link k gs) (all_kept_by (is_of k) InRange gs r.1) in
    grind (arith, of, common-insert k f gs of pos r.1, lcm_swap g.cycle f.cycle (common (of_link k gs)) r.0.2 pos rest)
