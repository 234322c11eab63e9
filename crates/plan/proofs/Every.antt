-- Single names and rising names, as facts.
use Rattle.std.proofs.Common.{◌≡◌, ℕ, ◌<◌, true, false, ◌||◌, eqb, ltb, List, [], ◌∷◌, ◌++◌, map, refl, ap, arith}
use Rattle.std.specs.List.{AllByRecursion}
use Rattle.std.proofs.ByRecursion.{All-weaker}
use Rattle.std.proofs.lemmas.Bool.{ltb-true, lt-ltb, and_parts, and_from}
use Rattle.std.proofs.lemmas.Bool.Decides.{nat_tests}
use Rattle.std.proofs.lemmas.List.Folds.{list_any-append}
use Rattle.limits.specs.Every.{all_from_every, every_from_all}
use Rattle.limits.specs.Range.{among}
use Rattle.plan.specs.declared.flow.Flow.{Flow}
use Rattle.plan.specs.Sound.{single, rising}
use Rattle.plan.specs.Standing.{named}

-- ---- names of links
pub single_push : (xs : List ℕ) (x : ℕ) → single xs ≡ true → among xs x ≡ false → single (xs ++ x ∷ []) ≡ true
single_push [] x s h = refl
single_push (y ∷ ys) x s h = grind (arith, nat_tests, single_push ys x, list_any-append (λ z. eqb z y) ys (x ∷ []))

-- ---- names of flows, which rise
abbrev pub Up : List Flow → Type 0
Up [] = Unit {0}
Up (f ∷ fs) = AllByRecursion (λ g. f.name < g.name) fs × Up fs

pub Up_from_rising : (fs : List Flow) → rising fs ≡ true → Up fs
Up_from_rising [] h = tt
Up_from_rising (f ∷ fs) h =
    let a = and_parts _ _ h in (
      All-weaker _ (λ g. f.name < g.name) (λ g e. ltb-true f.name g.name e) fs (all_from_every (λ g. ltb f.name g.name) fs a.0),
      Up_from_rising fs a.1,
    )

pub rising_from_Up : (fs : List Flow) → Up fs → rising fs ≡ true
rising_from_Up [] h = refl
rising_from_Up (f ∷ fs) h =
    and_from _ _ (every_from_all (λ g. ltb f.name g.name) fs (All-weaker _ (λ g. ltb f.name g.name ≡ true) (λ g e. lt-ltb f.name g.name e) fs h.0))
    (rising_from_Up fs h.1)

pub not_named_above : (n : ℕ) (fs : List Flow) → AllByRecursion (λ f. n < f.name) fs → named fs n ≡ false
not_named_above n [] h = refl
not_named_above n (f ∷ fs) h = grind (arith, nat_tests, not_named_above n fs h.1)

among_names : (n : ℕ) (fs : List Flow) → among (map (λ f. f.name) fs) n ≡ named fs n
among_names n [] = refl
among_names n (f ∷ fs) = ap (λ b. eqb f.name n || b) (among_names n fs)

pub single_from_Up : (fs : List Flow) → Up fs → single (map (λ f. f.name) fs) ≡ true
single_from_Up [] h = refl
single_from_Up (f ∷ fs) h = grind (arith, nat_tests, among_names f.name fs, not_named_above f.name fs h.0, single_from_Up fs h.1)
