-- The flow of a name: whether it stands, and at which place.
use Rattle.std.proofs.Common.{◌≡◌, ℕ, zero, suc, ◌<◌, ◌≤◌, true, false, List, [], ◌∷◌, length, get_or, is_some, Some, sym, refl, subst, inl, inr, arith}
use Rattle.std.proofs.ByRecursion.{All-weaker}
use Rattle.std.proofs.lemmas.Bool.{lt-ltb, le-ltb, cases_order, cond-true, cond-false, both_ways, false≢true}
use Rattle.std.proofs.lemmas.Bool.Decides.{nat_tests}
use Rattle.plan.specs.declared.flow.Flow.{Flow}
use Rattle.plan.specs.Position.{position_of}
use Rattle.plan.specs.Standing.{named, flow_named}
use Rattle.plan.proofs.Empty.{nil}
use Rattle.plan.proofs.Every.{Up, not_named_above}

pub some_flow_named : (n : ℕ) (fs : List Flow) → is_some (flow_named n fs) ≡ named fs n
some_flow_named n [] = refl
some_flow_named n (f ∷ fs) = grind (arith, some_flow_named n fs)

-- the flow of that name stands at that place, and nowhere else
pub data Found (n : ℕ) : List Flow → ℕ → Type 0 where
  here : {f : Flow} {fs : List Flow} → f.name ≡ n → named fs n ≡ false → Found n (f ∷ fs) zero
  there : {f : Flow} {fs : List Flow} {k : ℕ} → (f.name ≡ n → ⊥) → Found n fs k → Found n (f ∷ fs) (suc k)

-- no flow behind one whose name is not below has the name
none_behind : (n : ℕ) (f : Flow) (fs : List Flow) → Up (f ∷ fs) → n ≤ f.name → named fs n ≡ false
none_behind n f fs up le = not_named_above n fs (All-weaker _ (λ g. n < g.name) (λ g lt. omega arith) fs up.0)

pub found : (n : ℕ) (fs : List Flow) → Up fs → named fs n ≡ true → Found n fs (position_of n fs)
found n [] up h = absurd (false≢true h)
found n (f ∷ fs) up h =
    elim (cases_order f.name n) [
      | inl e ↦ subst (Found n (f ∷ fs)) (sym (cond-false _ _ _ (le-ltb f.name n (omega arith)))) (here e (none_behind n f fs up (omega arith)))
      | inr o ↦ elim o [
        | inl lt ↦ subst (Found n (f ∷ fs)) (sym (cond-true _ _ _ (lt-ltb f.name n lt))) (there (λ e. omega arith) (found n fs up.1 (grind (arith, nat_tests))))
        | inr gt ↦ absurd (both_ways (named fs n) (none_behind n f fs up (omega arith)) (grind (arith, nat_tests)))
      ]
    ]

pub found_within : {n : ℕ} {fs : List Flow} {k : ℕ} → Found n fs k → k < length fs
found_within (here e none) = omega arith
found_within (there ne r) = let h = found_within r in omega arith

pub found_name : {n : ℕ} {fs : List Flow} {k : ℕ} → Found n fs k → (get_or fs k nil).name ≡ n
found_name (here e none) = e
found_name (there ne r) = found_name r

pub found_flow : {n : ℕ} {fs : List Flow} {k : ℕ} → Found n fs k → flow_named n fs ≡ Some (get_or fs k nil)
found_flow (here e none) = grind (arith, nat_tests)
found_flow (there ne r) = grind (arith, nat_tests, found_flow r)
