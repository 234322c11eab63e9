-- Which flow has a name once one is inserted, struck or amended.
use Rattle.std.proofs.Common.{◌≡◌, ℕ, ◌&&◌, true, cond, eqb, List, [], ◌∷◌, Some, None, refl, arith}
use Rattle.std.specs.Option.{option_map}
use Rattle.std.proofs.lemmas.Bool.Decides.{nat_tests}
use Rattle.plan.specs.declared.flow.Flow.{Flow}
use Rattle.plan.specs.Edited.{insert, without, amended_flow, amended}
use Rattle.plan.specs.Laws.{figures}
use Rattle.plan.specs.Standing.{is_named, named, flow_named}

pub flow_named-insert : (n : ℕ) (f : Flow) (fs : List Flow) → flow_named n (insert f fs) ≡ cond (is_named n f) (Some f) (flow_named n fs)
flow_named-insert n f [] = refl
flow_named-insert n f (g ∷ gs) = grind (arith, nat_tests, flow_named-insert n f gs)

pub flow_named-without : (n m : ℕ) (fs : List Flow) → flow_named n (without m fs) ≡ cond (eqb m n) None (flow_named n fs)
flow_named-without n m [] = grind arith
flow_named-without n m (f ∷ fs) = grind (arith, nat_tests, flow_named-without n m fs)

pub flow_named-amended : (n m p c : ℕ) (fs : List Flow) → flow_named n (amended m p c fs) ≡ option_map (amended_flow m p c) (flow_named n fs)
flow_named-amended n m p c [] = refl
flow_named-amended n m p c (f ∷ fs) = grind (arith, nat_tests, flow_named-amended n m p c fs)

-- the flow that is amended has the new figures, and the others theirs
figures-amended : (n m p c : ℕ) (fs : List Flow) → option_map figures (flow_named n (amended m p c fs)) ≡ cond (eqb m n && named fs m) (Some (p, c)) (option_map figures (flow_named n fs))
figures-amended n m p c [] = grind arith
figures-amended n m p c (f ∷ fs) = grind (arith, nat_tests, figures-amended n m p c fs)

pub figures-amended_named : (n m p c : ℕ) (fs : List Flow) → named fs m ≡ true → option_map figures (flow_named n (amended m p c fs)) ≡ cond (eqb m n) (Some (p, c)) (option_map figures (flow_named n fs))
figures-amended_named n m p c fs h = grind (arith, figures-amended n m p c fs)
