-- The first element that fails a test: its place is one more than its index, and there is none where each passes.
use Rattle.std.proofs.Common.{◌≡◌, suc, Bool, true, not, List, [], ◌∷◌, None, sym, refl, ap, ◌∙◌, arith}
use Rattle.std.specs.Option.{option_map, is_none}
use Rattle.std.specs.List.{AllByRecursion, list_all, position}
use Rattle.limits.specs.Every.{all_from_every}
use Rattle.planner.specs.Asked.{first_failing}

module _ {X : Type 0} (test : X → Bool) where
  pub failing_is_position : (xs : List X) → option_map suc (position (λ x. not (test x)) xs) ≡ first_failing test xs
  failing_is_position [] = refl
  failing_is_position (x ∷ xs) = grind (arith, failing_is_position xs)

  pub every_passes : (xs : List X) → is_none (first_failing test xs) ≡ list_all test xs
  every_passes [] = refl
  every_passes (x ∷ xs) = grind (arith, every_passes xs)

  pub passes_from_none : (xs : List X) → None ≡ first_failing test xs → AllByRecursion (λ x. test x ≡ true) xs
  passes_from_none xs none = all_from_every test xs (sym (every_passes xs) ∙ sym (ap is_none none))
