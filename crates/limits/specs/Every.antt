-- A test of every element, by the elements.
use Rattle.std.specs.Prelude.{◌≡◌, Bool, true, List, [], ◌∷◌, refl}
use Rattle.std.specs.List.{list_all, AllByRecursion}
use Rattle.std.proofs.lemmas.Bool.{and_parts, and_from}

module _ {X : Type 0} (test : X → Bool) where
  -- what the test finds of every element holds of each
  pub all_from_every : (xs : List X) → list_all test xs ≡ true → AllByRecursion (λ x. test x ≡ true) xs
  all_from_every [] h = tt
  all_from_every (x ∷ xs) h = let a = and_parts _ _ h in (a.0, all_from_every xs a.1)

  -- and the other way round
  pub every_from_all : (xs : List X) → AllByRecursion (λ x. test x ≡ true) xs → list_all test xs ≡ true
  every_from_all [] h = refl
  every_from_all (x ∷ xs) h = and_from _ _ h.0 (every_from_all xs h.1)
