-- The laws of a limit and of a measure, as the search uses them.
use Rattle.std.proofs.Common.{◌≡◌, ℕ, Bool, true, false, List, ◌++◌}
use Rattle.std.proofs.lemmas.Bool.{eq-eqb, eqb-true}
use Rattle.limits.specs.declared.pair.Pair.{Pair}
use Rattle.limits.specs.Selection.{Selection, Lowered}
use Rattle.planner.specs.Named.{Aim, no_more, aim_of}
use Rattle.planner.proofs.Fold.{Ranks}

-- the laws of the limit and the measure
pub record Laws {T : Type 0} (a : Aim T) : Type 0 where
  pub ranks : Ranks a.at_most
  pub begins_within : (xs ys : List Pair) → Selection (xs ++ ys) → a.within (xs ++ ys) ≡ true → a.within xs ≡ true
  pub begins_less : (xs ys : List Pair) → Selection (xs ++ ys) → no_more a xs (xs ++ ys) ≡ true
  pub lowers_within : (xs ys : List Pair) → Selection xs → Selection ys → Lowered xs ys → a.within ys ≡ true → a.within xs ≡ true
  pub lowers_less : (xs ys : List Pair) → Selection xs → Selection ys → Lowered xs ys → no_more a xs ys ≡ true

-- those that a trait asks for
module _ {T : Type 0} (breach : List Pair → ℕ) (total : List Pair → T) (at_most : T → T → Bool) where
  pub laws_of :
      ((xs ys : List Pair) → Selection (xs ++ ys) → breach (xs ++ ys) ≡ 0 → breach xs ≡ 0)
      → ((xs ys : List Pair) → Selection xs → Selection ys → Lowered xs ys → breach ys ≡ 0 → breach xs ≡ 0)
      → ((x y : T) → at_most x y ≡ false → at_most y x ≡ true)
      → ((x y z : T) → at_most x y ≡ true → at_most y z ≡ true → at_most x z ≡ true)
      → ((xs ys : List Pair) → Selection (xs ++ ys) → at_most (total xs) (total (xs ++ ys)) ≡ true)
      → ((xs ys : List Pair) → Selection xs → Selection ys → Lowered xs ys → at_most (total xs) (total ys) ≡ true)
      → Laws (aim_of breach total at_most)
  laws_of begins lowers either chained begins_less lowers_less = record {
    ranks = record { either = either; chained = chained };
    begins_within = λ xs ys s w. eq-eqb (breach xs) 0 (begins xs ys s (eqb-true (breach (xs ++ ys)) 0 w));
    begins_less = begins_less;
    lowers_within = λ xs ys s t low w. eq-eqb (breach xs) 0 (lowers xs ys s t low (eqb-true (breach ys) 0 w));
    lowers_less = lowers_less;
  }
