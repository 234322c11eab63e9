-- The place of a name among flows whose names rise, as a binary search finds it.
use Rattle.std.proofs.Common.{◌≡◌, ℕ, zero, suc, ◌<◌, ◌≤◌, true, false, ltb, List, [], ◌∷◌, length, sym, refl, ◌∙◌, arith}
use Rattle.std.specs.List.Sorted.{IsPartitionedBy, IsPartitionPoint}
use Rattle.std.proofs.ByRecursion.{All-get_or}
use Rattle.std.proofs.lemmas.Bool.{lt-ltb, ltb-true}
use Rattle.std.specs.List.{prefix_len}
use Rattle.std.proofs.lemmas.List.Sums.{prefix_len_is}
use Rattle.plan.specs.declared.flow.Flow.{Flow}
use Rattle.plan.specs.Position.{position_of}
use Rattle.plan.proofs.Empty.{nil}
use Rattle.plan.proofs.Every.{Up}

-- the names below n come first
pub below_first : (n : ℕ) (fs : List Flow) → Up fs → IsPartitionedBy (λ f. ltb f.name n) fs
below_first n [] up i j d le lt t = absurd (omega arith)
below_first n (f ∷ fs) up zero zero d le lt t = t
below_first n (f ∷ fs) up zero (suc j) d le lt t = lt-ltb f.name n (omega (arith, ltb-true _ _ t, All-get_or (λ g. f.name < g.name) fs j d (omega arith) up.0))
below_first n (f ∷ fs) up (suc i) zero d le lt t = absurd (omega arith)
below_first n (f ∷ fs) up (suc i) (suc j) d le lt t = below_first n fs up.1 i j d (omega arith) (omega arith) t

position_is : (n : ℕ) (fs : List Flow) → position_of n fs ≡ prefix_len (λ f. ltb f.name n) fs
position_is n [] = refl
position_is n (f ∷ fs) = grind (arith, position_is n fs)

-- so the place where they end is the position of n
pub ends_at_position : (n : ℕ) (fs : List Flow) (i : ℕ) → IsPartitionPoint (λ f. ltb f.name n ≡ true) (λ f. ltb f.name n ≡ false) fs i → i ≤ length fs → i ≡ position_of n fs
ends_at_position n fs i p le =
    sym (position_is n fs ∙ prefix_len_is (λ f. ltb f.name n) fs i nil le (λ k l. p.0 k nil (omega arith) l) (p.1 i nil (omega arith)))
