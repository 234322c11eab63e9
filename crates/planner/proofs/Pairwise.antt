-- Lists in which each element stands in a relation to all behind it.
use Rattle.std.proofs.Common.{Bool, true, false, cond, List, [], ◌∷◌, ◌++◌, map, filter}
use Rattle.std.specs.List.{AllByRecursion}
use Rattle.std.proofs.ByRecursion.{All-append, All-map, All-weaker}
use Rattle.planner.proofs.Members.{all_in, all_from_in, in_middle, in_kept}

-- each stands in the relation to all behind it
abbrev pub Pairwise : {X : Type 0} → (X → X → Type 0) → List X → Type 0
Pairwise R [] = Unit {0}
Pairwise R (x ∷ xs) = AllByRecursion (R x) xs × Pairwise R xs

module _ {X : Type 0} (R : X → X → Type 0) where
  -- two such lists joined, where each of the first stands so to all of the second
  pub pairwise_append : (xs ys : List X) → Pairwise R xs → Pairwise R ys → AllByRecursion (λ x. AllByRecursion (R x) ys) xs → Pairwise R (xs ++ ys)
  pairwise_append [] ys a b c = b
  pairwise_append (x ∷ xs) ys a b c = (All-append (R x) xs ys a.0 c.0, pairwise_append xs ys a.1 b c.1)

  -- such a list of what a function gives
  pub pairwise_map : {Y : Type 0} (S : Y → Y → Type 0) (f : Y → X) → ((x y : Y) → S x y → R (f x) (f y)) → (ys : List Y) → Pairwise S ys → Pairwise R (map f ys)
  pairwise_map S f h [] p = tt
  pairwise_map S f h (y ∷ ys) p = (All-map (R (f y)) f ys (All-weaker (S y) (λ z. R (f y) (f z)) (h y) ys p.0), pairwise_map S f h ys p.1)

  -- the elements ahead of one, and those behind it
  pub pairwise_at : (xs : List X) (x : X) (ys : List X) → Pairwise R (xs ++ x ∷ ys) → AllByRecursion (λ y. R y x) xs × AllByRecursion (R x) ys
  pairwise_at [] x ys p = (tt, p.0)
  pairwise_at (z ∷ xs) x ys p = let q = pairwise_at xs x ys p.1 in ((all_in (R z) (xs ++ x ∷ ys) x p.0 (in_middle xs x ys), q.0), q.1)

  keep : (test : X → Bool) (b : Bool) (x : X) (xs : List X) → AllByRecursion (R x) xs → Pairwise R (filter test xs) → Pairwise R (cond b (x ∷ filter test xs) (filter test xs))
  keep test true x xs a p = (all_from_in (R x) (filter test xs) (λ y i. all_in (R x) xs y a (in_kept test xs y i).0), p)
  keep test false x xs a p = p

  -- what a filter keeps of such a list
  pub pairwise_kept : (test : X → Bool) (xs : List X) → Pairwise R xs → Pairwise R (filter test xs)
  pairwise_kept test [] p = tt
  pairwise_kept test (x ∷ xs) p = keep test (test x) x xs p.0 (pairwise_kept test xs p.1)
