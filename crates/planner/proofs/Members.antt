-- What stands in a list, and the tests that look through one.
use Rattle.std.proofs.Common.{◌≡◌, Bool, true, false, cond, ◌&&◌, ◌||◌, List, [], ◌∷◌, ◌++◌, map, filter, ◌⊎◌, inl, inr, refl, sym, ap, ap₂, ◌∙◌}
use Rattle.std.specs.List.{AllByRecursion, list_any, list_all}
use Rattle.std.proofs.lemmas.List.Elements.{All-from_recursion}
use Rattle.std.proofs.lemmas.List.Folds.{list_any_none}
use Rattle.limits.specs.Every.{all_from_every, every_from_all}
use Rattle.std.proofs.lemmas.Bool.{both_ways, or_left, or_right, or_cases}

-- x is one of the elements
abbrev pub In : {X : Type 0} → X → List X → Type 0
In x [] = ⊥
In x (y ∷ ys) = (x ≡ y) ⊎ In x ys

-- ---- what holds of each element
module _ {X : Type 0} (P : X → Type 0) where
  -- what holds of everything
  pub all_every : ((x : X) → P x) → (xs : List X) → AllByRecursion P xs
  all_every h [] = tt
  all_every h (x ∷ xs) = (h x, all_every h xs)

  -- of the first part
  pub all_front : (xs ys : List X) → AllByRecursion P (xs ++ ys) → AllByRecursion P xs
  all_front [] ys a = tt
  all_front (x ∷ xs) ys a = (a.0, all_front xs ys a.1)

  -- of one of them
  pub all_in : (xs : List X) (x : X) → AllByRecursion P xs → In x xs → P x
  all_in [] x a i = absurd i
  all_in (y ∷ ys) x a (inl e) = rw e a.0
  all_in (y ∷ ys) x a (inr i) = all_in ys x a.1 i

  -- of all, as it does of each
  pub all_from_in : (xs : List X) → ((x : X) → In x xs → P x) → AllByRecursion P xs
  all_from_in [] h = tt
  all_from_in (x ∷ xs) h = (h x (inl refl), all_from_in xs (λ y i. h y (inr i)))

-- an element of two lists joined stands in one of them
pub in_append : {X : Type 0} (xs ys : List X) (x : X) → In x (xs ++ ys) → In x xs ⊎ In x ys
in_append [] ys x i = inr i
in_append (y ∷ xs) ys x (inl e) = inl (inl e)
in_append (y ∷ xs) ys x (inr i) = elim (in_append xs ys x i) [ inl j ↦ inl (inr j) | inr j ↦ inr j ]

-- the element in the middle stands in the list
pub in_middle : {X : Type 0} (xs : List X) (x : X) (ys : List X) → In x (xs ++ x ∷ ys)
in_middle [] x ys = inl refl
in_middle (y ∷ xs) x ys = inr (in_middle xs x ys)

-- ---- what a test finds
module _ {X : Type 0} (f : X → Bool) where
  -- two tests that agree find the same
  pub any_same : (h : X → Bool) (xs : List X) → AllByRecursion (λ x. f x ≡ h x) xs → list_any f xs ≡ list_any h xs
  any_same h [] a = refl
  any_same h (x ∷ xs) a = ap₂ (λ b c. b || c) a.0 (any_same h xs a.1)

  -- nothing passes a test that each fails
  pub any_none : (xs : List X) → AllByRecursion (λ x. f x ≡ false) xs → list_any f xs ≡ false
  any_none xs a = list_any_none f xs (All-from_recursion (λ x. f x ≡ false) xs a)

  -- an element that passes is found
  pub any_in : (xs : List X) (x : X) → In x xs → f x ≡ true → list_any f xs ≡ true
  any_in [] x i e = absurd i
  any_in (y ∷ ys) x (inl p) e = or_left (f y) (list_any f ys) (ap f (sym p) ∙ e)
  any_in (y ∷ ys) x (inr i) e = or_right (f y) (list_any f ys) (any_in ys x i e)

  -- all pass, as each does
  pub every_from_in : (xs : List X) → ((x : X) → In x xs → f x ≡ true) → list_all f xs ≡ true
  every_from_in xs h = every_from_all f xs (all_from_in (λ x. f x ≡ true) xs h)

  -- each passes, as all do
  pub every_in : (xs : List X) (x : X) → list_all f xs ≡ true → In x xs → f x ≡ true
  every_in xs x e i = all_in (λ y. f y ≡ true) xs x (all_from_every f xs e) i

-- ---- what a filter keeps
module _ {X : Type 0} (f : X → Bool) where
  any_cond : (h : X → Bool) (b : Bool) (x : X) (ys : List X) → list_any h (cond b (x ∷ ys) ys) ≡ ((b && h x) || list_any h ys)
  any_cond h true x ys = refl
  any_cond h false x ys = refl

  -- a test finds in what a filter keeps what passes both
  pub any_kept : (h : X → Bool) (xs : List X) → list_any h (filter f xs) ≡ list_any (λ x. f x && h x) xs
  any_kept h [] = refl
  any_kept h (x ∷ xs) = any_cond h (f x) x (filter f xs) ∙ ap (λ b. (f x && h x) || b) (any_kept h xs)

  in_cond : (b : Bool) (x y : X) (ys : List X) → In y (cond b (x ∷ ys) ys) → ((y ≡ x) × (b ≡ true)) ⊎ In y ys
  in_cond true x y ys (inl e) = inl (e, refl)
  in_cond true x y ys (inr i) = inr i
  in_cond false x y ys i = inr i

  -- what is kept stands in the list and passes
  pub in_kept : (xs : List X) (x : X) → In x (filter f xs) → In x xs × (f x ≡ true)
  in_kept [] x i = absurd i
  in_kept (y ∷ ys) x i = elim (in_cond (f y) y x (filter f ys) i) [ inl e ↦ (inl e.0, ap f e.0 ∙ e.1) | inr j ↦ (inr (in_kept ys x j).0, (in_kept ys x j).1) ]

  cond_in : (b : Bool) (x y : X) (ys : List X) → ((y ≡ x) × (b ≡ true)) ⊎ In y ys → In y (cond b (x ∷ ys) ys)
  cond_in true x y ys (inl e) = inl e.0
  cond_in true x y ys (inr i) = inr i
  cond_in false x y ys (inl e) = absurd (both_ways false refl e.1)
  cond_in false x y ys (inr i) = i

  -- what stands in the list and passes is kept
  pub kept_in : (xs : List X) (x : X) → In x xs → f x ≡ true → In x (filter f xs)
  kept_in [] x i e = absurd i
  kept_in (y ∷ ys) x (inl p) e = cond_in (f y) y x (filter f ys) (inl (p, ap f (sym p) ∙ e))
  kept_in (y ∷ ys) x (inr i) e = cond_in (f y) y x (filter f ys) (inr (kept_in ys x i e))

  map_cond : {Y : Type 0} (h : X → Y) (b : Bool) (x : X) (ys : List X) → cond b (h x ∷ map h ys) (map h ys) ≡ map h (cond b (x ∷ ys) ys)
  map_cond h true x ys = refl
  map_cond h false x ys = refl

-- a filter of what a function gives
pub filter_map_of : {X Y : Type 0} (f : Y → Bool) (h : X → Y) (xs : List X) → filter f (map h xs) ≡ map h (filter (λ x. f (h x)) xs)
filter_map_of f h [] = refl
filter_map_of f h (x ∷ xs) = ap (λ ys. cond (f (h x)) (h x ∷ ys) ys) (filter_map_of f h xs) ∙ map_cond (λ z. f (h z)) h (f (h x)) x (filter (λ z. f (h z)) xs)

-- where a test finds something, an element passes
pub any_found : {X : Type 0} (f : X → Bool) (xs : List X) → list_any f xs ≡ true → (x : X) × In x xs × (f x ≡ true)
any_found f [] e = absurd (both_ways false refl e)
any_found f (x ∷ xs) e = elim (or_cases (f x) (list_any f xs) e) [ inl h ↦ (x, inl refl, h) | inr h ↦ let r = any_found f xs h in (r.0, inr r.1, r.2) ]

-- an element of the first list stands in both joined
pub in_left : {X : Type 0} (x : X) (xs ys : List X) → In x xs → In x (xs ++ ys)
in_left x [] ys i = absurd i
in_left x (z ∷ xs) ys (inl e) = inl e
in_left x (z ∷ xs) ys (inr i) = inr (in_left x xs ys i)

-- and one of the second
pub in_right : {X : Type 0} (x : X) (xs ys : List X) → In x ys → In x (xs ++ ys)
in_right x [] ys i = i
in_right x (z ∷ xs) ys i = inr (in_right x xs ys i)

-- what a function gives of an element
pub in_map : {X Y : Type 0} (f : X → Y) (x : X) (xs : List X) → In x xs → In (f x) (map f xs)
in_map f x [] i = absurd i
in_map f x (z ∷ xs) (inl e) = inl (ap f e)
in_map f x (z ∷ xs) (inr i) = inr (in_map f x xs i)
