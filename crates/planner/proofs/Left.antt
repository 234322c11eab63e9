-- What is left of the walk while the search is on its way, and what it may leave out.
use Rattle.std.proofs.Common.{◌≡◌, ℕ, suc, ◌+◌, ◌-◌, ◌<◌, ◌≤◌, true, false, cond, not, ◌&&◌, List, [], ◌∷◌, ◌++◌, map, length, Some, None, Option, refl, sym, ap, ap₂, ◌∙◌, ◌⊎◌, inl, inr, zero-add, append_assoc, length-append, take_at, arith, append-nil, map-id}
use Rattle.std.specs.List.{AllByRecursion}
use Rattle.std.proofs.lemmas.Bool.{both_ways, and_left, and_right, not_from_true, cases_Bool, cond-false}
use Rattle.std.proofs.lemmas.List.{map-append}
use Rattle.limits.specs.declared.pair.Pair.{Pair}
use Rattle.limits.specs.Selection.{max_pairs, Lawful, Selection}
use Rattle.planner.specs.Named.{Aim}
use Rattle.planner.specs.Selections.{parent, partial}
use Rattle.planner.proofs.Fold.{beats, next, final, seen, seens}
use Rattle.planner.proofs.Laws.{Laws}
use Rattle.std.proofs.ByRecursion.{All-append, All-map, All-weaker}
use Rattle.planner.proofs.Members.{all_front}
use Rattle.planner.proofs.Order.{full}

-- ---- selections
pub selection_append : (s y : List Pair) → AllByRecursion Lawful s → AllByRecursion Lawful y → length s + length y ≤ max_pairs → Selection (s ++ y)
selection_append s y l m h = record { few = simp length-append h; each = All-append Lawful s y l m }

-- the parent of a selection with one more pair
pub parent_push : (s : List Pair) (p : Pair) → parent (s ++ p ∷ []) ≡ s
parent_push s p = take_at s (p ∷ []) (length (s ++ p ∷ []) - 1) (simp length-append (omega arith))

-- what goes on from nothing is all there is
pub from_nothing : (ys : List (List Pair)) → map (λ y. [] ++ y) ys ++ [] ≡ ys
from_nothing ys = append-nil (map (λ y. [] ++ y) ys) ∙ map-id ys

-- what `partial` lists: at most k lawful pairs, of which one is the last
record Fit (k : ℕ) (y : List Pair) : Type 0 where
  pub front : List Pair
  pub last : Pair
  pub is : y ≡ front ++ last ∷ []
  pub lawful : AllByRecursion Lawful y
  pub most : length y ≤ k

fit_one : (k : ℕ) (q : Pair) → Lawful q → Fit (suc k) (q ∷ [])
fit_one k q l = record { front = []; last = q; is = refl; lawful = (l, tt); most = omega arith }

fit_cons : (k : ℕ) (q : Pair) (s : List Pair) → Lawful q → Fit k s → Fit (suc k) (q ∷ s)
fit_cons k q s l f = let m = f.most in record { front = q ∷ f.front; last = f.last; is = ap (λ z. q ∷ z) f.is; lawful = (l, f.lawful); most = omega arith }

fit_blocks : (k : ℕ) (qs : List Pair) (cs : List (List Pair)) → AllByRecursion Lawful qs → AllByRecursion (Fit k) (partial cs) → AllByRecursion (Fit (suc k)) (partial (qs ∷ cs))
fit_blocks k [] cs l f = tt
fit_blocks k (q ∷ qs) cs l f = (
  fit_one k q l.0,
  All-append (Fit (suc k)) (map (λ s. q ∷ s) (partial cs)) (partial (qs ∷ cs))
      (All-map (Fit (suc k)) (λ s. q ∷ s) (partial cs) (All-weaker (Fit k) (λ s. Fit (suc k) (q ∷ s)) (λ s. fit_cons k q s l.0) (partial cs) f))
      (fit_blocks k qs cs l.1 f),
)

-- what `partial` lists for k links
fits : (cs : List (List Pair)) → AllByRecursion (λ c. AllByRecursion Lawful c) cs → AllByRecursion (Fit (length cs)) (partial cs)
fits [] l = tt
fits (c ∷ cs) l = fit_blocks (length cs) c cs l.0 (fits cs l.1)

module _ {T : Type 0} (a : Aim T) (cs : List (List Pair)) where
  -- with this best so far, the visits made and those along ps are the visits of the whole, and both walks end with the same best
  pub record Owes (b : Option (List Pair)) (v : ℕ) (ps : List (List Pair)) : Type 0 where
    pub count : v + seens a cs b ps ≡ seens a cs None (partial cs)
    pub ends : final a cs b ps ≡ final a cs None (partial cs)

  -- at the start
  pub owes_whole : Owes None 0 (partial cs)
  owes_whole = record { count = zero-add (seens a cs None (partial cs)); ends = refl }

  -- p is not visited, and the best stays
  abbrev pub Idle : Option (List Pair) → List Pair → Type 0
  Idle b p = (seen a b p ≡ false) × (next a cs b p ≡ b)

  skip_count : (b : Option (List Pair)) (ps qs : List (List Pair)) → AllByRecursion (Idle b) ps → seens a cs b (ps ++ qs) ≡ seens a cs b qs
  skip_count b [] qs i = refl
  skip_count b (p ∷ ps) qs i = ap₂ (λ s n. cond s 1 0 + seens a cs n (ps ++ qs)) i.0.0 i.0.1 ∙ zero-add (seens a cs b (ps ++ qs)) ∙ skip_count b ps qs i.1

  skip_ends : (b : Option (List Pair)) (ps qs : List (List Pair)) → AllByRecursion (Idle b) ps → final a cs b (ps ++ qs) ≡ final a cs b qs
  skip_ends b [] qs i = refl
  skip_ends b (p ∷ ps) qs i = ap (λ n. final a cs n (ps ++ qs)) i.0.1 ∙ skip_ends b ps qs i.1

  -- past what is not visited
  pub owes_skip : (b : Option (List Pair)) (v : ℕ) (ps qs : List (List Pair)) → AllByRecursion (Idle b) ps → Owes b v (ps ++ qs) → Owes b v qs
  owes_skip b v ps qs i o = record { count = ap (λ k. v + k) (sym (skip_count b ps qs i)) ∙ o.count; ends = sym (skip_ends b ps qs i) ∙ o.ends }

  -- and back before it
  pub owes_back : (b : Option (List Pair)) (v : ℕ) (ps qs : List (List Pair)) → AllByRecursion (Idle b) ps → Owes b v qs → Owes b v (ps ++ qs)
  owes_back b v ps qs i o = record { count = ap (λ k. v + k) (skip_count b ps qs i) ∙ o.count; ends = skip_ends b ps qs i ∙ o.ends }

  -- past one that is visited
  pub owes_visit : (b : Option (List Pair)) (v : ℕ) (p : List Pair) (ps : List (List Pair)) → seen a b p ≡ true → Owes b v (p ∷ ps) → Owes (next a cs b p) (v + 1) ps
  owes_visit b v p ps s o =
      let one : ◌≡◌ {A = ℕ} (cond (seen a b p) 1 0) 1 = ap (λ t. cond t 1 0) s in
      let c = o.count in
      record { count = omega arith; ends = o.ends }

  -- where one more is visited, the visits are more
  pub owes_more : (b : Option (List Pair)) (v : ℕ) (p : List Pair) (ps : List (List Pair)) → seen a b p ≡ true → Owes b v (p ∷ ps) → v < seens a cs None (partial cs)
  owes_more b v p ps s o =
      let one : ◌≡◌ {A = ℕ} (cond (seen a b p) 1 0) 1 = ap (λ t. cond t 1 0) s in
      let c = o.count in
      omega arith

  -- below a selection that is not within, or that the best so far beats, nothing is visited
  abbrev pub Lost : Option (List Pair) → List Pair → Type 0
  Lost b s = (a.within s ≡ false) ⊎ (beats a b s ≡ true)

  -- it is not visited
  lost_test : (b : Option (List Pair)) (s : List Pair) → Lost b s → (a.within s && not (beats a b s)) ≡ false
  lost_test b s (inl e) = and_left (a.within s) (not (beats a b s)) e
  lost_test b s (inr e) = and_right (a.within s) (not (beats a b s)) (not_from_true (beats a b s) e)

  -- the best stays
  pub lost_next : (b : Option (List Pair)) (s : List Pair) → Lost b s → next a cs b s ≡ b
  lost_next b s lost =
      cond-false (full cs s && (a.within s && not (beats a b s))) (Some s) b
      (and_right (full cs s) (a.within s && not (beats a b s)) (lost_test b s lost))

  module _ (laws : Laws a) where
    beats_on : (b : Option (List Pair)) (s y : List Pair) → Selection (s ++ y) → beats a b s ≡ true → beats a b (s ++ y) ≡ true
    beats_on None s y l e = e
    beats_on (Some t) s y l e = laws.ranks.chained (a.total t) (a.total s) (a.total (s ++ y)) e (laws.begins_less s y l)

    -- what goes on from it is lost too
    lost_on : (b : Option (List Pair)) (s y : List Pair) → Selection (s ++ y) → Lost b s → Lost b (s ++ y)
    lost_on b s y l (inl e) = elim (cases_Bool (a.within (s ++ y))) [ inl t ↦ absurd (both_ways (a.within s) e (laws.begins_within s y l t)) | inr f ↦ inl f ]
    lost_on b s y l (inr e) = inr (beats_on b s y l e)

    -- what goes on from it by some pairs
    idle_one : (b : Option (List Pair)) (s front : List Pair) (last : Pair) → AllByRecursion Lawful s → AllByRecursion Lawful (front ++ last ∷ []) → length s + length (front ++ last ∷ []) ≤ max_pairs → Lost b s → Idle b (s ++ (front ++ last ∷ []))
    idle_one b s front last l m h lost =
        let few : length s + length front ≤ max_pairs = omega (arith, h, length-append front (last ∷ [])) in
        let above : Selection (s ++ front) = selection_append s front l (all_front Lawful front (last ∷ []) m) few in
        let here : Selection (s ++ (front ++ last ∷ [])) = selection_append s (front ++ last ∷ []) l m h in
        let parent_is : parent (s ++ (front ++ last ∷ [])) ≡ s ++ front = ap parent (sym (append_assoc s front (last ∷ []))) ∙ parent_push (s ++ front) last in (
          ap (λ z. a.within z && not (beats a b z)) parent_is ∙ lost_test b (s ++ front) (lost_on b s front above lost),
          lost_next b (s ++ (front ++ last ∷ [])) (lost_on b s (front ++ last ∷ []) here lost),
        )

    idle_fit : (b : Option (List Pair)) (s : List Pair) (k : ℕ) → AllByRecursion Lawful s → length s + k ≤ max_pairs → Lost b s → (y : List Pair) → Fit k y → Idle b (s ++ y)
    idle_fit b s k l h lost y f =
        let m = f.most in
        let long : length y ≡ length (f.front ++ f.last ∷ []) = ap length f.is in
        rw (f.is) (idle_one b s f.front f.last l (rw (sym f.is) f.lawful) (omega arith) lost)

    -- nothing below s is visited
    pub idle_all : (b : Option (List Pair)) (s : List Pair) (qs : List (List Pair)) → AllByRecursion Lawful s → AllByRecursion (λ c. AllByRecursion Lawful c) qs → length s + length qs ≤ max_pairs → Lost b s → AllByRecursion (Idle b) (map (λ y. s ++ y) (partial qs))
    idle_all b s qs l m h lost = All-map (Idle b) (λ y. s ++ y) (partial qs) (All-weaker (Fit (length qs)) (λ y. Idle b (s ++ y)) (idle_fit b s (length qs) l h lost) (partial qs) (fits qs m))

-- what is left at a link: the selections that go on from those pairs with one of its candidates
abbrev pub nodes : List Pair → List Pair → List (List Pair) → List (List Pair)
nodes base c below = map (λ y. base ++ y) (partial (c ∷ below))

grafted : (base : List Pair) (p : Pair) (ys : List (List Pair)) → map (λ y. base ++ y) (map (λ s. p ∷ s) ys) ≡ map (λ y. (base ++ p ∷ []) ++ y) ys
grafted base p [] = refl
grafted base p (y ∷ ys) = ap₂ (λ s t. s ∷ t) (sym (append_assoc base (p ∷ []) y)) (grafted base p ys)

-- first the one with the first candidate, then those that go on from it, then those with the other candidates
pub nodes_cons : (base : List Pair) (p : Pair) (c : List Pair) (below : List (List Pair)) → nodes base (p ∷ c) below ≡ (base ++ p ∷ []) ∷ (map (λ y. (base ++ p ∷ []) ++ y) (partial below) ++ nodes base c below)
nodes_cons base p c below =
    ap (λ z. (base ++ p ∷ []) ∷ z)
    (map-append (λ y. base ++ y) (map (λ s. p ∷ s) (partial below)) (partial (c ∷ below))
    ∙ ap (λ z. z ++ nodes base c below) (grafted base p (partial below)))
