-- The order in which `partial` lists the selections, and which of them are complete.
use Rattle.std.proofs.Common.{◌≡◌, ◌<◌, Bool, true, false, eqb, ltb, List, [], ◌∷◌, ◌++◌, map, filter, length, refl, sym, ap, ap₂, ◌∙◌, arith}
use Rattle.std.specs.List.{AllByRecursion}
use Rattle.std.proofs.lemmas.Bool.{both_ways, cond-true, cond-false, eq-eqb, ne_eqb, lt-ltb, le-ltb}
use Rattle.std.proofs.lemmas.List.Elements.{filter-append}
use Rattle.limits.specs.declared.pair.Pair.{Pair}
use Rattle.planner.specs.Selections.{before, complete, partial}
use Rattle.planner.specs.Table.{Rising}
use Rattle.std.proofs.ByRecursion.{All-append, All-map, All-weaker}
use Rattle.planner.proofs.Members.{all_every, filter_map_of}
use Rattle.planner.proofs.Pairwise.{Pairwise, pairwise_append, pairwise_map}

-- whether a selection has as many pairs as there are links
abbrev pub full : List (List Pair) → List Pair → Bool
full [] [] = true
full [] (q ∷ s) = false
full (c ∷ cs) [] = false
full (c ∷ cs) (q ∷ s) = full cs s

-- with as many pairs as links it is whole
pub full_long : (cs : List (List Pair)) (s : List Pair) → length s ≡ length cs → full cs s ≡ true
full_long [] [] e = refl
full_long [] (q ∷ s) e = absurd (omega arith)
full_long (c ∷ cs) [] e = absurd (omega arith)
full_long (c ∷ cs) (q ∷ s) e = full_long cs s (omega arith)

-- with fewer it is not
pub full_short : (cs : List (List Pair)) (s : List Pair) → length s < length cs → full cs s ≡ false
full_short [] [] e = absurd (omega arith)
full_short [] (q ∷ s) e = refl
full_short (c ∷ cs) [] e = refl
full_short (c ∷ cs) (q ∷ s) e = full_short cs s (omega arith)

-- none comes before itself
pub before_self : (s : List Pair) → before s s ≡ false
before_self [] = refl
before_self (p ∷ s) = cond-true (eqb p.gap p.gap) (before s s) (ltb p.gap p.gap) (eq-eqb p.gap p.gap refl) ∙ before_self s

-- none comes before one that it goes on from
before_nil : (s : List Pair) → before s [] ≡ false
before_nil [] = refl
before_nil (p ∷ s) = refl

-- the same first pair decides nothing
before_cons : (q : Pair) (s t : List Pair) → before (q ∷ s) (q ∷ t) ≡ before s t
before_cons q s t = cond-true (eqb q.gap q.gap) (before s t) (ltb q.gap q.gap) (eq-eqb q.gap q.gap refl)

-- what stands earlier in `partial`: where it is complete it comes before, and it is not behind
abbrev pub Ahead : List (List Pair) → List Pair → List Pair → Type 0
Ahead cs x y = (full cs x ≡ true → before x y ≡ true) × (before y x ≡ false)

-- P holds of the first pair
abbrev Head : (Pair → Type 0) → List Pair → Type 0
Head P [] = ⊥
Head P (q ∷ s) = P q

-- the partial selections that begin with q
abbrev block : Pair → List (List Pair) → List (List Pair)
block q cs = (q ∷ []) ∷ map (λ s. q ∷ s) (partial cs)

-- what holds of each candidate of the first link holds of the first pair
heads : (P : Pair → Type 0) (qs : List Pair) (cs : List (List Pair)) → AllByRecursion P qs → AllByRecursion (Head P) (partial (qs ∷ cs))
heads P [] cs a = tt
heads P (q ∷ qs) cs a =
    All-append (Head P) (block q cs) (partial (qs ∷ cs))
    (a.0, All-map (Head P) (λ s. q ∷ s) (partial cs) (all_every (λ s. P q) (λ s. a.0) (partial cs)))
    (heads P qs cs a.1)

-- a smaller first gap
ahead_cross : (c : List Pair) (cs : List (List Pair)) (q : Pair) (x y : List Pair) → Head (λ r. q.gap < r.gap) y → Ahead (c ∷ cs) (q ∷ x) y
ahead_cross c cs q x [] h = absurd h
ahead_cross c cs q x (r ∷ y) h = (
  λ _. cond-false (eqb q.gap r.gap) (before x y) (ltb q.gap r.gap) (ne_eqb q.gap r.gap (λ e. omega arith)) ∙ lt-ltb q.gap r.gap h,
  cond-false (eqb r.gap q.gap) (before y x) (ltb r.gap q.gap) (ne_eqb r.gap q.gap (λ e. omega arith)) ∙ le-ltb r.gap q.gap (omega arith),
)

-- one pair is ahead of what goes on from it
first_ahead : (c : List Pair) (cs : List (List Pair)) (q : Pair) → AllByRecursion (Ahead (c ∷ cs) (q ∷ [])) (map (λ s. q ∷ s) (partial cs))
first_ahead c [] q = tt
first_ahead c (d ∷ cs) q =
    All-map (Ahead (c ∷ d ∷ cs) (q ∷ [])) (λ s. q ∷ s) (partial (d ∷ cs))
    (all_every (λ y. Ahead (c ∷ d ∷ cs) (q ∷ []) (q ∷ y)) (λ y. (λ e. absurd (both_ways false refl e), before_cons q y [] ∙ before_nil y)) (partial (d ∷ cs)))

-- by the candidates of the first link
blocks : (c qs : List Pair) (cs : List (List Pair)) → Rising qs → Pairwise (Ahead cs) (partial cs) → Pairwise (Ahead (c ∷ cs)) (partial (qs ∷ cs))
blocks c [] cs r p = tt
blocks c (q ∷ qs) cs r p =
    let later : AllByRecursion (Head (λ r. q.gap < r.gap)) (partial (qs ∷ cs)) = heads (λ r. q.gap < r.gap) qs cs r.0 in
    let cross : (x : List Pair) → AllByRecursion (Ahead (c ∷ cs) (q ∷ x)) (partial (qs ∷ cs)) = λ x. All-weaker (Head (λ r. q.gap < r.gap)) (Ahead (c ∷ cs) (q ∷ x)) (λ y. ahead_cross c cs q x y) (partial (qs ∷ cs)) later in
    pairwise_append (Ahead (c ∷ cs)) (block q cs) (partial (qs ∷ cs))
    (first_ahead c cs q, pairwise_map (Ahead (c ∷ cs)) (Ahead cs) (λ s. q ∷ s) (λ x y h. (λ e. before_cons q x y ∙ h.0 e, before_cons q y x ∙ h.1)) (partial cs) p)
    (blocks c qs cs r.1 p)
    (cross [], All-map (λ x. AllByRecursion (Ahead (c ∷ cs) x) (partial (qs ∷ cs))) (λ s. q ∷ s) (partial cs) (all_every (λ x. AllByRecursion (Ahead (c ∷ cs) (q ∷ x)) (partial (qs ∷ cs))) cross (partial cs)))

-- whatever stands earlier in `partial` is ahead
pub partial_ordered : (cs : List (List Pair)) → AllByRecursion Rising cs → Pairwise (Ahead cs) (partial cs)
partial_ordered [] r = tt
partial_ordered (c ∷ cs) r = blocks c c cs r.0 (partial_ordered cs r.1)

-- ---- which of them are complete
-- by the candidates of the first link
complete_from : (c qs : List Pair) (cs : List (List Pair)) → ((q : Pair) → map (λ s. q ∷ s) (complete cs) ≡ filter (full (c ∷ cs)) (block q cs)) → complete (qs ∷ cs) ≡ filter (full (c ∷ cs)) (partial (qs ∷ cs))
complete_from c [] cs h = refl
complete_from c (q ∷ qs) cs h = ap₂ (λ a b. a ++ b) (h q) (complete_from c qs cs h) ∙ sym (filter-append (full (c ∷ cs)) (block q cs) (partial (qs ∷ cs)))

complete_at : (c qs : List Pair) (cs : List (List Pair)) → complete (qs ∷ cs) ≡ filter (full (c ∷ cs)) (partial (qs ∷ cs))
complete_at c qs [] = complete_from c qs [] (λ q. refl)
complete_at c qs (d ∷ cs) = complete_from c qs (d ∷ cs) (λ q. ap (map (λ s. q ∷ s)) (complete_at d d cs) ∙ sym (filter_map_of (full (c ∷ d ∷ cs)) (λ s. q ∷ s) (partial (d ∷ cs))))

-- the complete selections are the whole ones of `partial`, in its order
pub complete_is : (cs : List (List Pair)) → 0 < length cs → complete cs ≡ filter (full cs) (partial cs)
complete_is [] h = absurd (omega arith)
complete_is (c ∷ cs) h = complete_at c c cs
