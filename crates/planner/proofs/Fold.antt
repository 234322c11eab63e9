-- The walk along all partial selections with the best complete one so far, and that it counts the visits.
use Rattle.std.proofs.Common.{◌≡◌, ℕ, ◌+◌, ◌<◌, Bool, true, false, cond, not, ◌&&◌, ◌||◌, List, [], ◌∷◌, ◌++◌, length, Some, None, Option, count_by, refl, sym, ap, ap₂, ◌∙◌, inl, inr, append_assoc}
use Rattle.std.specs.List.{list_any}
use Rattle.std.proofs.lemmas.Bool.{both_ways, cases_Bool}
use Rattle.std.proofs.Math.Bool.{or_assoc, or-false}
use Rattle.std.proofs.lemmas.List.Folds.{list_any-append}
use Rattle.std.proofs.lemmas.List.Sums.{sum_by-cons}
use Rattle.limits.specs.declared.pair.Pair.{Pair}
use Rattle.planner.specs.Named.{Aim, no_more, admitted, visited, visits}
use Rattle.planner.specs.Selections.{before, parent, complete, partial}
use Rattle.planner.specs.Table.{LawfulCandidates}
use Rattle.std.proofs.ByRecursion.{All-weaker}
use Rattle.planner.proofs.Members.{any_same, any_none, any_kept}
use Rattle.planner.proofs.Order.{full, Ahead, before_self, partial_ordered, complete_is}
use Rattle.planner.proofs.Pairwise.{Pairwise, pairwise_at}

-- ---- tests
or_absorb_right : (a b : Bool) → (b ≡ true → a ≡ true) → a ≡ (a || b)
or_absorb_right true b h = refl
or_absorb_right false true h = h refl
or_absorb_right false false h = refl

or_absorb_left : (a b : Bool) → (a ≡ true → b ≡ true) → b ≡ (a || b)
or_absorb_left true true h = refl
or_absorb_left true false h = h refl
or_absorb_left false b h = refl

and_ahead : (f w b l : Bool) → (f ≡ true → b ≡ true) → (f && (w && (b && l))) ≡ (f && (w && l))
and_ahead false w b l h = refl
and_ahead true w true l h = refl
and_ahead true true false false h = refl
and_ahead true true false true h = h refl
and_ahead true false false l h = refl

and_behind : (f w b l : Bool) → b ≡ false → (f && (w && (b && l))) ≡ false
and_behind false w b l h = refl
and_behind true false b l h = refl
and_behind true true false l h = refl
and_behind true true true true h = h
and_behind true true true false h = refl

-- the comparison of totals: of two one is no more than the other, and it passes along a chain
pub record Ranks {T : Type 0} (at_most : T → T → Bool) : Type 0 where
  pub either : (x y : T) → at_most x y ≡ false → at_most y x ≡ true
  pub chained : (x y z : T) → at_most x y ≡ true → at_most y z ≡ true → at_most x z ≡ true

-- a total is no more than itself
pub reflexive : {T : Type 0} {at_most : T → T → Bool} → Ranks at_most → (x : T) → at_most x x ≡ true
reflexive {T} {at_most} ranks x = elim (cases_Bool (at_most x x)) [ inl e ↦ e | inr e ↦ ranks.either x x e ]

module _ {T : Type 0} (a : Aim T) where
  -- the best so far totals no more than x
  abbrev pub beats : Option (List Pair) → List Pair → Bool
  beats None x = false
  beats (Some s) x = no_more a s x

  -- the best after p: p where it is complete, within and not beaten
  abbrev pub next : List (List Pair) → Option (List Pair) → List Pair → Option (List Pair)
  next cs b p = cond (full cs p && (a.within p && not (beats b p))) (Some p) b

  -- the best after all of ps
  abbrev pub final : List (List Pair) → Option (List Pair) → List (List Pair) → Option (List Pair)
  final cs b [] = b
  final cs b (p ∷ ps) = final cs (next cs b p) ps

  -- p is visited with that best so far
  abbrev pub seen : Option (List Pair) → List Pair → Bool
  seen b p = a.within (parent p) && not (beats b (parent p))

  -- how many of ps are visited on the walk
  abbrev pub seens : List (List Pair) → Option (List Pair) → List (List Pair) → ℕ
  seens cs b [] = 0
  seens cs b (p ∷ ps) = cond (seen b p) 1 0 + seens cs (next cs b p) ps

  -- s is complete, within, and totals no more than x
  abbrev pub hit : List (List Pair) → List Pair → List Pair → Bool
  hit cs x s = full cs s && (a.within s && no_more a s x)

  -- the walk along two lists joined
  final_append : (cs : List (List Pair)) (b : Option (List Pair)) (ps qs : List (List Pair)) → final cs b (ps ++ qs) ≡ final cs (final cs b ps) qs
  final_append cs b [] qs = refl
  final_append cs b (p ∷ ps) qs = final_append cs (next cs b p) ps qs

  module _ (ranks : Ranks a.at_most) where
    -- what beats x after p
    beats_next : (f w : Bool) (b : Option (List Pair)) (p x : List Pair) (k : Bool) → k ≡ beats b p → beats (cond (f && (w && not k)) (Some p) b) x ≡ (beats b x || (f && (w && no_more a p x)))
    beats_next false w b p x k e = sym (or-false (beats b x))
    beats_next true false b p x k e = sym (or-false (beats b x))
    beats_next true true None p x true e = absurd (both_ways true e refl)
    beats_next true true None p x false e = refl
    beats_next true true (Some s) p x true e = or_absorb_right (no_more a s x) (no_more a p x) (λ h. ranks.chained (a.total s) (a.total p) (a.total x) (sym e) h)
    beats_next true true (Some s) p x false e = or_absorb_left (no_more a s x) (no_more a p x) (λ h. ranks.chained (a.total p) (a.total s) (a.total x) (ranks.either (a.total s) (a.total p) (sym e)) h)

    -- the best after ps beats x exactly when the best before did or some of ps does
    pub beats_final : (cs : List (List Pair)) (b : Option (List Pair)) (ps : List (List Pair)) (x : List Pair) → beats (final cs b ps) x ≡ (beats b x || list_any (hit cs x) ps)
    beats_final cs b [] x = sym (or-false (beats b x))
    beats_final cs b (p ∷ ps) x =
        beats_final cs (next cs b p) ps x
        ∙ ap (λ z. z || list_any (hit cs x) ps) (beats_next (full cs p) (a.within p) b p x (beats b p) refl)
        ∙ or_assoc (beats b x) (hit cs x p) (list_any (hit cs x) ps)

    module _ (cs : List (List Pair)) (some : 0 < length cs) (lawful : LawfulCandidates cs) where
      -- of the complete selections just those that the walk has passed come before p
      visited_is : (qs : List (List Pair)) (p : List Pair) (ps : List (List Pair)) → qs ++ p ∷ ps ≡ partial cs → seen (final cs None qs) p ≡ visited a cs p
      visited_is qs p ps split =
          let x = parent p in
          let f : List Pair → Bool = λ s. before s p && no_more a s x in
          let g : List Pair → Bool = λ s. a.within s && f s in
          let h : List Pair → Bool = λ s. full cs s && g s in
          let ordered : Pairwise (Ahead cs) (qs ++ p ∷ ps) = rw split (partial_ordered cs lawful.rising) in
          let parts = pairwise_at (Ahead cs) qs p ps ordered in
          let early : list_any h qs ≡ list_any (hit cs x) qs = any_same h (hit cs x) qs (All-weaker (λ s. Ahead cs s p) (λ s. h s ≡ hit cs x s) (λ s o. and_ahead (full cs s) (a.within s) (before s p) (no_more a s x) o.0) qs parts.0) in
          let late : list_any h (p ∷ ps) ≡ false = any_none h (p ∷ ps) (and_behind (full cs p) (a.within p) (before p p) (no_more a p x) (before_self p), All-weaker (Ahead cs p) (λ s. h s ≡ false) (λ s o. and_behind (full cs s) (a.within s) (before s p) (no_more a s x) o.1) ps parts.1) in
          let whole : list_any f (admitted a cs) ≡ list_any (hit cs x) qs =
          any_kept a.within f (complete cs) ∙ ap (list_any g) (complete_is cs some) ∙ any_kept (full cs) g (partial cs) ∙ ap (list_any h) (sym split) ∙ list_any-append h qs (p ∷ ps) ∙ ap₂ (λ b c. b || c) early late ∙ or-false (list_any (hit cs x) qs) in
          ap (λ b. a.within x && not b) (beats_final cs None qs x ∙ sym whole)

      -- the walk along a rest of the list counts the visits there
      seens_from : (qs ps : List (List Pair)) → qs ++ ps ≡ partial cs → seens cs (final cs None qs) ps ≡ count_by (visited a cs) ps
      seens_from qs [] split = refl
      seens_from qs (p ∷ ps) split =
          let on : final cs None (qs ++ p ∷ []) ≡ next cs (final cs None qs) p = final_append cs None qs (p ∷ []) in
          let rest : seens cs (next cs (final cs None qs) p) ps ≡ count_by (visited a cs) ps = ap (λ b. seens cs b ps) (sym on) ∙ seens_from (qs ++ p ∷ []) ps (append_assoc qs (p ∷ []) ps ∙ split) in
          ap₂ (λ b k. cond b 1 0 + k) (visited_is qs p ps split) rest ∙ sym (sum_by-cons (λ y. cond (visited a cs y) 1 0) p ps)

      -- the walk along all of them counts the visits
      pub seens_all : seens cs None (partial cs) ≡ visits a cs
      seens_all = seens_from [] (partial cs) refl
