-- The best after the walk along all partial selections is the named setting.
use Rattle.std.proofs.Common.{◌≡◌, ◌<◌, Bool, true, false, cond, not, ◌&&◌, List, [], ◌∷◌, ◌++◌, filter, length, Some, None, Option, refl, sym, ap, ◌∙◌, subst, ◌⊎◌, inl, inr}
use Rattle.std.specs.List.{list_any, list_all, find}
use Rattle.std.proofs.lemmas.Bool.{both_ways, and_from, and_parts, not-true, cases_Bool, cond-true, not_from_false}
use Rattle.std.proofs.lemmas.Option.{none-some, same_Some}
use Rattle.limits.specs.declared.pair.Pair.{Pair}
use Rattle.planner.specs.Named.{Aim, no_more, admitted, least, first, named}
use Rattle.planner.specs.Selections.{before, complete, partial}
use Rattle.planner.specs.Table.{LawfulCandidates}
use Rattle.planner.proofs.Fold.{Ranks, reflexive, beats, next, final, hit, beats_final}
use Rattle.std.proofs.ByRecursion.{All-weaker}
use Rattle.planner.proofs.Members.{In, all_in, in_append, in_middle, in_kept, kept_in, any_in, any_none, every_from_in, every_in}
use Rattle.planner.proofs.Order.{full, Ahead, before_self, partial_ordered, complete_is}
use Rattle.planner.proofs.Pairwise.{Pairwise, pairwise_at, pairwise_kept}

nil_from_in : {X : Type 0} (xs : List X) → ((x : X) → In x xs → ⊥) → xs ≡ []
nil_from_in [] h = refl
nil_from_in (x ∷ xs) h = absurd (h x (inl refl))

-- of selections in order, the one that none of them comes before is the first of the list
first_is : (cs ss : List (List Pair)) (s : List Pair) → Pairwise (Ahead cs) ss → In s ss → ((t : List Pair) → In t ss → full cs t ≡ true) → ((t : List Pair) → In t ss → before t s ≡ true → ⊥) → first ss ≡ Some s
first_is cs [] s p i whole none = absurd i
first_is cs (t ∷ ss) s p (inr i) whole none = absurd (none t (inl refl) ((all_in (Ahead cs t) ss s p.0 i).0 (whole t (inl refl))))
first_is cs (t ∷ ss) s p (inl e) whole none =
    let f : List Pair → Bool = λ u. before u t in
    let ahead : list_any f (t ∷ ss) ≡ false = any_none f (t ∷ ss) (before_self t, All-weaker (Ahead cs t) (λ u. f u ≡ false) (λ u o. o.1) ss p.0) in
    cond-true (not (list_any f (t ∷ ss))) (Some t) (find (λ u. not (list_any (λ v. before v u) (t ∷ ss))) ss) (not_from_false (list_any f (t ∷ ss)) ahead) ∙ ap (λ u. Some u) (sym e)

module _ {T : Type 0} (a : Aim T) (ranks : Ranks a.at_most) (cs : List (List Pair)) (some : 0 < length cs) (lawful : LawfulCandidates cs) where
  -- a complete selection is whole and stands in `partial`
  whole : (s : List Pair) → In s (complete cs) → In s (partial cs) × (full cs s ≡ true)
  whole s i = in_kept (full cs) (partial cs) s (subst (λ l. In s l) (complete_is cs some) i)

  -- and one within the limit besides
  setting : (s : List Pair) → In s (admitted a cs) → In s (partial cs) × (full cs s ≡ true) × (a.within s ≡ true)
  setting s i =
      let k = in_kept a.within (complete cs) s i in
      let w = whole s k.0 in
      (w.0, w.1, k.1)

  -- a whole selection within the limit beats what it totals no more than
  hit_itself : (t : List Pair) (qs : List (List Pair)) → In t qs → full cs t ≡ true → a.within t ≡ true → (x : List Pair) → no_more a t x ≡ true → list_any (hit a cs x) qs ≡ true
  hit_itself t qs i f w x e = any_in (hit a cs x) qs t i (and_from (full cs t) (a.within t && no_more a t x) f (and_from (a.within t) (no_more a t x) w e))

  -- the best after the walk totals no more than any setting
  beats_admitted : (t : List Pair) → In t (admitted a cs) → beats a (final a cs None (partial cs)) t ≡ true
  beats_admitted t i = let m = setting t i in beats_final a ranks cs None (partial cs) t ∙ hit_itself t (partial cs) m.0 m.1 m.2 t (reflexive ranks (a.total t))

  -- where the best so far was found
  abbrev Picked : Option (List Pair) → List (List Pair) → List Pair → Type 0
  Picked b ps s = (qs : List (List Pair)) × (rs : List (List Pair)) × (ps ≡ qs ++ s ∷ rs) × (full cs s ≡ true) × (a.within s ≡ true) × (beats a (final a cs b qs) s ≡ false)

  -- one step of that
  choose : (b : Option (List Pair)) (p s : List Pair) (k : Bool) → k ≡ (full cs p && (a.within p && not (beats a b p))) → cond k (Some p) b ≡ Some s → (b ≡ Some s) ⊎ ((p ≡ s) × (full cs s ≡ true) × (a.within s ≡ true) × (beats a b s ≡ false))
  choose b p s false e h = inl h
  choose b p s true e h =
      let same : p ≡ s = same_Some p s h in
      let l = and_parts (full cs p) (a.within p && not (beats a b p)) (sym e) in
      let r = and_parts (a.within p) (not (beats a b p)) l.1 in
      inr (same, ap (full cs) (sym same) ∙ l.0, ap a.within (sym same) ∙ r.0, ap (beats a b) (sym same) ∙ not-true (beats a b p) r.1)

  -- the best after the walk was found on it, or stood before
  picked : (b : Option (List Pair)) (ps : List (List Pair)) (s : List Pair) → final a cs b ps ≡ Some s → (b ≡ Some s) ⊎ Picked b ps s
  picked b [] s e = inl e
  picked b (p ∷ ps) s e =
      elim (picked (next a cs b p) ps s e) [
        | inl h ↦ elim (choose b p s (full cs p && (a.within p && not (beats a b p))) refl h) [
          | inl k ↦ inl k
          | inr k ↦ inr ([], ps, ap (λ z. z ∷ ps) k.0, k.1, k.2, k.3)
        ]
        | inr q ↦ inr (p ∷ q.0, q.1, ap (λ z. p ∷ z) q.2, q.3, q.4, q.5)
      ]

  -- s is within the limit, totals no more than any other, and less than what comes before
  abbrev Chosen : List Pair → Type 0
  Chosen s = In s (admitted a cs) × ((t : List Pair) → In t (admitted a cs) → no_more a s t ≡ true) × ((t : List Pair) → In t (admitted a cs) → before t s ≡ true → no_more a t s ≡ false)

  -- the best after the walk is so
  chosen_at : (s : List Pair) → final a cs None (partial cs) ≡ Some s → Picked None (partial cs) s → Chosen s
  chosen_at s e q =
      let qs = q.0 in
      let rs = q.1 in
      let split : partial cs ≡ qs ++ s ∷ rs = q.2 in
      let ordered : Pairwise (Ahead cs) (qs ++ s ∷ rs) = rw (sym split) (partial_ordered cs lawful.rising) in
      let parts = pairwise_at (Ahead cs) qs s rs ordered in
      let not_late : (t : List Pair) → In t (s ∷ rs) → before t s ≡ false = λ t i. all_in (λ y. before y s ≡ false) (s ∷ rs) t (before_self s, All-weaker (Ahead cs s) (λ y. before y s ≡ false) (λ y o. o.1) rs parts.1) i in
      let here : In s (complete cs) = subst (λ l. In s l) (sym (complete_is cs some)) (kept_in (full cs) (partial cs) s (subst (λ l. In s l) (sym split) (in_middle qs s rs)) q.3) in (
        kept_in a.within (complete cs) s here q.4,
        λ t i. ap (λ b. beats a b t) (sym e) ∙ beats_admitted t i,
        λ t i b.
            let m = setting t i in
            let there : In t qs ⊎ In t (s ∷ rs) = in_append qs (s ∷ rs) t (subst (λ l. In t l) split m.0) in
            let early : In t qs = elim there [ inl j ↦ j | inr j ↦ absurd (both_ways (before t s) (not_late t j) b) ] in
            elim (cases_Bool (no_more a t s)) [
              | inl y ↦ absurd (both_ways (beats a (final a cs None qs) s) q.5 (beats_final a ranks cs None qs s ∙ hit_itself t qs early m.1 m.2 s y))
              | inr n ↦ n
            ],
      )

  chosen : (s : List Pair) → final a cs None (partial cs) ≡ Some s → Chosen s
  chosen s e = elim (picked None (partial cs) s e) [ inl h ↦ absurd (none-some s h) | inr q ↦ chosen_at s e q ]

  -- those that total least stand in order
  least_ordered : Pairwise (Ahead cs) (least a cs)
  least_ordered =
      pairwise_kept (Ahead cs) (λ s. list_all (no_more a s) (admitted a cs)) (admitted a cs)
      (pairwise_kept (Ahead cs) a.within (complete cs)
      (rw (complete_is cs some) (pairwise_kept (Ahead cs) (full cs) (partial cs) (partial_ordered cs lawful.rising))))

  named_some : (s : List Pair) → final a cs None (partial cs) ≡ Some s → named a cs ≡ Some s
  named_some s e =
      let c = chosen s e in
      let test : List Pair → Bool = λ t. list_all (no_more a t) (admitted a cs) in
      let from : (t : List Pair) → In t (least a cs) → In t (admitted a cs) × (test t ≡ true) = λ t i. in_kept test (admitted a cs) t i in
      first_is cs (least a cs) s least_ordered
      (kept_in test (admitted a cs) s c.0 (every_from_in (no_more a s) (admitted a cs) c.1))
      (λ t i. (setting t (from t i).0).1)
      (λ t i b. both_ways (no_more a t s) (c.2 t (from t i).0 b) (every_in (no_more a t) (admitted a cs) s (from t i).1 c.0))

  admitted_none : final a cs None (partial cs) ≡ None → admitted a cs ≡ []
  admitted_none e = nil_from_in (admitted a cs) (λ s i. both_ways (beats a (final a cs None (partial cs)) s) (ap (λ b. beats a b s) e) (beats_admitted s i))

  named_none : final a cs None (partial cs) ≡ None → named a cs ≡ None
  named_none e = ap (λ ss. first (filter (λ s. list_all (no_more a s) ss) ss)) (admitted_none e)

  -- the walk along all of them ends with the named setting
  pub final_named : (o : Option (List Pair)) → final a cs None (partial cs) ≡ o → named a cs ≡ o
  final_named None e = named_none e
  final_named (Some s) e = named_some s e

  -- a setting shows that there is a named one, which totals no more
  pub named_least : (t : List Pair) → In t (admitted a cs) → (s : List Pair) × (named a cs ≡ Some s) × (no_more a s t ≡ true)
  named_least t i = found (final a cs None (partial cs)) refl
    where
      found : (o : Option (List Pair)) → final a cs None (partial cs) ≡ o → (s : List Pair) × (named a cs ≡ Some s) × (no_more a s t ≡ true)
      found None e = absurd (both_ways (beats a (final a cs None (partial cs)) t) (ap (λ b. beats a b t) e) (beats_admitted t i))
      found (Some s) e = (s, named_some s e, (chosen s e).1 t i)
