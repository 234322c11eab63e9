-- A selection of other pairs than the candidates gives way to one of candidates, which is within and totals no more.
use Rattle.std.proofs.Common.{◌≡◌, suc, ◌<◌, true, false, ◌&&◌, leb, eqb, List, [], ◌∷◌, map, length, refl, ap, inl, inr, arith}
use Rattle.std.specs.List.{AllByRecursion, flat_map, list_any}
use Rattle.std.proofs.lemmas.Bool.{both_ways, and_parts, eqb-true, leb-true}
use Rattle.limits.specs.declared.pair.Pair.{Pair}
use Rattle.limits.specs.Gaps.{eight_gaps}
use Rattle.limits.specs.Lawful.{lawful}
use Rattle.limits.specs.Selection.{Lawful, Selection, Lowered}
use Rattle.planner.specs.Exchange.{raised_candidate, raised_candidates, LeastOfAll}
use Rattle.planner.specs.Named.{Aim}
use Rattle.planner.specs.Selections.{complete}
use Rattle.planner.specs.Table.{LawfulCandidates}
use Rattle.planner.proofs.Chosen.{named_least}
use Rattle.planner.proofs.Edges.{named_empty}
use Rattle.planner.proofs.Laws.{Laws}
use Rattle.planner.proofs.Members.{In, all_in, kept_in, any_found, in_left, in_right, in_map}

-- a candidate of the first link goes with a complete selection of the others
in_complete : (c : List Pair) (ss : List (List Pair)) (p : Pair) (s : List Pair) → In p c → In s ss → In (p ∷ s) (flat_map (λ q. map (λ t. q ∷ t) ss) c)
in_complete [] ss p s i j = absurd i
in_complete (q ∷ c) ss p s (inl e) j = in_left (p ∷ s) (map (λ t. q ∷ t) ss) (flat_map (λ r. map (λ t. r ∷ t) ss) c) (rw e (in_map (λ t. q ∷ t) s ss j))
in_complete (q ∷ c) ss p s (inr i) j = in_right (p ∷ s) (map (λ t. q ∷ t) ss) (flat_map (λ r. map (λ t. r ∷ t) ss) c) (in_complete c ss p s i j)

-- the complete selection that t gives way to
record Replaced (cs : List (List Pair)) (t s : List Pair) : Type 0 where
  complete_one : In s (complete cs)
  lowered : Lowered s t
  lawful_new : AllByRecursion Lawful s
  lawful_old : AllByRecursion Lawful t
  long_new : length s ≡ length cs
  long_old : length t ≡ length cs

-- there is one
replaced : (cs : List (List Pair)) (t : List Pair) → AllByRecursion (λ c. AllByRecursion Lawful c) cs → raised_candidates cs t ≡ true → (s : List Pair) × Replaced cs t s
replaced [] [] l e = ([], record { complete_one = inl refl; lowered = tt; lawful_new = tt; lawful_old = tt; long_new = refl; long_old = refl })
replaced [] (p ∷ t) l e = absurd (both_ways false refl e)
replaced (c ∷ cs) [] l e = absurd (both_ways false refl e)
replaced (c ∷ cs) (p ∷ t) l e =
    let parts = and_parts (raised_candidate c p) (raised_candidates cs t) e in
    let one = and_parts (lawful eight_gaps p) (list_any (λ q. (eqb q.gap p.gap) && leb q.mtu p.mtu) c) parts.0 in
    let found = any_found (λ q. (eqb q.gap p.gap) && leb q.mtu p.mtu) c one.1 in
    let q = found.0 in
    let low = and_parts (eqb q.gap p.gap) (leb q.mtu p.mtu) found.2 in
    let others = replaced cs t l.1 parts.1 in
    let r = others.1 in (
      q ∷ others.0,
      record {
        complete_one = in_complete c (complete cs) q others.0 found.1 r.complete_one;
        lowered = ((eqb-true q.gap p.gap low.0, leb-true q.mtu p.mtu low.1), r.lowered);
        lawful_new = (all_in Lawful c q l.0 found.1, r.lawful_new);
        lawful_old = (one.0, r.lawful_old);
        long_new = ap suc r.long_new;
        long_old = ap suc r.long_old;
      },
    )

module _ {T : Type 0} (a : Aim T) (laws : Laws a) where
  least_some : (cs : List (List Pair)) → 0 < length cs → LawfulCandidates cs → LeastOfAll a cs
  least_some cs some lawful t e within =
      let f = lawful.few in
      let new = replaced cs t lawful.lawful e in
      let s = new.0 in
      let r = new.1 in
      let long_s = r.long_new in
      let long_t = r.long_old in
      let sel_s : Selection s = record { few = omega arith; each = r.lawful_new } in
      let sel_t : Selection t = record { few = omega arith; each = r.lawful_old } in
      let within_s : a.within s ≡ true = laws.lowers_within s t sel_s sel_t r.lowered within in
      let named = named_least a laws.ranks cs some lawful s (kept_in a.within (complete cs) s r.complete_one within_s) in
      (named.0, named.1, laws.ranks.chained (a.total named.0) (a.total s) (a.total t) named.2 (laws.lowers_less s t sel_s sel_t r.lowered))

  least_none : LeastOfAll a []
  least_none [] e within = ([], named_empty a laws within, laws.begins_less [] [] (record { few = omega arith; each = tt }))
  least_none (p ∷ t) e within = absurd (both_ways false refl e)

  pub least_of_all : (cs : List (List Pair)) → LawfulCandidates cs → LeastOfAll a cs
  least_of_all [] lawful = least_none
  least_of_all (c ∷ cs) lawful = least_some (c ∷ cs) (omega arith) lawful
