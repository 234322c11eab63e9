-- The candidates of one link: those that its row holds are lawful, serve it and rise in gap, and every pair that serves it has
-- one of its gap and of no greater MTU.
use Rattle.std.proofs.Common.{◌≡◌, ℕ, ◌<◌, ◌≤◌, Bool, true, false, ◌&&◌, leb, eqb, List, [], ◌∷◌, Some, None, Option, refl, ap, ◌∙◌, subst, inl, inr, arith, rules}
use Rattle.std.specs.List.{AllByRecursion, list_all, list_any, cons_option}
use Rattle.std.specs.Option.{is_none, IfSome}
use Rattle.std.proofs.ByRecursion.{All-weaker, All-map}
use Rattle.std.proofs.lemmas.Bool.{both_ways, and_parts, and_from, eq-eqb, eqb-true, le-leb, or_cases, false≢true}
use Rattle.limits.specs.declared.pair.Pair.{Pair}
use Rattle.limits.specs.Every.{all_from_every}
use Rattle.limits.specs.Gaps.{eight_gaps}
use Rattle.limits.specs.Lawful.{mtu_min, mtu_max, lawful, lawful_gap, lawful_mtu}
use Rattle.limits.specs.Range.{among}
use Rattle.limits.specs.Selection.{Lawful}
use Rattle.limits.specs.Within.{le_from_within}
use Rattle.plan.specs.declared.flow.Flow.{Flow}
use Rattle.plan.specs.Candidate.{candidate, candidates, LeastAt}
use Rattle.plan.specs.Message.{meets}
use Rattle.plan.proofs.Least.{candidate_least, lawful_least}
use Rattle.planner.specs.Choice.{serves, lacks_candidate}
use Rattle.planner.specs.Exchange.{raised_candidate}
use Rattle.planner.specs.Table.{present, Rising}
use Rattle.planner.proofs.Members.{In, any_in}

-- what holds of each candidate that there is holds of all that a row holds
present_all : (P : Pair → Type 0) (os : List (Option Pair)) → AllByRecursion (λ o. IfSome o P) os → AllByRecursion P (present os)
present_all P [] h = tt
present_all P (None ∷ os) h = present_all P os h.1
present_all P (Some p ∷ os) h = (h.0, present_all P os h.1)

module _ (fs : List Flow) where
  -- what holds of the candidate at each gap holds of those that a row holds
  all_present : (P : Pair → Type 0) (gaps : List ℕ) → AllByRecursion (λ g. IfSome (candidate fs g) P) gaps → AllByRecursion P (present (candidates gaps fs))
  all_present P gaps h = present_all P (candidates gaps fs) (All-map (λ o. IfSome o P) (candidate fs) gaps h)

  -- a candidate serves the flows
  fits_at : (g : ℕ) → among eight_gaps g ≡ true → (o : Option Pair) → LeastAt fs g o → IfSome o (λ p. serves eight_gaps fs p ≡ true)
  fits_at g e None least = tt
  fits_at g e (Some p) least = and_from (lawful eight_gaps p) (meets fs p.gap p.mtu) (lawful_least eight_gaps fs g (Some p) e least) (ap (λ x. meets fs x p.mtu) least.0 ∙ least.3)

  pub all_fit : AllByRecursion (λ p. serves eight_gaps fs p ≡ true) (present (candidates eight_gaps fs))
  all_fit = all_present (λ p. serves eight_gaps fs p ≡ true) eight_gaps (All-weaker (λ g. among eight_gaps g ≡ true) (λ g. IfSome (candidate fs g) (λ p. serves eight_gaps fs p ≡ true)) (λ g e. fits_at g e (candidate fs g) (candidate_least fs g)) eight_gaps (all_from_every (among eight_gaps) eight_gaps refl))

  pub all_lawful : AllByRecursion Lawful (present (candidates eight_gaps fs))
  all_lawful = All-weaker (λ p. serves eight_gaps fs p ≡ true) Lawful (λ p e. (and_parts (lawful eight_gaps p) (meets fs p.gap p.mtu) e).0) (present (candidates eight_gaps fs)) all_fit

  -- the gaps rise
  abbrev Up : List ℕ → Type 0
  Up [] = Unit {0}
  Up (g ∷ gaps) = AllByRecursion (λ h. g < h) gaps × Up gaps

  above_at : (p : Pair) (g : ℕ) → p.gap < g → (o : Option Pair) → LeastAt fs g o → IfSome o (λ q. p.gap < q.gap)
  above_at p g lt None least = tt
  above_at p g lt (Some q) least = omega (arith, least.0)

  rising_at : (g : ℕ) (gaps : List ℕ) → AllByRecursion (λ h. g < h) gaps → (o : Option Pair) → LeastAt fs g o → Rising (present (candidates gaps fs)) → Rising (cons_option o (present (candidates gaps fs)))
  rising_at g gaps up None least rest = rest
  rising_at g gaps up (Some p) least rest = (
    all_present (λ q. p.gap < q.gap) gaps (All-weaker (λ h. g < h) (λ h. IfSome (candidate fs h) (λ q. p.gap < q.gap)) (λ h lt. above_at p h (omega (arith, least.0)) (candidate fs h) (candidate_least fs h)) gaps up),
    rest,
  )

  rising : (gaps : List ℕ) → Up gaps → Rising (present (candidates gaps fs))
  rising [] up = tt
  rising (g ∷ gaps) up = rising_at g gaps up.0 (candidate fs g) (candidate_least fs g) (rising gaps up.1)

  pub all_rise : Rising (present (candidates eight_gaps fs))
  all_rise = rising eight_gaps (search rules)

  -- the test that a candidate has the gap of the pair and no greater MTU
  abbrev below : Pair → Pair → Bool
  below p q = eqb q.gap p.gap && leb q.mtu p.mtu

  in_cons : (o : Option Pair) (ps : List Pair) (q : Pair) → In q ps → In q (cons_option o ps)
  in_cons None ps q i = i
  in_cons (Some p) ps q i = inr i

  -- the candidate at one of the gaps stands in the row
  in_present : (gaps : List ℕ) (g : ℕ) (q : Pair) → among gaps g ≡ true → candidate fs g ≡ Some q → In q (present (candidates gaps fs))
  in_present [] g q e is = absurd (both_ways false refl e)
  in_present (h ∷ gaps) g q e is =
      elim (or_cases (eqb h g) (among gaps g) e) [
        | inl here ↦ rw (ap (candidate fs) (eqb-true h g here) ∙ is) (inl refl)
        | inr later ↦ in_cons (candidate fs h) (present (candidates gaps fs)) q (in_present gaps g q later is)
      ]

  -- a pair that serves the flows is the candidate at its gap, or its MTU is greater
  serving : (p : Pair) → serves eight_gaps fs p ≡ true → (q : Pair) × (candidate fs p.gap ≡ Some q) × (below p q ≡ true)
  serving p e = at (candidate fs p.gap) refl (candidate_least fs p.gap)
    where
      parts : (lawful eight_gaps p ≡ true) × (meets fs p.gap p.mtu ≡ true)
      parts = and_parts (lawful eight_gaps p) (meets fs p.gap p.mtu) e

      range : (mtu_min ≤ p.mtu) × (p.mtu ≤ mtu_max)
      range = le_from_within mtu_min mtu_max p.mtu (and_parts (lawful_gap eight_gaps p) (lawful_mtu p) parts.0).1

      at : (o : Option Pair) → candidate fs p.gap ≡ o → LeastAt fs p.gap o → (q : Pair) × (candidate fs p.gap ≡ Some q) × (below p q ≡ true)
      at None is least = absurd (both_ways (meets fs p.gap p.mtu) (least p.mtu range.0 range.1) parts.1)
      at (Some q) is least = (q, is, and_from (eqb q.gap p.gap) (leb q.mtu p.mtu) (eq-eqb q.gap p.gap least.0) (le-leb q.mtu p.mtu (least.4 p.mtu range.0 parts.1)))

  pub raised : (p : Pair) → serves eight_gaps fs p ≡ true → raised_candidate (present (candidates eight_gaps fs)) p ≡ true
  raised p e =
      let legal = (and_parts (lawful eight_gaps p) (meets fs p.gap p.mtu) e).0 in
      let low = serving p e in
      let stands = in_present eight_gaps p.gap low.0 (and_parts (lawful_gap eight_gaps p) (lawful_mtu p) legal).0 low.1 in
      and_from (lawful eight_gaps p) (list_any (below p) (present (candidates eight_gaps fs))) legal (any_in (below p) (present (candidates eight_gaps fs)) low.0 stands low.2)

  empty : (os : List (Option Pair)) → list_all is_none os ≡ true → present os ≡ []
  empty [] e = refl
  empty (None ∷ os) e = empty os e
  empty (Some p ∷ os) e = absurd (both_ways false refl e)

  -- where there is no candidate, no pair serves the flows
  pub none_fits : (p : Pair) → lacks_candidate eight_gaps fs ≡ true → serves eight_gaps fs p ≡ true → ⊥
  none_fits p e serves =
      let left : raised_candidate [] p ≡ true = subst (λ ps. raised_candidate ps p ≡ true) (empty (candidates eight_gaps fs) e) (raised p serves) in
      false≢true (and_parts (lawful eight_gaps p) false left).1
