-- The laws of a port's limit and of the two measures, and so the promise of every solve of a script.
use Rattle.std.proofs.Common.{◌≡◌, ℕ, true, eqb, leb, List, [], ◌∷◌, ◌++◌, fold, refl, sym, inl, inr, rules}
use Rattle.std.proofs.lemmas.Bool.{cases_Bool, cond-true, cond-false, eqb-true, le-leb}
use Rattle.limits.specs.declared.pair.Pair.{Pair}
use Rattle.limits.specs.Breach.{stacked}
use Rattle.limits.specs.Burst.{burst, burst_at_most}
use Rattle.limits.specs.BurstOrder.{smaller_burst}
use Rattle.limits.specs.Gaps.{eight_gaps}
use Rattle.limits.specs.Port.{PortLayers, layers_breach}
use Rattle.limits.specs.RuleLaws.{floor_keeps, share_keeps, jitter_keeps}
use Rattle.limits.specs.Selection.{Selection, Lowered}
use Rattle.limits.specs.SumLaws.{burst_adds, reserve_adds}
use Rattle.limits.specs.Sums.{reserve}
use Rattle.plan.specs.declared.call.Call.{Call}
use Rattle.plan.specs.History.{Event, Edit, Solve, after_event, ledger_of}
use Rattle.plan.specs.Ledger.{answer, effect, after}
use Rattle.plan.specs.Sound.{good}
use Rattle.plan.specs.Standing.{Standing, nothing}
use Rattle.plan.proofs.Keep.{keep}
use Rattle.planner.specs.Ending.{ending}
use Rattle.planner.specs.Named.{Aim}
use Rattle.planner.proofs.Choices.{lawful_candidates}
use Rattle.planner.proofs.Exchanged.{least_of_all}
use Rattle.planner.proofs.Laws.{Laws, laws_of}
use Rattle.planner.proofs.Promised.{promise_kept}
use Rattle.script.specs.Script.{SolvePromised, SolvesPromised}
use Rattle.script.specs.Told.{reserve_aim, burst_aim}
use Rattle.script.proofs.Offers.{told_by_ending}

-- ---- what stands is sound
good_after : (st : Standing) (call : Call) → good st ≡ true → good (after st call) ≡ true
good_after st call h =
    elim (cases_Bool (eqb (answer st call) 0)) [
      | inl yes' ↦ rw (cond-true (eqb (answer st call) 0) (effect st call) st yes') (keep st call h (sym (eqb-true (answer st call) 0 yes')))
      | inr no' ↦ rw (cond-false (eqb (answer st call) 0) (effect st call) st no') h
    ]

good_along : (events : List Event) (st : Standing) → good st ≡ true → good (fold after_event st events) ≡ true
good_along [] st h = h
good_along (Edit call ∷ events) st h = good_along events (after st call) (good_after st call h)
good_along (Solve ∷ events) st h = good_along events st h

good_ledger : (events : List Event) → good (ledger_of events) ≡ true
good_ledger events = good_along events nothing refl

-- ---- the laws of the layers
-- where two layers have no breach, others have none that have none where these have none
stacked_keeps : (own below own' below' : ℕ) → (own ≡ 0 → own' ≡ 0) → (below ≡ 0 → below' ≡ 0) → stacked own below ≡ 0 → stacked own' below' ≡ 0
stacked_keeps own below own' below' keeps keeps_below h = search rules

module _ (limit : PortLayers) where
  pub begins : (xs ys : List Pair) → Selection (xs ++ ys) → layers_breach limit (xs ++ ys) ≡ 0 → layers_breach limit xs ≡ 0
  begins xs ys _ =
      stacked_keeps _ _ _ _
      ((floor_keeps limit.rule.gap).begins xs ys)
      (stacked_keeps _ _ _ _ ((share_keeps limit.below.rule.rate).begins xs ys) (stacked_keeps _ 0 _ 0 ((jitter_keeps limit.below.below.rule.rate).begins xs ys) (λ e. e)))

  pub lowers : (xs ys : List Pair) → Selection xs → Selection ys → Lowered xs ys → layers_breach limit ys ≡ 0 → layers_breach limit xs ≡ 0
  lowers xs ys _ sel low =
      stacked_keeps _ _ _ _
      ((floor_keeps limit.rule.gap).lowers xs ys sel low)
      (stacked_keeps _ _ _ _ ((share_keeps limit.below.rule.rate).lowers xs ys sel low) (stacked_keeps _ 0 _ 0 ((jitter_keeps limit.below.below.rule.rate).lowers xs ys sel low) (λ e. e)))

  reserve_laws : Laws (reserve_aim limit)
  reserve_laws = laws_of (layers_breach limit) reserve leb begins lowers (search rules) (search rules)
      (λ xs ys sel. le-leb (reserve xs) (reserve (xs ++ ys)) (reserve_adds.begins xs ys))
      (λ xs ys _ sel low. le-leb (reserve xs) (reserve ys) (reserve_adds.lowers xs ys sel low))

  burst_laws : Laws (burst_aim limit)
  burst_laws = laws_of (layers_breach limit) burst burst_at_most begins lowers (search rules) (search rules)
      (λ xs ys sel. smaller_burst (burst xs) (burst (xs ++ ys)) (burst_adds.begins xs ys) (reserve_adds.begins xs ys))
      (λ xs ys _ sel low. smaller_burst (burst xs) (burst ys) (burst_adds.lowers xs ys sel low) (reserve_adds.lowers xs ys sel low))

-- whatever the ledger says stands, a solve keeps its promise
module _ {T : Type 0} (aim : Aim T) (laws : Laws aim) (done : List Event) (allowance : ℕ) where
  one_promised : SolvePromised aim (ledger_of done) allowance
  one_promised =
      let st = ledger_of done in
      let others = least_of_all aim laws _ (lawful_candidates st (good_ledger done)) in
      record {
        same = λ rows work_rows enough works. told_by_ending aim st others allowance work_rows rows enough works;
        promised = λ rows work_rows. promise_kept aim st others allowance work_rows rows (ending eight_gaps aim st allowance work_rows rows) refl;
      }

pub solves_promised : SolvesPromised
solves_promised limit done allowance = (one_promised (reserve_aim limit) (reserve_laws limit) done allowance, one_promised (burst_aim limit) (burst_laws limit) done allowance)
