use Rattle.std.proofs.Common.{◌≡◌, ℕ, true, refl, sym, ap, ◌∙◌, length, take, replicate, arith}
use Rattle.std.proofs.lemmas.Bool.{le-leb, lt-ltb}
use Rattle.std.proofs.lemmas.List.{length-take-le}
use Rattle.std.proofs.lemmas.Result.{err_from_is_err_and}
use Rattle.limits.specs.Gaps.{eight_gaps}
use Rattle.limits.specs.Port.{PortLayers, layers_breach}
use Rattle.plan.specs.Held.{standing}
use Rattle.plan.specs.Sound.{good}
use Rattle.plan.specs.Standing.{Standing}
use Rattle.plan.proofs.Good.{facts_from_good}
use Rattle.planner.specs.declared.row.Row.{Row}
use Rattle.planner.specs.Ending.{ending}
use Rattle.planner.specs.Named.{aim_of}
use Rattle.planner.proofs.Choices.{lawful_candidates}
use Rattle.planner.proofs.Exchanged.{least_of_all}
use Rattle.planner.proofs.Laws.{Laws, laws_of}
use Rattle.script.specs.Told.{of_ending, solve_told}
use Rattle.script.proofs.Laws.{begins, lowers}
use Rattle.script.proofs.Offers.{choice_selection, accepted_told, told_by_ending}
use Rattle.script.proofs.solving.solve_by.Given as given
use Rattle.script.proofs.solving.solve_by.Goals as goal

pub slice_bounds-offer_of-end : goal.slice_bounds-offer_of-end
slice_bounds-offer_of-end g c =
    let few = (facts_from_good (standing c.args.plan.now) c.args.plan.now.sound).few_links in
    sym (length-take-le (length c.links.result.now) c.solve.new.answer (omega (arith, few, ap length c.links.ensures.shown, c.solve.auto.answer)))

pub offer_of-requires : goal.offer_of-requires
offer_of-requires g c =
    let st = standing c.args.plan.now in
    let least = c.in_ok-solved.ensures.plan.least _ refl in
    rw c.links.ensures.shown (choice_selection st c.args.plan.now.sound _ least.choice)

laws : (g : given.Over) (limit : PortLayers) (measure : g.row.M.Denot) → Laws (aim_of (layers_breach limit) (g.M.Measure.totalled measure) (g.M.Measure.atmost measure))
laws g limit measure =
    let m = g.met.M.Measure in
    laws_of (layers_breach limit) (g.M.Measure.totalled measure) (g.M.Measure.atmost measure) (begins limit) (lowers limit) (m.either measure) (m.chained measure) (m.beginning measure) (m.lowered measure)

-- the tables are long enough
told : (g : given.Over) (limit : PortLayers) (measure : g.row.M.Denot) (st : Standing) → good st ≡ true → (allowance work_rows : ℕ) → work_rows ≡ 65 → (none : Row)
    → of_ending {T = g.row.M-Total.Denot} st (ending eight_gaps (aim_of (layers_breach limit) (g.M.Measure.totalled measure) (g.M.Measure.atmost measure)) st allowance work_rows (replicate 64 none)) ≡ solve_told (aim_of (layers_breach limit) (g.M.Measure.totalled measure) (g.M.Measure.atmost measure)) st allowance
told g limit measure st sound allowance work_rows long none =
    let few = (facts_from_good st sound).few_links in
    told_by_ending {T = g.row.M-Total.Denot} (aim_of (layers_breach limit) (g.M.Measure.totalled measure) (g.M.Measure.atmost measure)) st (least_of_all _ (laws g limit measure) _ (lawful_candidates st sound)) allowance work_rows (replicate 64 none)
    (le-leb (length st.links) 64 few) (lt-ltb (length st.links) work_rows (omega (arith, few, long)))

pub returns : goal.returns
returns g c =
    let st = standing c.args.plan.now in
    accepted_told {T = g.row.M-Total.Denot} st _ c.in_ok-solved.solved c.solve.new.answer _ c.offer_of.result c.in_ok-solved.ensures.ending (ap (λ links. take (length links) c.solve.new.answer) c.links.ensures.shown) c.offer_of.ensures
    ∙ told g c.args.limit.now c.args.measure.now st c.args.plan.now.sound c.args.allowance _ c.told-work c.default-answer.result

pub returns-in_err-solved : goal.returns-in_err-solved
returns-in_err-solved g c =
    let st = standing c.args.plan.now in
    let p = err_from_is_err_and c.from_residual.result c.from_residual.ensures.1 in
    rw (p.1, p.2)
    (ap (of_ending {T = g.row.M-Total.Denot} st) c.in_err-solved.ensures.ending
    ∙ told g c.args.limit.now c.args.measure.now st c.args.plan.now.sound c.args.allowance _ c.told-work c.default-answer.result)
