use Rattle.std.proofs.Common.{length, subst}
use Rattle.limits.specs.Gaps.{eight_gaps}
use Rattle.plan.specs.Held.{standing}
use Rattle.planner.specs.Ending.{ended}
use Rattle.planner.specs.Named.{aim_of}
use Rattle.planner.specs.Promise.{Promised}
use Rattle.planner.proofs.Choices.{lawful_candidates}
use Rattle.planner.proofs.Exchanged.{least_of_all}
use Rattle.planner.proofs.Laws.{Laws, laws_of}
use Rattle.planner.proofs.Promised.{promise_kept}
use Rattle.planner.proofs.solver.solve.Given as given
use Rattle.planner.proofs.solver.solve.Goals as goal

laws : (g : given.Over) (limit : g.row.L.Denot) (measure : g.row.M.Denot) → Laws (aim_of (g.L.Limit.breach limit) (g.M.Measure.totalled measure) (g.M.Measure.atmost measure))
laws g limit measure =
    let m = g.met.M.Measure in
    let l = g.met.L.Limit in
    laws_of (g.L.Limit.breach limit) (g.M.Measure.totalled measure) (g.M.Measure.atmost measure) (l.beginning limit) (l.lowered limit) (m.either measure) (m.chained measure) (m.beginning measure) (m.lowered measure)

pub returns-clause-plan : goal.returns-clause-plan
returns-clause-plan g c =
    let st = standing c.args.plan.now in
    let lawful = laws g c.args.limit.now c.args.measure.now in
    promise_kept {T = g.row.M-Total.Denot} (aim_of (g.L.Limit.breach c.args.limit.now) (g.M.Measure.totalled c.args.measure.now) (g.M.Measure.atmost c.args.measure.now)) st (least_of_all _ lawful _ (lawful_candidates st c.args.plan.now.sound)) c.args.allowance _ _ _ c.search_port.ensures

pub returns-clause-promise : goal.returns-clause-promise
returns-clause-promise g c events led =
    subst (λ st. Promised {T = g.row.M-Total.Denot} eight_gaps (aim_of (g.L.Limit.breach c.args.limit.now) (g.M.Measure.totalled c.args.measure.now) (g.M.Measure.atmost c.args.measure.now)) st c.args.allowance (length c.args.answer.now) (length c.args.work.now) (ended c.search_port.result c.search_port.new.answer)) led (returns-clause-plan g c)
