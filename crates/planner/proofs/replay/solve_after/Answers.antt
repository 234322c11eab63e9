use Rattle.std.proofs.Common.{rules, length, map, sym}
use Rattle.limits.specs.Gaps.{eight_gaps}
use Rattle.plan.specs.Held.{standing}
use Rattle.plan.specs.Standing.{nothing}
use Rattle.planner.specs.declared.call.SolveCall.{SolveCall}
use Rattle.planner.specs.Calls.{State, event, aim_by}
use Rattle.planner.specs.Named.{Aim}
use Rattle.planner.proofs.Replayed.{held_further, held_after_all, ledger_after_all, ends_after_all}
use Rattle.planner.proofs.replay.solve_after.Given as given
use Rattle.planner.proofs.replay.solve_after.Goals as goal

abbrev aim : (g : given.Over) → SolveCall g.row.L.Denot g.row.M.Denot → Aim g.row.M-Total.Denot
aim g = aim_by g.L.Limit.breach g.M.Measure.totalled g.M.Measure.atmost

pub loop-call-preserved : goal.loop-call-preserved
loop-call-preserved g c =
    held_further eight_gaps (aim g) (length c.args.work.now) c.args.calls.now _ c.loop-call.call-index (length c.loop-call.work) c.call-item.result _ _ c.loop-call-test.true (search rules) c.loop-call.auto.work c.loop-call.invariant c.perform.ensures

pub returns-clause-ending : goal.returns-clause-ending
returns-clause-ending g c =
    let start : State = record { standing = nothing; rows = c.args.answer.now } in
    let held = held_after_all eight_gaps (aim g) (length c.args.work.now) c.args.calls.now start c.loop-call.call-index _ c.loop-call-test.false c.loop-call.invariant in
    ends_after_all eight_gaps (aim g) (length c.args.work.now) c.args.calls.now start (aim g c.args.last.now) c.args.last.now.allowance (length c.loop-call.work) _ (standing c.loop-call.plan) c.loop-call.answer held c.loop-call.auto.work c.solve.ensures.ending

pub returns-clause-promise : goal.returns-clause-promise
returns-clause-promise g c =
    let start : State = record { standing = nothing; rows = c.args.answer.now } in
    let held = held_after_all eight_gaps (aim g) (length c.args.work.now) c.args.calls.now start c.loop-call.call-index _ c.loop-call-test.false c.loop-call.invariant in
    rw (sym c.loop-call.auto.answer) (rw (sym c.loop-call.auto.work) (c.solve.ensures.promise (map event c.args.calls.now) (ledger_after_all eight_gaps (aim g) (length c.args.work.now) c.args.calls.now start (standing c.loop-call.plan) c.loop-call.answer held)))
