use Rattle.std.proofs.Common.{◌+◌, subst, sym, ap, ◌∙◌, take}
use Rattle.limits.specs.Burst.{burst}
use Rattle.limits.specs.Selection.{Selection}
use Rattle.planner.specs.Setting.{pairs}
use Rattle.script.proofs.Rows.{pairs_up_to, selection_up_to, lawful_row}
use Rattle.script.proofs.solving.burst_of.Goals as goal

pub cost_of-requires : goal.cost_of-requires
cost_of-requires c = lawful_row c.args.setting.now c.loop-row.row-index _ c.loop-row-test.true c.requires.each

pub total_with-total-requires : goal.total_with-total-requires
total_with-total-requires c =
    let rows = c.args.setting.now in
    record {
      total = (take c.loop-row.row-index (pairs rows), c.loop-row.invariant, subst Selection (pairs_up_to rows c.loop-row.row-index _ c.loop-row-test.true) (selection_up_to (c.loop-row.row-index + 1) (pairs rows) c.requires));
      cost = c.cost_of.ensures;
    }

pub loop-row-preserved : goal.loop-row-preserved
loop-row-preserved c =
    let rows = c.args.setting.now in
    c.total_with-total.ensures (take c.loop-row.row-index (pairs rows)) c.loop-row.invariant (subst Selection (pairs_up_to rows c.loop-row.row-index _ c.loop-row-test.true) (selection_up_to (c.loop-row.row-index + 1) (pairs rows) c.requires)) ∙ sym (ap burst (pairs_up_to rows c.loop-row.row-index _ c.loop-row-test.true))
