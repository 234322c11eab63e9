use Rattle.std.proofs.Common.{rules, ◌<◌, length, arith}
use borrow.Author.Rules.{scaled_Fits}
use Rattle.planner.proofs.Fits.{one_fits}
use Rattle.planner.proofs.Present.{lawful_row}
use Rattle.planner.proofs.work_table.lay_out.Goals as goal

pub offset_bounds-work-link : goal.offset_bounds-work-link
offset_bounds-work-link g c =
    let rows = c.requires.rows in
    let link = c.loop-link-test.true in
    let within : c.loop-link.link < length c.args.work.now = omega arith in
    scaled_Fits c.loop-link.link (length c.args.work.now) _ within (search rules)

pub lay_out_row-requires : goal.lay_out_row-requires
lay_out_row-requires g c =
    let rows = c.requires.rows in
    let link = c.loop-link-test.true in
    let some : 0 < length c.args.work.now = omega arith in
    (one_fits (length c.args.work.now) _ some (search rules), lawful_row c.args.table.now c.loop-link.link c.loop-link-test.true c.requires.lawful)
