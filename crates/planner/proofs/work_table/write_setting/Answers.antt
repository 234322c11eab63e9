use Rattle.std.proofs.Common.{◌≡◌, ◌<◌, arith}
use Rattle.std.proofs.lemmas.List.{length-take-le}
use Rattle.planner.proofs.Stack.{chosen_more, chosen_last}
use Rattle.planner.proofs.work_table.write_setting.Goals as goal

pub loop-link-preserved : goal.loop-link-preserved
loop-link-preserved g c =
    let rows = c.requires.rows in
    let within = c.loop-link-test.true in
    let deep : c.loop-link.link < c.args.depth = omega (arith, length-take-le c.args.depth c.args.work.now rows) in
    chosen_more c.args.work.now c.args.setting.now c.loop-link.setting c.args.depth c.loop-link.link c.row-item.result deep rows c.requires.places c.loop-link.invariant c.row-item.is

pub returns : goal.returns
returns g c =
    let rows = c.requires.rows in
    let past = c.loop-link-test.false in
    let up = c.loop-link.auto.link-end in
    let at : c.loop-link.link ≡ c.args.depth = omega (arith, length-take-le c.args.depth c.args.work.now rows) in
    chosen_last c.args.work.now c.args.setting.now c.loop-link.setting c.args.depth c.loop-link.link c.args.pair at rows c.requires.places c.loop-link.invariant
