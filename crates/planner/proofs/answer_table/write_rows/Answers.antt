use Rattle.std.proofs.Common.{arith}
use Rattle.planner.proofs.Rows.{row_written, rows_written}
use Rattle.planner.proofs.answer_table.write_rows.Goals as goal

pub loop-place-preserved : goal.loop-place-preserved
loop-place-preserved c = row_written c.args.links.now c.args.setting.now c.args.answer.now c.loop-place.answer c.loop-place.place _ c.loop-place-test.true c.requires.pairs c.requires.rows c.loop-place.invariant

pub returns : goal.returns
returns c = rows_written c.args.links.now c.args.setting.now c.args.answer.now c.loop-place.answer c.loop-place.place (omega (arith, c.loop-place-test.false, c.loop-place.auto.place-end)) c.requires.pairs c.loop-place.invariant
