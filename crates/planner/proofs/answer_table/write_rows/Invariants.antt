use Rattle.std.proofs.Common.{◌≡◌, ◌++◌, take, drop}
use Rattle.planner.specs.Ending.{rows_of}
use Rattle.planner.proofs.answer_table.write_rows.Given as goal

abbrev pub invariant-loop-place : goal.invariant-loop-place
invariant-loop-place l = l.answer ≡ take l.place (rows_of l.links l.setting) ++ drop l.place l.fn.answer
