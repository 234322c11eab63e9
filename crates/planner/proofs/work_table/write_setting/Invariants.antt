use Rattle.std.proofs.Common.{◌≡◌, ◌++◌, map, take, drop}
use Rattle.planner.proofs.work_table.write_setting.Given as goal

abbrev pub invariant-loop-link : goal.invariant-loop-link
invariant-loop-link g l = l.setting ≡ map (λ row. row.pair) (take l.link l.work) ++ drop l.link l.fn.setting
