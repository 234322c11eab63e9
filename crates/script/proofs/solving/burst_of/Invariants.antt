use Rattle.std.proofs.Common.{◌≡◌, take}
use Rattle.limits.specs.Burst.{burst}
use Rattle.planner.specs.Setting.{pairs}
use Rattle.script.proofs.solving.burst_of.Given as goal

abbrev pub invariant-loop-row : goal.invariant-loop-row
invariant-loop-row l = l.total ≡ burst (take l.row-index (pairs l.setting))
