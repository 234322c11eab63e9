use Rattle.std.proofs.Common.{◌≡◌, take}
use Rattle.planner.specs.Setting.{pairs}
use Rattle.planner.proofs.check.pairs_of.Given as goal

abbrev pub invariant-loop-row : goal.invariant-loop-row
invariant-loop-row l = l.pairs.items ≡ pairs (take l.row-index l.rows)
