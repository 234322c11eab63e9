use Rattle.std.proofs.Common.{◌≡◌, ◌≤◌, length, take}
use Rattle.planner.specs.Table.{present}
use Rattle.planner.proofs.work_table.present.Given as goal

abbrev pub invariant-loop-place : goal.invariant-loop-place
invariant-loop-place l = (l.pairs.items ≡ present (take l.place-index l.places)) × (length l.pairs.items ≤ l.place-index)
