use Rattle.std.proofs.Common.{◌≡◌, map, take}
use Rattle.planner.specs.Work.{figures_of}
use Rattle.planner.proofs.work_table.lay_out_row.Given as goal

abbrev pub invariant-loop-place : goal.invariant-loop-place
invariant-loop-place g l =
    take l.place l.row.figures ≡ map (figures_of (g.L.Limit.weighed l.limit) (g.M.Measure.costed l.measure)) (take l.place l.pair-items)
