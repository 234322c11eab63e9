use Rattle.std.proofs.Common.{◌≡◌, map, take}
use Rattle.planner.specs.Table.{candidates_of}
use Rattle.planner.specs.Work.{held, noted, figures_of}
use Rattle.planner.proofs.work_table.lay_out.Given as goal

abbrev pub invariant-loop-link : goal.invariant-loop-link
invariant-loop-link g l =
    (held l.link l.work ≡ candidates_of (take l.link l.table))
    × (noted l.link l.work ≡ map (map (figures_of (g.L.Limit.weighed l.limit) (g.M.Measure.costed l.measure))) (candidates_of (take l.link l.table)))
