use Rattle.planner.specs.Named.{aim_of}
use Rattle.planner.specs.Work.{held, figures_of}
use Rattle.planner.proofs.Stack.{stack, turns}
use Rattle.planner.proofs.Walk.{Walks}
use Rattle.planner.proofs.search.walk.Given as goal

abbrev pub invariant-loop-pair : goal.invariant-loop-pair
invariant-loop-pair g l =
    let m = g.M.Measure in
    Walks (g.L.Limit.loaded l.limit) (figures_of (g.L.Limit.weighed l.limit) (m.costed l.measure)) (aim_of (g.L.Limit.breach l.limit) (m.totalled l.measure) (m.atmost l.measure)) l.links (held l.links l.fn.work) l.allowance l.fn.setting l.here l.depth l.work l.best l.setting l.visits

abbrev pub decreases-loop-pair : goal.decreases-loop-pair
decreases-loop-pair g l = turns (held l.links l.fn.work) l.here (stack l.work l.depth)
