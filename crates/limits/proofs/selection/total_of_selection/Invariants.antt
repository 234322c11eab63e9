use Rattle.std.proofs.Common.{◌≡◌, take}
use Rattle.limits.proofs.selection.total_of_selection.Given as goal

abbrev pub invariant-loop-pair : goal.invariant-loop-pair
invariant-loop-pair g l = l.total ≡ g.M.Measure.totalled l.measure (take l.pair-index l.pairs)
