use Rattle.std.proofs.Common.{◌≡◌, take}
use Rattle.limits.proofs.selection.breach_of_selection.Given as goal

abbrev pub invariant-loop-pair : goal.invariant-loop-pair
invariant-loop-pair g l = l.load ≡ g.L.Limit.loaded l.limit (take l.pair-index l.pairs)
