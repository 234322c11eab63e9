use Rattle.script.specs.Run.{state}
use Rattle.script.proofs.Running.{Going, steps_left}
use Rattle.script.proofs.whole.write_lines.Given as goal

abbrev pub invariant-loop-length : goal.invariant-loop-length
invariant-loop-length g l = Going l.script (state l.run) (g.W.Write.contents l.fn.out) (g.W.Write.contents l.out)

abbrev pub decreases-loop-length : goal.decreases-loop-length
decreases-loop-length g l = steps_left (state l.run)
