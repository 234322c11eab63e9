use Rattle.std.proofs.Common.{◌≡◌, fold, length, take}
use Rattle.limits.specs.Gaps.{eight_gaps}
use Rattle.plan.specs.Held.{standing}
use Rattle.plan.specs.Standing.{nothing}
use Rattle.planner.specs.Calls.{aim_by, after_call}
use Rattle.planner.proofs.replay.solve_after.Given as goal

abbrev pub invariant-loop-call : goal.invariant-loop-call
invariant-loop-call g l = record { standing = standing l.plan; rows = l.answer } ≡ fold (after_call eight_gaps (aim_by g.L.Limit.breach g.M.Measure.totalled g.M.Measure.atmost) (length l.fn.work)) (record { standing = nothing; rows = l.fn.answer }) (take l.call-index l.calls)
