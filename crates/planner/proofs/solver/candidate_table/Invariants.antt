use Rattle.std.proofs.Common.{◌≡◌, take, map}
use Rattle.limits.specs.Gaps.{eight_gaps}
use Rattle.plan.specs.Candidate.{candidates}
use Rattle.plan.specs.Held.{standing}
use Rattle.plan.specs.Standing.{flows_of}
use Rattle.planner.proofs.solver.candidate_table.Given as goal

abbrev pub invariant-loop-link : goal.invariant-loop-link
invariant-loop-link l = l.table.items ≡ map (λ link. candidates eight_gaps (flows_of (standing l.plan) link)) (take l.link-index (standing l.plan).links)
