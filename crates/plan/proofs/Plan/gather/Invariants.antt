use Rattle.std.proofs.Common.{◌≡◌, take}
use Rattle.plan.specs.Standing.{of_link}
use Rattle.plan.proofs.Plan.gather.Given as goal

abbrev pub invariant-loop-flow : goal.invariant-loop-flow
invariant-loop-flow l = l.own.items ≡ of_link l.link (take l.flow-index (l.self.tables.flows.items))
