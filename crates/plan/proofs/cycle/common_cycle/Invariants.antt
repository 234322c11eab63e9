use Rattle.std.proofs.Common.{◌≡◌, ◌<◌, drop}
use Rattle.plan.specs.Cycle.{lcm, common}
use Rattle.plan.specs.Regular.{counted}
use Rattle.plan.proofs.cycle.common_cycle.Given as goal

abbrev pub invariant-loop-flow : goal.invariant-loop-flow
invariant-loop-flow l = (0 < l.joined) × (lcm l.joined (common (counted l.link l.but (drop l.flow-index l.flows))) ≡ common (counted l.link l.but l.flows))
