use Rattle.std.proofs.Common.{◌≡◌, ◌+◌, ◌*◌, ◌≤◌, drop}
use Rattle.plan.specs.Bounds.{max_payload, max_common_cycle}
use Rattle.plan.specs.Message.{sent}
use Rattle.plan.proofs.link_flows.LinkFlows.meets_rule.Given as goal

abbrev pub invariant-loop-flow : goal.invariant-loop-flow
invariant-loop-flow l =
    (l.frames + sent l.self.cycle l.mtu (drop l.flow-index l.self.flows.now) ≡ sent l.self.cycle l.mtu l.self.flows.now)
    × (l.frames ≤ l.flow-index * (max_payload * max_common_cycle))
