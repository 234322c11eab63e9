use Rattle.std.proofs.Common.{◌≡◌, suc, ◌-◌, ◌≤◌, true}
use Rattle.limits.specs.Lawful.{mtu_min, mtu_max}
use Rattle.plan.specs.Message.{meets}
use Rattle.plan.proofs.First.{NoneFrom}
use Rattle.plan.proofs.link_flows.LinkFlows.least_mtu.Given as goal

-- no MTU below low serves, and high serves unless it is past the largest
abbrev pub invariant-loop-low : goal.invariant-loop-low
invariant-loop-low l =
    (mtu_min ≤ l.low) × (l.low ≤ l.high) × (l.high ≤ suc mtu_max) × NoneFrom (meets l.self.flows.now l.gap) mtu_min l.low
    × (l.high ≤ mtu_max → meets l.self.flows.now l.gap l.high ≡ true)

abbrev pub decreases-loop-low : goal.decreases-loop-low
decreases-loop-low l = l.high - l.low
