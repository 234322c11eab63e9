use Rattle.std.proofs.Common.{ℕ, ◌+◌, ◌/◌, arith}
use Rattle.std.proofs.lemmas.Bool.Decides.{nat_tests}
use Rattle.limits.specs.Lawful.{mtu_min, mtu_max}
use Rattle.plan.specs.Candidate.{least_within, least_mtu}
use Rattle.plan.specs.Message.{meets}
use Rattle.plan.proofs.Exact.{meets_rises}
use Rattle.plan.proofs.First.{first_is, same_first}
use Rattle.plan.proofs.link_flows.LinkFlows.least_mtu.Goals as goal

pub loop-low-preserved : goal.loop-low-preserved
loop-low-preserved c =
    let own = c.args.self.now in
    let mid = (c.loop-low.low + c.loop-low.high) / 2 in
    -- where the rule fails at an MTU, it fails at every smaller one
    let below = λ (k : ℕ). meets_rises own.flows.now own.range c.args.gap k mid in
    (omega arith, omega arith, omega arith, λ k l h. grind (arith, c.if-meets_rule.ensures, below k), c.loop-low.invariant.4)

pub returns : goal.returns
unfolding least_mtu
returns c =
    let test = meets c.args.self.now.flows.now c.args.gap in
    let i = c.loop-low.invariant in
    let first = same_first test mtu_min mtu_max c.loop-low.low (least_within mtu_min mtu_max test) (first_is test mtu_min mtu_max) (omega arith) (omega arith) i.3 (λ h. grind (arith, i.4 (omega arith))) in
    grind (arith, nat_tests)
