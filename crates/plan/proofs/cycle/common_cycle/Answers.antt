use Rattle.std.proofs.Common.{arith}
use Rattle.std.proofs.lemmas.Grind.{common_steps}
use Rattle.plan.specs.Regular.{counts}
use Rattle.plan.proofs.Common.{kept_pos}
use Rattle.plan.proofs.Counted.{joined_short}
use Rattle.plan.proofs.Gcd.{lcm-one_left}
use Rattle.plan.proofs.cycle.common_cycle.Goals as goal

pub loop-flow-init : goal.loop-flow-init
loop-flow-init c = (omega arith, lcm-one_left _ (kept_pos (counts c.args.link c.args.but) c.args.flows.now c.requires.range))

pub multiple-joined-requires : goal.multiple-joined-requires
multiple-joined-requires c =
    let i = c.loop-flow.invariant in
    (joined_short c.args.link c.args.but c.args.flows.now c.loop-flow.flow-index c.loop-flow.joined c.requires i.0 i.1, grind (arith, common_steps))

pub returns-clause-range : goal.returns-clause-range
returns-clause-range c =
    let i = c.loop-flow.invariant in
    (i.0, joined_short c.args.link c.args.but c.args.flows.now c.loop-flow.flow-index c.loop-flow.joined c.requires i.0 i.1)
