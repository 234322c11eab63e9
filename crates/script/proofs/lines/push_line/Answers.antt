use Rattle.std.proofs.Common.{arith}
use Rattle.script.proofs.Lengths.{next_fits}
use Rattle.script.proofs.lines.push_line.Goals as goal

pub push-requires : goal.push-requires
push-requires c =
    let fits = next_fits c.args.lines.now.items c.loop-number.lines.items c.args.first c.args.others.now c.loop-number.number-index c.loop-number-test.true c.requires c.loop-number.invariant in
    (omega arith, omega (arith, fits))

pub push_number-requires-in-loop-number : goal.push_number-requires-in-loop-number
push_number-requires-in-loop-number c =
    let fits = next_fits c.args.lines.now.items c.loop-number.lines.items c.args.first c.args.others.now c.loop-number.number-index c.loop-number-test.true c.requires c.loop-number.invariant in
    omega (arith, fits, c.push.ensures.len)
