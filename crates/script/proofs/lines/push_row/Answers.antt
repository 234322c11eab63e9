use Rattle.std.proofs.Common.{◌≤◌, [], ◌∷◌, arith, ap, ◌∙◌, length, length-append}
use Rattle.script.specs.Lines.{line}
use Rattle.script.proofs.Lengths.{row_line_short}
use Rattle.script.proofs.lines.push_row.Goals as goal

pub push_line-requires : goal.push_line-requires
push_line-requires c =
    let short : length (line c.from.result (c.from-2.result ∷ c.from-3.result ∷ [])) ≤ 18 = rw (c.from.ensures, c.from-2.ensures, c.from-3.ensures) (row_line_short c.args.link c.args.gap c.args.mtu c.ranges.link.fits c.ranges.gap.fits c.ranges.mtu.fits) in
    omega (arith, c.requires, short)

pub returns-clause-short : goal.returns-clause-short
returns-clause-short c =
    let short : length (line c.from.result (c.from-2.result ∷ c.from-3.result ∷ [])) ≤ 18 = rw (c.from.ensures, c.from-2.ensures, c.from-3.ensures) (row_line_short c.args.link c.args.gap c.args.mtu c.ranges.link.fits c.ranges.gap.fits c.ranges.mtu.fits) in
    omega (arith, short, ap length c.push_line.ensures ∙ length-append c.args.lines.now.items (line c.from.result (c.from-2.result ∷ c.from-3.result ∷ [])))
