use Rattle.std.proofs.Common.{[], ◌∷◌, arith, ap, ◌∙◌, length, length-append}
use Rattle.script.specs.Lines.{line}
use Rattle.script.proofs.Lengths.{figures_short}
use Rattle.script.proofs.lines.push_figures.Goals as goal

pub returns-clause-short : goal.returns-clause-short
returns-clause-short c =
    let first = line c.args.command (0 ∷ c.args.units ∷ c.args.bytes ∷ c.args.visits ∷ []) in
    omega (arith, ap length c.requires, ap length c.push_line.ensures ∙ length-append c.args.lines.now.items first, figures_short c.args.command c.args.units c.args.bytes c.args.visits c.ranges.command.fits c.ranges.units.fits c.ranges.bytes.fits c.ranges.visits.fits)
