use Rattle.std.proofs.Common.{sym, ◌∙◌}
use Rattle.std.proofs.lemmas.List.{append-nil}
use Rattle.script.proofs.lines.push_offer.Goals as goal

pub loop-row-init : goal.loop-row-init
loop-row-init c = record { lines = c.push_figures.ensures.line ∙ sym (append-nil _); short = c.push_figures.ensures.short }
