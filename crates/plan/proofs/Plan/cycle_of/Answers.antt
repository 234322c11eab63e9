use Rattle.std.proofs.Common.{sym, subst}
use Rattle.plan.specs.Held.{standing}
use Rattle.plan.specs.Regular.{Regular}
use Rattle.plan.proofs.Good.{regular}
use Rattle.plan.proofs.Plan.cycle_of.Goals as goal

pub common_cycle-requires : goal.common_cycle-requires
common_cycle-requires c = subst (Regular c.args.link) (sym c.flows.ensures.shown) (regular (standing c.args.self.now) c.args.link c.args.self.now.sound)
