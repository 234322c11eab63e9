use Rattle.limits.specs.Gaps.{eight_gaps}
use Rattle.plan.specs.Held.{standing}
use Rattle.plan.specs.Standing.{flows_of}
use Rattle.plan.proofs.Exact.{exact}
use Rattle.plan.proofs.Good.{own_regular}
use Rattle.plan.proofs.Least.{candidates_least}
use Rattle.plan.proofs.Plan.candidates.Goals as goal

pub returns-clause-exact : goal.returns-clause-exact
returns-clause-exact c = exact (flows_of (standing c.args.self.now) c.args.link) (own_regular (standing c.args.self.now) c.args.link c.args.self.now.sound).range

pub returns-clause-least : goal.returns-clause-least
returns-clause-least c = candidates_least eight_gaps (flows_of (standing c.args.self.now) c.args.link) c.candidates.result cc
