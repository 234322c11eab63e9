use Rattle.std.proofs.Common.{◌≡◌, sym, subst, ◌∙◌, ap, arith}
use Rattle.std.proofs.lemmas.Grind.{common_steps}
use Rattle.plan.specs.Held.{standing}
use Rattle.plan.specs.Regular.{Regular}
use Rattle.plan.specs.Standing.{is_of, of_link, flows_of}
use Rattle.plan.proofs.Good.{own_regular}
use Rattle.plan.proofs.Removed.{filter_again}
use Rattle.plan.proofs.Plan.gather.Goals as goal

-- all that the loop gathers
gathered : (c : goal.After-loop-flow) → c.loop-flow.own.items ≡ flows_of (standing c.args.self.now) c.args.link
gathered c = grind (arith, common_steps)

pub returns-clause-regular : goal.returns-clause-regular
returns-clause-regular c = subst (Regular c.args.link) (sym (gathered c)) (own_regular (standing c.args.self.now) c.args.link c.args.self.now.sound)

pub returns-clause-gathered : goal.returns-clause-gathered
returns-clause-gathered c = gathered c

pub returns-clause-own : goal.returns-clause-own
returns-clause-own c = ap (of_link c.args.link) (gathered c) ∙ filter_again (is_of c.args.link) (standing c.args.self.now).flows ∙ sym (gathered c)
