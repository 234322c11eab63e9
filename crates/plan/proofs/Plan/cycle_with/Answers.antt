use Rattle.std.proofs.Common.{◌≡◌, sym, ap, ◌∙◌, arith}
use Rattle.plan.specs.Cycle.{lcm, common}
use Rattle.plan.specs.Edited.{without}
use Rattle.plan.specs.Held.{standing}
use Rattle.plan.specs.Standing.{flows_of}
use Rattle.plan.proofs.Counted.{counted_without}
use Rattle.plan.proofs.Joined.{joined_added, joined_amended}
use Rattle.plan.proofs.Plan.cycle_with.Goals as goal

-- what the code joins
joined : (c : goal.After-multiple) → c.multiple.result ≡ lcm c.args.flow.cycle (common (without c.args.flow.name (flows_of (standing c.args.self.now) c.args.flow.link)))
joined c =
    let link = c.args.flow.link in
    let name = c.args.flow.name in
    let others = c.cycle_of-others.ensures.value ∙ ap common (counted_without link name (standing c.args.self.now).flows) in
    grind (arith, others)

pub returns-clause-added : goal.returns-clause-added
returns-clause-added c = λ new. joined c ∙ sym (joined_added (standing c.args.self.now) c.args.self.now.sound c.args.flow c.requires.0 new)

pub returns-clause-amended : goal.returns-clause-amended
returns-clause-amended c = λ stands own. joined c ∙ sym (joined_amended (standing c.args.self.now) c.args.self.now.sound c.args.flow c.requires.0 stands own)
