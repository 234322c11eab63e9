use Rattle.plan.specs.declared.call.Call.TheVariants.{Withdraw}
use Rattle.plan.proofs.Recorded.{still_sound, withdrawn}
use Rattle.plan.proofs.Plan.strike_flow.Goals as goal

pub invariant_of-self : goal.invariant_of-self
invariant_of-self c =
    let plan = c.args.self.now in
    let left = withdrawn plan c.args.name c.requires c.position-at.ensures.position c.remove.ensures.items in
    record { sound = still_sound plan (Withdraw c.args.name) (record { links = plan.tables.links; flows = c.remove.new.self }) c.requires (λ i. record { links = plan.tables.links.items; flows = left i }) }

pub returns : goal.returns
returns c =
    let left = withdrawn c.args.self.now c.args.name c.requires c.position-at.ensures.position c.remove.ensures.items in
    λ i. record { links = c.args.self.now.tables.links.items; flows = left i }
