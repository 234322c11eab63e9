use Rattle.std.proofs.Common.{◌≡◌, get_or, set, arith}
use Rattle.arrayvec.specs.ArrayVec.{with_items}
use Rattle.plan.specs.declared.call.Call.TheVariants.{Amend}
use Rattle.plan.specs.Edited.{flow_with, amended}
use Rattle.plan.proofs.Empty.{nil}
use Rattle.plan.proofs.Recorded.{still_sound, amended_there}
use Rattle.plan.proofs.Plan.change_flow.Goals as goal

pub invariant_of-self : goal.invariant_of-self
invariant_of-self c =
    let tables = c.args.self.now.tables in
    let at = c.position-at.result in
    let seen = c.deref_mut.result.now in
    let now = with_items tables.flows (set seen at (flow_with (get_or seen at nil).link (get_or seen at nil).name c.args.payload c.args.cycle)) in
    let flows : now.items ≡ amended c.args.name c.args.payload c.args.cycle tables.flows.items = grind (arith, amended_there) in
    record { sound = still_sound c.args.self.now (Amend c.args.name c.args.payload c.args.cycle) (record { links = tables.links; flows = now }) c.requires (λ i. record { links = tables.links.items; flows = flows i }) }
