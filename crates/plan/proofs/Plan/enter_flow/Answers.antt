use Rattle.std.proofs.Common.{arith}
use Rattle.plan.specs.declared.call.Call.TheVariants.{AddFlow}
use Rattle.plan.proofs.Inserted.{insert_at_position}
use Rattle.plan.proofs.Recorded.{still_sound}
use Rattle.plan.proofs.Plan.enter_flow.Goals as goal

pub invariant_of-self : goal.invariant_of-self
invariant_of-self c =
    let f = c.args.flow in
    record {
      sound = still_sound c.args.self.now (AddFlow f.link f.name f.payload f.cycle) (record { links = c.args.self.now.tables.links; flows = c.insert.new.self }) c.requires (grind (arith, insert_at_position));
    }
