use Rattle.std.proofs.Common.{rules}
use Rattle.plan.specs.declared.call.Call.TheVariants.{AddLink}
use Rattle.plan.proofs.Recorded.{still_sound}
use Rattle.plan.proofs.Plan.enter_link.Goals as goal

pub invariant_of-self : goal.invariant_of-self
invariant_of-self c = record {
  sound = still_sound c.args.self.now (AddLink c.args.name) (record { links = c.push.new.self; flows = c.args.self.now.tables.flows }) c.requires (search rules);
}
