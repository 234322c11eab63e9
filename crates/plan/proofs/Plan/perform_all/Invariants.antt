use Rattle.std.proofs.Common.{◌≡◌, take, fold}
use Rattle.plan.specs.Held.{standing}
use Rattle.plan.specs.Ledger.{after}
use Rattle.plan.proofs.Plan.perform_all.Given as goal

abbrev pub invariant-loop-call : goal.invariant-loop-call
invariant-loop-call l = standing l.self ≡ fold after (standing l.initial.self) (take l.call-index l.calls)
