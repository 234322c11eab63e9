use Rattle.std.proofs.Common.{ltb, sym, ap, ◌∙◌, subst, rules}
use Rattle.std.specs.List.Sorted.{IsPartitionedBy}
use Rattle.std.proofs.lemmas.List.Sorted.{IsPartitionPoint-from_clause}
use Rattle.plan.specs.Held.{standing}
use Rattle.plan.specs.Position.{position_of}
use Rattle.plan.proofs.Good.{facts_from_good}
use Rattle.plan.proofs.Position.{below_first, ends_at_position}
use Rattle.plan.proofs.Plan.position.Goals as goal

pub returns-clause-position : goal.returns-clause-position
returns-clause-position c =
    let st = standing c.args.self.now in
    let n = c.args.name in
    let parted = subst (IsPartitionedBy (λ f. ltb f.name n)) (sym c.flows.ensures.shown) (below_first n st.flows (facts_from_good st c.args.self.now.sound).up) in
    let point = IsPartitionPoint-from_clause (λ f. ltb f.name n) _ _ c.partition_point.ensures.partitioned parted (λ a r q k. search rules) in
    ends_at_position n _ _ point c.partition_point.ensures.bound ∙ ap (position_of n) c.flows.ensures.shown
