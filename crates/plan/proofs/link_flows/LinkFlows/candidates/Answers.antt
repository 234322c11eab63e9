use Rattle.std.proofs.Common.{None, arith}
use Rattle.std.proofs.lemmas.List.{ext_get_or, get_or-map}
use Rattle.limits.specs.Gaps.{eight_gaps}
use Rattle.plan.specs.Candidate.{candidate, candidates}
use Rattle.plan.proofs.link_flows.LinkFlows.candidates.Goals as goal

pub returns : goal.returns
returns c =
    let fs = c.args.self.now.flows.now in
    let made = c.map.ensures.items in
    ext_get_or None c.map.result (candidates eight_gaps fs) made.long (λ i lt. grind (arith, made.at i 0 None (omega (arith, made.long)), get_or-map (candidate fs) eight_gaps i 0 None (omega (arith, made.long))))
