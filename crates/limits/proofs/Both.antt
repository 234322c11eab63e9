-- A layer admits what its rule and the limit below both admit; so a port admits what its three rules admit.
use Rattle.std.proofs.Common.{◌≡◌, ◌&&◌, eqb, List, arith}
use Rattle.std.proofs.lemmas.Bool.Decides.{nat_tests}
use Rattle.limits.specs.declared.pair.Pair.{Pair}
use Rattle.limits.specs.declared.port.Port.{Port}
use Rattle.limits.specs.Port.{port_breach}
use Rattle.limits.specs.Rules.{above_floor, within_share, within_jitter}

pub admits_by_rules : (port : Port) (s : List Pair) → eqb (port_breach port s) 0 ≡ (above_floor port.floor s && (within_share port.share s && within_jitter port.rate s))
admits_by_rules port s = grind (arith, nat_tests)
