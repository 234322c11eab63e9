-- A burst that is smaller in both figures is no more.
use Rattle.std.specs.Prelude.{◌≡◌, ◌≤◌, true}
use Rattle.std.proofs.Common.{arith}
use Rattle.std.proofs.lemmas.Bool.Decides.{nat_tests}
use Rattle.limits.specs.declared.burst_total.BurstTotal.{BurstTotal}
use Rattle.limits.specs.Burst.{burst_at_most}

pub smaller_burst : (x y : BurstTotal) → x.bytes ≤ y.bytes → x.units ≤ y.units → burst_at_most x y ≡ true
smaller_burst x y bytes units = grind (arith, nat_tests)
