-- What the definitions tell of the worked ports, by computing it.
use Rattle.std.proofs.Common.{refl}
use Rattle.limits.specs.Frame.{frame_bytes, units}
use Rattle.limits.specs.Sums.{burst_bytes, reserve}
use Rattle.plan.specs.Candidate.{first_from, least_mtu}
use Rattle.plan.specs.Cycle.{gcd_in, gcd, lcm}
use Rattle.plan.specs.Message.{frames, meets}
use Rattle.worked.specs.WorkedPorts.{worked_ports, ToldAsWorked}

pub told_as_worked : ToldAsWorked worked_ports
unfolding frame_bytes units burst_bytes reserve first_from least_mtu gcd_in gcd lcm frames meets
told_as_worked = refl
