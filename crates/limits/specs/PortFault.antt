-- The refusals of a port's figures: per case its number, its detail and its words.
use Rattle.std.specs.Prelude.{ℕ, List, codes, Result}
use Rattle.limits.specs.declared.port_fault.PortFault.{PortFault}
use Rattle.limits.specs.declared.port_fault.PortFault.TheVariants.{RateOutOfRange, ShareOutOfRange, FloorNotAGap}
use Rattle.limits.specs.Told.{told_by}

-- the number of the question that was answered no
abbrev pub number : PortFault → ℕ
number RateOutOfRange = 1
number ShareOutOfRange = 2
number FloorNotAGap = 3

-- what is told beside the number: nothing, which is 0
abbrev pub detail : PortFault → ℕ
detail RateOutOfRange = 0
detail ShareOutOfRange = 0
detail FloorNotAGap = 0

-- what the refusal says in words, as the codes of its characters
unfoldable pub text : PortFault → List ℕ
text RateOutOfRange = codes "the rate is not from 1 to 1000000 kbit/s"
text ShareOutOfRange = codes "the share is not from 1 kbit/s to the rate"
text FloorNotAGap = codes "the floor is not one of the gaps"

-- what a call told: 0 where it was accepted, else the number of its refusal
abbrev pub told : {X : Type 0} → Result X PortFault → ℕ
told r = told_by number r

-- the detail that it told
abbrev pub told_detail : {X : Type 0} → Result X PortFault → ℕ
told_detail r = told_by detail r
