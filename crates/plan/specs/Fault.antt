-- The refusals of a plan: per case its number, its detail and its words.
use Rattle.std.specs.Prelude.{ℕ, List, codes, Result}
use Rattle.limits.specs.Told.{told_by}
use Rattle.plan.specs.declared.fault.PlanFault.{PlanFault}
use Rattle.plan.specs.declared.fault.PlanFault.TheVariants.{TooManyLinks, LinkTaken, UnknownLink, FlowTaken, TooManyFlows, PayloadOutOfRange, CycleOutOfRange, CommonCycleTooLong, UnknownFlow, LinkWithoutFlow}

-- the number of the question that was answered no
abbrev pub number : PlanFault → ℕ
number TooManyLinks = 4
number LinkTaken = 5
number UnknownLink = 6
number FlowTaken = 7
number TooManyFlows = 8
number PayloadOutOfRange = 9
number CycleOutOfRange = 10
number CommonCycleTooLong = 11
number UnknownFlow = 12
number LinkWithoutFlow = 13

-- what is told beside the number: nothing so far, which is 0
abbrev pub detail : PlanFault → ℕ
detail TooManyLinks = 0
detail LinkTaken = 0
detail UnknownLink = 0
detail FlowTaken = 0
detail TooManyFlows = 0
detail PayloadOutOfRange = 0
detail CycleOutOfRange = 0
detail CommonCycleTooLong = 0
detail UnknownFlow = 0
detail LinkWithoutFlow = 0

-- what the refusal says in words, as the codes of its characters
unfoldable pub text : PlanFault → List ℕ
text TooManyLinks = codes "64 links stand already"
text LinkTaken = codes "a link of that name stands already"
text UnknownLink = codes "no link of that name stands"
text FlowTaken = codes "a flow of that name stands already"
text TooManyFlows = codes "256 flows stand already"
text PayloadOutOfRange = codes "the payload is not from 1 to 8192 bytes"
text CycleOutOfRange = codes "the cycle is not from 1 to 10000 ms"
text CommonCycleTooLong = codes "the common cycle of the link would exceed 1000000 ms"
text UnknownFlow = codes "no flow of that name stands"
text LinkWithoutFlow = codes "the link has no flow"

-- what a call told: 0 where it was accepted, else the number of its refusal
abbrev pub told : {X : Type 0} → Result X PlanFault → ℕ
told r = told_by number r

-- the detail that it told
abbrev pub told_detail : {X : Type 0} → Result X PlanFault → ℕ
told_detail r = told_by detail r
