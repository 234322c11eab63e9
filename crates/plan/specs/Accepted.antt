-- The accepted calls of a list, and what they add and give.
use Rattle.std.specs.Prelude.{ℕ, Bool, false, if◌then◌else◌, List, [], ◌∷◌, ◌++◌, Some, None, Option, ◌==◌}
use Rattle.std.specs.Option.{option_map, option_or, option_flatten}
use Rattle.plan.specs.declared.call.Call.{Call}
use Rattle.plan.specs.declared.call.Call.TheVariants.{AddLink, AddFlow, Amend, Withdraw}
use Rattle.plan.specs.Ledger.{answer, after}
use Rattle.plan.specs.Standing.{Standing, nothing}

-- the call alone where it is accepted, else none
abbrev pub if_accepted : Standing → Call → List Call
if_accepted st call = if answer st call == 0 then call ∷ [] else []

-- the calls that are accepted, in their order, from a standing on
abbrev pub accepted_from : Standing → List Call → List Call
accepted_from st [] = []
accepted_from st (call ∷ calls) = if_accepted st call ++ accepted_from (after st call) calls

-- the calls of a list that are accepted
abbrev pub accepted : List Call → List Call
accepted calls = accepted_from nothing calls

-- the link that a call adds, if it adds one
abbrev pub link_added : Call → List ℕ
link_added (AddLink name) = name ∷ []
link_added (AddFlow link flow payload cycle) = []
link_added (Amend flow payload cycle) = []
link_added (Withdraw flow) = []

-- the links that calls add, in their order
abbrev pub links_added : List Call → List ℕ
links_added [] = []
links_added (call ∷ calls) = link_added call ++ links_added calls

-- the call adds the flow of that name
abbrev pub adds : ℕ → Call → Bool
adds name (AddLink link) = false
adds name (AddFlow link flow payload cycle) = flow == name
adds name (Amend flow payload cycle) = false
adds name (Withdraw flow) = false

-- the call names that flow, to add, amend or withdraw it
abbrev pub concerns : ℕ → Call → Bool
concerns name (AddLink link) = false
concerns name (AddFlow link flow payload cycle) = flow == name
concerns name (Amend flow payload cycle) = flow == name
concerns name (Withdraw flow) = flow == name

-- the link that a call puts a flow under
abbrev pub link_given : Call → Option ℕ
link_given (AddLink link) = None
link_given (AddFlow link flow payload cycle) = Some link
link_given (Amend flow payload cycle) = None
link_given (Withdraw flow) = None

-- the payload and the cycle that a call gives a flow
abbrev pub figures_given : Call → Option (ℕ × ℕ)
figures_given (AddLink link) = None
figures_given (AddFlow link flow payload cycle) = Some (payload, cycle)
figures_given (Amend flow payload cycle) = Some (payload, cycle)
figures_given (Withdraw flow) = None

-- the last call that passes the test
abbrev pub last_that : (Call → Bool) → List Call → Option Call
last_that test [] = None
last_that test (call ∷ calls) = option_or (last_that test calls) (if test call then Some call else None)

-- what the last call that passes the test gives
abbrev pub last_given : {X : Type 0} → (Call → Option X) → (Call → Bool) → List Call → Option X
last_given given test calls = option_flatten (option_map given (last_that test calls))
