-- The ledger: which questions a call is asked of what stands, what stands afterwards, and what stands after a list of calls.
-- A call is the code's `Call` (src/call.rt) with its arguments: AddLink name, AddFlow link flow payload cycle,
-- Amend flow payload cycle, Withdraw flow.
use Rattle.std.specs.Prelude.{ℕ, if◌then◌else◌, not, List, [], ◌∷◌, ◌++◌, length, fold, ◌==◌, nat_lt}
use Rattle.limits.specs.Questions.{Questions, first_no}
use Rattle.limits.specs.Range.{within}
use Rattle.plan.specs.declared.call.Call.{Call}
use Rattle.plan.specs.declared.call.Call.TheVariants.{AddLink, AddFlow, Amend, Withdraw}
use Rattle.plan.specs.Bounds.{max_links, max_flows, max_payload, max_cycle}
use Rattle.plan.specs.Edited.{flow_with, insert, without, amended}
use Rattle.plan.specs.Standing.{Standing, nothing, stands, named, link_of_flow, short_cycle}

-- what stands once a call is accepted: a new link is the last, a new flow has its place by name, an amended one keeps its
-- name, link and place, and a withdrawn one is gone
abbrev pub effect : Standing → Call → Standing
effect st (AddLink name) = record { links = st.links ++ name ∷ []; flows = st.flows }
effect st (AddFlow link flow payload cycle) =
    record { links = st.links; flows = insert (flow_with link flow payload cycle) st.flows }
effect st (Amend flow payload cycle) =
    record { links = st.links; flows = amended flow payload cycle st.flows }
effect st (Withdraw flow) = record { links = st.links; flows = without flow st.flows }

-- the questions that a call is asked, in their order
abbrev pub questions : Standing → Call → Questions
questions st (AddLink name) =
    (4, nat_lt (length st.links) max_links)
    ∷ (5, not (stands st name))
    ∷ []
questions st (AddFlow link flow payload cycle) =
    (6, stands st link)
    ∷ (7, not (named st.flows flow))
    ∷ (8, nat_lt (length st.flows) max_flows)
    ∷ (9, within 1 max_payload payload)
    ∷ (10, within 1 max_cycle cycle)
    ∷ (11, short_cycle (effect st (AddFlow link flow payload cycle)) link)
    ∷ []
questions st (Amend flow payload cycle) =
    (12, named st.flows flow)
    ∷ (9, within 1 max_payload payload)
    ∷ (10, within 1 max_cycle cycle)
    ∷ (11, short_cycle (effect st (Amend flow payload cycle)) (link_of_flow flow st.flows))
    ∷ []
questions st (Withdraw flow) = (12, named st.flows flow) ∷ []

-- 0 where a call is accepted, else the number of its refusal
abbrev pub answer : Standing → Call → ℕ
answer st call = first_no (questions st call)

-- what stands after a call: a refused one changes nothing
abbrev pub after : Standing → Call → Standing
after st call = if answer st call == 0 then effect st call else st

-- what stands after a list of calls, one after the other from nothing
abbrev pub ledger : List Call → Standing
ledger calls = fold after nothing calls
