-- A standing: the links and the flows that a plan holds.
use Rattle.std.specs.Prelude.{ℕ, Bool, List, [], Some, None, filter, Option, ◌==◌, nat_le}
use Rattle.limits.specs.Range.{among}
use Rattle.std.specs.List.{list_any, find}
use Rattle.plan.specs.declared.flow.Flow.{Flow}
use Rattle.plan.specs.Bounds.{max_common_cycle}
use Rattle.plan.specs.Cycle.{common}

-- the names of the links in the order of their adding, and the flows in rising name, so that a set of flows has one form
pub record Standing : Type 0 where
  pub links : List ℕ
  pub flows : List Flow

-- what stands in a plan that was just opened
abbrev pub nothing : Standing
nothing = record { links = []; flows = [] }

-- a link of that name stands
abbrev pub stands : Standing → ℕ → Bool
stands st link = among st.links link

-- the flow has that name
abbrev pub is_named : ℕ → Flow → Bool
is_named name f = f.name == name

-- one of the flows has that name
abbrev pub named : List Flow → ℕ → Bool
named fs name = list_any (is_named name) fs

-- the flow of that name, if there is one
abbrev pub flow_named : ℕ → List Flow → Option Flow
flow_named name fs = find (is_named name) fs

-- the link of a flow, or 0 for no flow
abbrev pub link_if : Option Flow → ℕ
link_if None = 0
link_if (Some f) = f.link

-- the link of the flow of that name, 0 where there is none
abbrev pub link_of_flow : ℕ → List Flow → ℕ
link_of_flow name fs = link_if (flow_named name fs)

-- the flow is one of the link's
abbrev pub is_of : ℕ → Flow → Bool
is_of link f = f.link == link

-- the flows that are the link's
abbrev pub of_link : ℕ → List Flow → List Flow
of_link link fs = filter (is_of link) fs

-- the flows of a link in a standing
abbrev pub flows_of : Standing → ℕ → List Flow
flows_of st link = of_link link st.flows

-- the link has a flow
abbrev pub has_flow : Standing → ℕ → Bool
has_flow st link = list_any (is_of link) st.flows

-- the common cycle of the link is short enough
abbrev pub short_cycle : Standing → ℕ → Bool
short_cycle st link = nat_le (common (flows_of st link)) max_common_cycle
