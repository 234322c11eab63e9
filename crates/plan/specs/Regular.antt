-- What flows are in every plan, with regard to one link. Only functions inside the crate speak of this.
use Rattle.std.specs.Prelude.{ℕ, ◌≤◌, ◌&&◌, Bool, Option, None, Some, List, filter, length}
use Rattle.std.specs.List.{AllByRecursion}
use Rattle.plan.specs.declared.flow.Flow.{Flow}
use Rattle.plan.specs.Bounds.{max_flows, max_payload, max_cycle, max_common_cycle}
use Rattle.plan.specs.Cycle.{common}
use Rattle.plan.specs.Edited.{other_name}
use Rattle.plan.specs.Standing.{is_of, of_link}

-- the flow's payload and cycle are in range
abbrev pub InRange : Flow → Type 0
InRange f = (1 ≤ f.payload) × (f.payload ≤ max_payload) × (1 ≤ f.cycle) × (f.cycle ≤ max_cycle)

-- each flow is in range
abbrev pub AllInRange : List Flow → Type 0
AllInRange fs = AllByRecursion InRange fs

-- the flows are in range, not too many, and the common cycle of those that are the link's is short enough
pub record Regular (link : ℕ) (fs : List Flow) : Type 0 where
  pub range : AllInRange fs
  pub few : length fs ≤ max_flows
  pub short : common (of_link link fs) ≤ max_common_cycle

-- the flow is the link's, and has another name than the one that is left out
abbrev pub counts : ℕ → Option ℕ → Flow → Bool
counts link None f = is_of link f
counts link (Some name) f = is_of link f && other_name name f

-- the flows that are the link's, without the one of the name that is left out
abbrev pub counted : ℕ → Option ℕ → List Flow → List Flow
counted link but fs = filter (counts link but) fs
