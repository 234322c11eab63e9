-- What an edit makes of the flows: one more, one fewer, or one amended.
use Rattle.std.specs.Prelude.{ℕ, Bool, if◌then◌else◌, not, List, [], ◌∷◌, map, filter, nat_lt}
use Rattle.plan.specs.declared.flow.Flow.{Flow}
use Rattle.plan.specs.Standing.{is_named}

-- the flow of that link, name, payload and cycle
abbrev pub flow_with : ℕ → ℕ → ℕ → ℕ → Flow
flow_with link name payload cycle = record { name = name; link = link; payload = payload; cycle = cycle }

-- one flow more, before the first whose name is not below its own
abbrev pub insert : Flow → List Flow → List Flow
insert f [] = f ∷ []
insert f (g ∷ gs) = if nat_lt g.name f.name then g ∷ insert f gs else f ∷ g ∷ gs

-- the flow has another name
abbrev pub other_name : ℕ → Flow → Bool
other_name name f = not (is_named name f)

-- the flows without the one of that name
abbrev pub without : ℕ → List Flow → List Flow
without name fs = filter (other_name name) fs

-- the flow with this payload and this cycle in place of its own, if it has that name
abbrev pub amended_flow : ℕ → ℕ → ℕ → Flow → Flow
amended_flow name payload cycle f = if is_named name f then flow_with f.link f.name payload cycle else f

-- the flows, the one of that name with this payload and this cycle
abbrev pub amended : ℕ → ℕ → ℕ → List Flow → List Flow
amended name payload cycle fs = map (amended_flow name payload cycle) fs
