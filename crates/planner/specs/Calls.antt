-- A list of calls of a planner, and what it holds after them: what stands in its plan, and its answer table.
use Rattle.std.specs.Prelude.{ℕ, Bool, List, map, fold}
use Rattle.limits.specs.declared.pair.Pair.{Pair}
use Rattle.plan.specs.History.{Event, Edit, Solve, ledger_of}
use Rattle.plan.specs.Ledger.{after}
use Rattle.plan.specs.Standing.{Standing, nothing}
use Rattle.planner.specs.declared.call.PlannerCall.{PlannerCall}
use Rattle.planner.specs.declared.call.PlannerCall.TheVariants as call
use Rattle.planner.specs.declared.call.SolveCall.{SolveCall}
use Rattle.planner.specs.declared.row.Row.{Row}
use Rattle.planner.specs.Ending.{ending}
use Rattle.planner.specs.Named.{Aim, aim_of}

-- a call as the ledger is fed it
abbrev pub event : {L M : Type 0} → PlannerCall L M → Event
event (call.Edit edit) = Edit edit
event (call.Solve solve) = Solve

-- what stands after the calls
abbrev pub ledger : {L M : Type 0} → List (PlannerCall L M) → Standing
ledger calls = ledger_of (map event calls)

-- what a solve on the list goes by, where limits have these breaches and measures these totals and comparisons
abbrev pub aim_by : {L M T : Type 0} → (L → List Pair → ℕ) → (M → List Pair → T) → (M → T → T → Bool) → SolveCall L M → Aim T
aim_by breach totalled at_most asked = aim_of (breach asked.limit) (totalled asked.measure) (at_most asked.measure)

-- what a planner holds
pub record State : Type 0 where
  pub standing : Standing
  pub rows : List Row

-- what it holds after a call: an edit leaves the answer table, and a solve the plan
abbrev pub after_call : {L M T : Type 0} → List ℕ → (SolveCall L M → Aim T) → ℕ → State → PlannerCall L M → State
after_call gaps aim work_rows state (call.Edit edit) = record state { standing = after state.standing edit }
after_call gaps aim work_rows state (call.Solve solve) =
    record state { rows = (ending gaps (aim solve) state.standing solve.allowance work_rows state.rows).rows }

-- the answer table after the calls, from an empty plan and an answer table of any rows
abbrev pub rows_after : {L M T : Type 0} → List ℕ → (SolveCall L M → Aim T) → ℕ → List (PlannerCall L M) → List Row → List Row
rows_after gaps aim work_rows calls rows =
    (fold (after_call gaps aim work_rows) (record { standing = nothing; rows = rows }) calls).rows
