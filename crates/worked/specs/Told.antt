-- What is told of a worked port, by the definitions that the contracts of the calls cite.
use Rattle.std.specs.Prelude.{ℕ, suc, if◌then◌else◌, List, replicate, Some, None, Option, ◌==◌, nat_le}
use Rattle.std.specs.List.{filter_map}
use Rattle.limits.specs.Burst.{burst, burst_at_most}
use Rattle.limits.specs.Gaps.{eight_gaps}
use Rattle.limits.specs.Port.{PortLayers, layers_of, layers_breach}
use Rattle.limits.specs.PortFigures.{port_answer}
use Rattle.limits.specs.Sums.{reserve}
use Rattle.plan.specs.declared.call.Call.{Call}
use Rattle.plan.specs.Ledger.{ledger, answer}
use Rattle.plan.specs.Queries.{pairs_answer, pairs_written}
use Rattle.plan.specs.Standing.{Standing}
use Rattle.planner.specs.declared.row.Row.{Row}
use Rattle.planner.specs.declared.solved.Solved.{Solved}
use Rattle.planner.specs.Ending.{ending}
use Rattle.planner.specs.Named.{Aim, aim_of}
use Rattle.worked.specs.declared.worked_port.Asked.{Asked}
use Rattle.worked.specs.declared.worked_port.Asked.TheVariants as asked
use Rattle.worked.specs.declared.worked_port.By.{By}
use Rattle.worked.specs.declared.worked_port.By.TheVariants as by
use Rattle.worked.specs.declared.worked_port.Told.{Told}
use Rattle.worked.specs.declared.worked_port.Told.TheVariants as told
use Rattle.worked.specs.declared.worked_port.TheConstants.{WORKED_LINKS}
use Rattle.worked.specs.declared.worked_port.WorkedPort.{WorkedPort}

-- what stands after the calls, from an empty plan on
abbrev pub built : List (Option Call) → Standing
built calls = ledger (filter_map (λ place. place) calls)

-- a call that is answered with this number: refused with it and the detail 0, unless it is 0
abbrev pub unless_refused : ℕ → Told → Told
unless_refused number otherwise = if number == 0 then otherwise else told.Refused number 0

-- a row that nothing was written to
abbrev pub blank : Row
blank = record { link = 0; pair = record { gap = 0; mtu = 0 } }

-- the pairs of a link
abbrev pub pairs_told : Standing → ℕ → Told
pairs_told st link =
    unless_refused (pairs_answer st link) (told.Pairs (pairs_written eight_gaps st link (replicate 8 None)))

-- what is told of a solve that ended so: what it reports, and the answer table, in this form, or its refusal
abbrev pub told_or_refused : {T : Type 0} → (Solved T → List Row → Told) → ℕ × ℕ → List Row → Option (Solved T) → Told
told_or_refused setting refusal rows None = told.Refused refusal.0 refusal.1
told_or_refused setting refusal rows (Some report) = setting report rows

-- what is told of a solve with this aim, with an answer table of so many rows, and one more in the work table
abbrev pub ending_told : {T : Type 0} → (Solved T → List Row → Told) → Aim T → Standing → ℕ → Told
ending_told setting aim st allowance =
    let e = ending eight_gaps aim st allowance (suc WORKED_LINKS) (replicate WORKED_LINKS blank) in
    told_or_refused setting e.refusal e.rows e.report

-- what is told of a solve by the measure under the limit of a port
abbrev pub solve_told : Standing → PortLayers → By → ℕ → Told
solve_told st limit by.Reserve allowance =
    ending_told told.ByReserve (aim_of (layers_breach limit) reserve nat_le) st allowance
solve_told st limit by.Burst allowance =
    ending_told told.ByBurst (aim_of (layers_breach limit) burst burst_at_most) st allowance

-- what is told where this stands
abbrev pub told_of : Standing → Asked → Told
told_of st (asked.Pairs link) = pairs_told st link
told_of st (asked.Edit call) = unless_refused (answer st call) told.Accepted
told_of st (asked.Solve rate share floor measure allowance) =
    unless_refused (port_answer rate share floor) (solve_told st (layers_of rate share floor) measure allowance)

-- what is told of a worked port, by the definitions
abbrev pub told_by_definition : WorkedPort → Told
told_by_definition port = told_of (built port.calls) port.asked

-- what is told of it, as it was worked out
abbrev pub told_as_worked : WorkedPort → Told
told_as_worked port = port.told
