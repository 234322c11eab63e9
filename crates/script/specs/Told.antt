-- What a run tells of a command.
use Rattle.std.specs.Prelude.{ℕ, if◌then◌else◌, List, [], ◌∷◌, Some, None, Option, ◌==◌, nat_le}
use Rattle.std.specs.List.{list_any}
use Rattle.std.specs.Option.{option_map}
use Rattle.limits.specs.declared.burst_total.BurstTotal.{BurstTotal}
use Rattle.limits.specs.Burst.{burst, burst_at_most}
use Rattle.limits.specs.Gaps.{eight_gaps}
use Rattle.limits.specs.Port.{PortLayers, layers_breach}
use Rattle.limits.specs.PortFigures.{port_answer}
use Rattle.limits.specs.Sums.{burst_bytes, reserve}
use Rattle.plan.specs.Ledger.{answer}
use Rattle.plan.specs.Queries.{first_without_flow}
use Rattle.plan.specs.Standing.{Standing}
use Rattle.planner.specs.declared.row.Row.{Row}
use Rattle.planner.specs.Asked.{Asked, refusal}
use Rattle.planner.specs.Choice.{link_candidates, first_without_candidate}
use Rattle.planner.specs.Ending.{Ending, rows_of}
use Rattle.planner.specs.Named.{Aim, aim_of, visits, named}
use Rattle.planner.specs.Promise.{link_rows}
use Rattle.planner.specs.Selections.{complete}
use Rattle.planner.specs.Setting.{pairs, plainly}
use Rattle.script.specs.declared.command.Command.{Command}
use Rattle.script.specs.declared.command.Command.TheVariants.{Port, Edit, Solve}
use Rattle.script.specs.declared.offer.Offer.{Offer}

-- the number and the detail of the refusal, or 0 and 0; and the offer of an accepted solve
pub record Told : Type 0 where
  pub refusal : ℕ × ℕ
  pub offer : Option Offer

-- a command that is accepted and offers nothing
abbrev pub accepted : Told
accepted = record { refusal = (0, 0); offer = None }

-- a command that is refused with this number and this detail
abbrev pub refused : ℕ → ℕ → Told
refused number detail = record { refusal = (number, detail); offer = None }

-- a command that is answered with this number: accepted where it is 0, else refused with the detail 0
abbrev pub answered : ℕ → Told
answered number = refused number 0

-- what a setting offers: what it reserves, the bytes of one frame of every link, the visits, and its rows
abbrev pub offer_of : List Row → ℕ → Offer
offer_of rows visits =
    record { units = reserve (pairs rows); bytes = burst_bytes (pairs rows); visits = visits; rows = record { items = rows } }

-- what is told of a solve that ended so
abbrev pub of_ending : {T : Type 0} → Standing → Ending T → Told
of_ending st e = record { refusal = e.refusal; offer = option_map (λ report. offer_of (link_rows st e.rows) report.visits) e.report }

-- what a solve is asked whose tables are long enough: has every link a flow, has every link a candidate, are the visits at most the
-- allowance, and is some complete selection within the limit?
abbrev pub run_questions : {T : Type 0} → Aim T → Standing → ℕ → Asked
run_questions aim st allowance =
    (13, first_without_flow st)
    ∷ (16, first_without_candidate eight_gaps st)
    ∷ (17, plainly (nat_le (visits aim (link_candidates eight_gaps st)) allowance))
    ∷ (18, plainly (list_any aim.within (complete (link_candidates eight_gaps st))))
    ∷ []

-- what the named setting offers, if there is one: each link with its pair
abbrev pub named_offer : {T : Type 0} → Aim T → Standing → Option Offer
named_offer aim st =
    option_map (λ s. offer_of (rows_of st.links s) (visits aim (link_candidates eight_gaps st))) (named aim (link_candidates eight_gaps st))

-- what is told where this is the first refusal, if it is one: without one, what the named setting offers
abbrev pub told_unless : {T : Type 0} → Aim T → Standing → ℕ × ℕ → Told
told_unless aim st r = record { refusal = r; offer = if r.0 == 0 then named_offer aim st else None }

-- what is told of a solve with this aim: the first question that is answered no refuses it, and else it offers the named setting
abbrev pub solve_told : {T : Type 0} → Aim T → Standing → ℕ → Told
solve_told aim st allowance = told_unless aim st (refusal (run_questions aim st allowance))

-- least reserve under the limit of a port
abbrev pub reserve_aim : PortLayers → Aim ℕ
reserve_aim limit = aim_of (layers_breach limit) reserve nat_le

-- least burst under the limit of a port
abbrev pub burst_aim : PortLayers → Aim BurstTotal
burst_aim limit = aim_of (layers_breach limit) burst burst_at_most

-- what is told of a solve by the measure of this byte: 1 for the reserve and 2 for the burst
abbrev pub measure_told : PortLayers → Standing → ℕ → ℕ → Told
measure_told limit st measure allowance =
    if measure == 1 then solve_told (reserve_aim limit) st allowance
    else if measure == 2 then solve_told (burst_aim limit) st allowance
    else refused 28 0

-- what is told of a command, where this is the limit of the port and this stands. No run comes to a solve without a limit; the
-- last line only makes the definition total.
abbrev pub told : Option PortLayers → Standing → Command → Told
told limit st (Port rate share floor) = answered (port_answer rate share floor)
told limit st (Edit call) = answered (answer st call)
told (Some limit) st (Solve measure allowance) = measure_told limit st measure allowance
told None st (Solve measure allowance) = accepted
