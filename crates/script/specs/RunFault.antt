-- The refusals of a run: per cause its number, its detail and its words.
use Rattle.std.specs.Prelude.{ℕ, List, codes}
use Rattle.limits.specs.PortFault.{number as port_number, detail as port_detail, text as port_text}
use Rattle.plan.specs.Fault.{number as plan_number, detail as plan_detail, text as plan_text}
use Rattle.planner.specs.SolveFault.{number as solve_number, detail as solve_detail, text as solve_text}
use Rattle.script.specs.declared.run_fault.Cause.{Cause}
use Rattle.script.specs.declared.run_fault.Cause.TheVariants.{Reader, Port, Plan, Solve, UnknownMeasure}
use Rattle.script.specs.ReaderFault.{number as reader_number, detail as reader_detail, text as reader_text}

-- the number of the question that was answered no: that of the refusal which the run passes on, or 28
abbrev pub number : Cause → ℕ
number (Reader fault) = reader_number fault
number (Port fault) = port_number fault
number (Plan fault) = plan_number fault
number (Solve fault) = solve_number fault
number UnknownMeasure = 28

-- what is told beside the number: the detail of that refusal, or 0
abbrev pub detail : Cause → ℕ
detail (Reader fault) = reader_detail fault
detail (Port fault) = port_detail fault
detail (Plan fault) = plan_detail fault
detail (Solve fault) = solve_detail fault
detail UnknownMeasure = 0

-- what the refusal says in words, as the codes of its characters
abbrev pub text : Cause → List ℕ
text (Reader fault) = reader_text fault
text (Port fault) = port_text fault
text (Plan fault) = plan_text fault
text (Solve fault) = solve_text fault
text UnknownMeasure = codes "no measure has this byte"
