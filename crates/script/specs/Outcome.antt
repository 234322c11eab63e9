-- What a result of the code tells.
use Rattle.std.specs.Prelude.{◌≡◌, ℕ, ◌⊎◌, Some, None, Option, Ok, Err, Result}
use Rattle.limits.specs.declared.port_fault.PortFault.{PortFault}
use Rattle.plan.specs.declared.fault.PlanFault.{PlanFault}
use Rattle.planner.specs.declared.solve_fault.SolveFault.{SolveFault}
use Rattle.script.specs.declared.accepted.Accepted.{Accepted}
use Rattle.script.specs.declared.command.Command.{Command}
use Rattle.script.specs.declared.command.Command.TheVariants as commands
use Rattle.script.specs.declared.command.PlacedCommand.{PlacedCommand}
use Rattle.script.specs.declared.offer.Offer.{Offer}
use Rattle.script.specs.declared.reader_fault.ReaderFault.{ReaderFault}
use Rattle.script.specs.declared.run_fault.Cause.{Cause}
use Rattle.script.specs.declared.run_fault.Cause.TheVariants as causes
use Rattle.script.specs.declared.run_fault.RunFault.{RunFault}
use Rattle.script.specs.RunFault.{number, detail}
use Rattle.script.specs.Told.{Told, refused}

-- an offer, or a refusal by its number and its detail
abbrev pub outcome : {E : Type 0} → (E → ℕ) → (E → ℕ) → Result Offer E → Told
outcome number detail (Ok offer) = record { refusal = (0, 0); offer = Some offer }
outcome number detail (Err fault) = refused (number fault) (detail fault)

-- what a command has come to: accepted, perhaps with an offer, or refused
abbrev pub performed : Result (Option Offer) Cause → Told
performed (Ok offer) = record { refusal = (0, 0); offer = offer }
performed (Err cause) = refused (number cause) (detail cause)

-- the same with the number of the command
abbrev pub numbered : Result Accepted RunFault → ℕ × Told
numbered (Ok accepted) = (accepted.command, record { refusal = (0, 0); offer = accepted.offer })
numbered (Err fault) = (fault.command, refused (number fault.cause) (detail fault.cause))

-- the cause wraps the fault of the call that the command makes: of the port, of the plan, or of the solve; or the measure of the
-- solve is unknown
abbrev pub Source : Command → Cause → Type 0
Source (commands.Port rate share floor) cause = (fault : PortFault) × (cause ≡ causes.Port fault)
Source (commands.Edit call) cause = (fault : PlanFault) × (cause ≡ causes.Plan fault)
Source (commands.Solve measure allowance) cause = (cause ≡ causes.UnknownMeasure) ⊎ ((fault : SolveFault) × (cause ≡ causes.Solve fault))

-- the same of whatever is read, where the reader may refuse too
abbrev pub SourceOf : Result (Option PlacedCommand) ReaderFault → Cause → Type 0
SourceOf (Ok (Some read)) cause = Source read.command cause
SourceOf (Ok None) cause = ⊥
SourceOf (Err fault) cause = cause ≡ causes.Reader fault
