-- The state of a run, and what the next command makes of it.
use Rattle.std.specs.Prelude.{ℕ, ◌+◌, Bool, true, false, if◌then◌else◌, not, List, is_some, Some, None, Option, Ok, Err, Result, ◌==◌}
use Rattle.limits.specs.Port.{PortLayers, layers_of}
use Rattle.limits.specs.PortFigures.{port_answer}
use Rattle.plan.specs.Ledger.{after}
use Rattle.plan.specs.Standing.{Standing, nothing}
use Rattle.script.specs.declared.command.Command.{Command}
use Rattle.script.specs.declared.command.Command.TheVariants.{Port, Edit, Solve}
use Rattle.script.specs.declared.command.PlacedCommand.{PlacedCommand}
use Rattle.script.specs.declared.reader_fault.ReaderFault.{ReaderFault}
use Rattle.script.specs.declared.reader_fault.ReaderFault.TheVariants.{ScriptTooLong, UnknownByte, OperandsCut, PortMisplaced}
use Rattle.script.specs.Reading.{reading, place_after}
use Rattle.script.specs.ReaderFault.{number, detail}
use Rattle.script.specs.Told.{Told, told, refused}

-- a run: its script and the place of the next command, how many commands it has read, the limit that the figures of the port make,
-- what stands in its plan, and whether a refusal has ended it
pub record State : Type 0 where
  pub script : List ℕ
  pub place : ℕ
  pub commands : ℕ
  pub limit : Option PortLayers
  pub standing : Standing
  pub ended : Bool

-- a run of a script that has read nothing
abbrev pub start : List ℕ → State
start script = record { script = script; place = 0; commands = 0; limit = None; standing = nothing; ended = false }

-- the limit after a command: accepted figures of a port make it
abbrev pub limit_after : Option PortLayers → Command → Option PortLayers
limit_after limit (Port rate share floor) = if port_answer rate share floor == 0 then Some (layers_of rate share floor) else limit
limit_after limit (Edit call) = limit
limit_after limit (Solve measure allowance) = limit

-- what stands after a command: an edit may change it
abbrev pub standing_after : Standing → Command → Standing
standing_after st (Port rate share floor) = st
standing_after st (Edit call) = after st call
standing_after st (Solve measure allowance) = st

-- a command can be performed: a solve needs a limit
abbrev pub is_ready : Option PortLayers → Command → Bool
is_ready limit (Port rate share floor) = true
is_ready limit (Edit call) = true
is_ready limit (Solve measure allowance) = is_some limit

-- a command ends the run where it is the figures of the port, and they are refused
abbrev pub ends : Command → Bool
ends (Port rate share floor) = not (port_answer rate share floor == 0)
ends (Edit call) = false
ends (Solve measure allowance) = false

-- the number under which a fault of the reader is told: that of the command, and 0 for a script that is too long
abbrev pub fault_command : ℕ → ReaderFault → ℕ
fault_command commands ScriptTooLong = 0
fault_command commands (UnknownByte place) = commands + 1
fault_command commands (OperandsCut place) = commands + 1
fault_command commands (PortMisplaced place) = commands + 1

-- what is told of what was read: of a command or of a fault, under its number; nothing at the end of the script
abbrev pub read_told : State → Result (Option PlacedCommand) ReaderFault → Option (ℕ × Told)
read_told s (Ok (Some read)) = Some (s.commands + 1, told s.limit s.standing read.command)
read_told s (Ok None) = None
read_told s (Err fault) = Some (fault_command s.commands fault, refused (number fault) (detail fault))

-- what a run tells next: nothing once it has ended
abbrev pub next_told : State → Option (ℕ × Told)
next_told s = if s.ended then None else read_told s (reading s.script s.place)

-- the state after what was read
abbrev pub read_state : State → Result (Option PlacedCommand) ReaderFault → State
read_state s (Ok (Some read)) = record s {
  place = place_after s.place (Ok (Some read));
  commands = s.commands + 1;
  limit = limit_after s.limit read.command;
  standing = standing_after s.standing read.command;
  ended = ends read.command;
}
read_state s (Ok None) = s
read_state s (Err fault) = record s { ended = true }

-- the state after the next command: the same once the run has ended
abbrev pub next_state : State → State
next_state s = if s.ended then s else read_state s (reading s.script s.place)
