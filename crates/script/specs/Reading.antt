-- What is read of a script.
use Rattle.std.specs.Prelude.{ℕ, ◌+◌, Bool, if◌then◌else◌, List, [], ◌∷◌, length, take, drop, Some, None, Option, Ok, Err, Result, ◌==◌, nat_lt}
use Rattle.script.specs.declared.command.PlacedCommand.{PlacedCommand}
use Rattle.script.specs.declared.kind.Kind.{Kind}
use Rattle.script.specs.declared.kind.Kind.TheVariants.{Port, AddLink, AddFlow, Amend, Withdraw, Solve}
use Rattle.script.specs.declared.reader_fault.ReaderFault.{ReaderFault}
use Rattle.script.specs.declared.reader_fault.ReaderFault.TheVariants.{ScriptTooLong, UnknownByte, OperandsCut, PortMisplaced}
use Rattle.script.specs.Command.{kind_of, operand_bytes, command, spelled}

-- the most bytes of a script
abbrev pub script_max : ℕ
script_max = 32768

-- the port's figures stand at place 0, and every other command at a later place
abbrev pub well_placed : Kind → ℕ → Bool
well_placed Port place = place == 0
well_placed AddLink place = nat_lt 0 place
well_placed AddFlow place = nat_lt 0 place
well_placed Amend place = nat_lt 0 place
well_placed Withdraw place = nat_lt 0 place
well_placed Solve place = nat_lt 0 place

-- the command of a kind at a place, where its operands are all there and it is well placed
abbrev pub read_kind : ℕ → List ℕ → Option Kind → Result (Option PlacedCommand) ReaderFault
read_kind place operands None = Err (UnknownByte place)
read_kind place operands (Some kind) =
    if nat_lt (length operands) (operand_bytes kind) then Err (OperandsCut place)
    else if well_placed kind place then Ok (Some (record { place = place; command = command kind (take (operand_bytes kind) operands) }))
    else Err (PortMisplaced place)

-- the command that the rest of a script begins with
abbrev pub read_rest : ℕ → List ℕ → Result (Option PlacedCommand) ReaderFault
read_rest place [] = Ok None
read_rest place (byte ∷ operands) = read_kind place operands (kind_of byte)

-- what is read at a place: a command, nothing at the end of the script, or why there is no command
abbrev pub reading : List ℕ → ℕ → Result (Option PlacedCommand) ReaderFault
reading script place = if nat_lt script_max (length script) then Err ScriptTooLong else read_rest place (drop place script)

-- where the next command begins: behind the one that was read
abbrev pub place_after : ℕ → Result (Option PlacedCommand) ReaderFault → ℕ
place_after place (Ok (Some read)) = place + length (spelled read.command)
place_after place (Ok None) = place
place_after place (Err fault) = place
