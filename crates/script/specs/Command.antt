-- The commands of a script, and the bytes that spell them.
use Rattle.std.specs.Prelude.{ℕ, Bool, true, false, if◌then◌else◌, List, [], ◌∷◌, ◌++◌, take, drop, Some, None, Option, ◌==◌, slice_index}
use Rattle.std.specs.Int.{Width, w16, w32, byte_len, from_be_bytes, to_be_bytes}
use Rattle.plan.specs.declared.call.Call.TheVariants as calls
use Rattle.script.specs.declared.command.Command.{Command}
use Rattle.script.specs.declared.command.Command.TheVariants as commands
use Rattle.script.specs.declared.kind.Kind.{Kind}
use Rattle.script.specs.declared.kind.Kind.TheVariants.{Port, AddLink, AddFlow, Amend, Withdraw, Solve}

-- the kind of command that a byte tells: the letters P, L, F, A, W and S
abbrev pub kind_of : ℕ → Option Kind
kind_of byte =
    if byte == 80 then Some Port
    else if byte == 76 then Some AddLink
    else if byte == 70 then Some AddFlow
    else if byte == 65 then Some Amend
    else if byte == 87 then Some Withdraw
    else if byte == 83 then Some Solve
    else None

-- how many bytes of operands follow
abbrev pub operand_bytes : Kind → ℕ
operand_bytes Port = 9
operand_bytes AddLink = 2
operand_bytes AddFlow = 8
operand_bytes Amend = 6
operand_bytes Withdraw = 2
operand_bytes Solve = 5

-- the number that the bytes from a place on spell, the high byte first
abbrev pub number_at : Width → ℕ → List ℕ → ℕ
number_at w at operands = from_be_bytes w (take (byte_len w) (drop at operands))

-- the command of a kind with these operands
abbrev pub command : Kind → List ℕ → Command
command Port operands = commands.Port (number_at w32 0 operands) (number_at w32 4 operands) (slice_index operands 8)
command AddLink operands = commands.Edit (calls.AddLink (number_at w16 0 operands))
command AddFlow operands =
    commands.Edit (calls.AddFlow (number_at w16 0 operands) (number_at w16 2 operands) (number_at w16 4 operands) (number_at w16 6 operands))
command Amend operands =
    commands.Edit (calls.Amend (number_at w16 0 operands) (number_at w16 2 operands) (number_at w16 4 operands))
command Withdraw operands = commands.Edit (calls.Withdraw (number_at w16 0 operands))
command Solve operands = commands.Solve (slice_index operands 0) (number_at w32 1 operands)

-- the bytes that spell a command: that of its kind, and then its operands, each with the high byte first
abbrev pub spelled : Command → List ℕ
spelled (commands.Port rate share floor) = 80 ∷ to_be_bytes w32 rate ++ to_be_bytes w32 share ++ floor ∷ []
spelled (commands.Edit (calls.AddLink name)) = 76 ∷ to_be_bytes w16 name
spelled (commands.Edit (calls.AddFlow link flow payload cycle)) =
    70 ∷ to_be_bytes w16 link ++ to_be_bytes w16 flow ++ to_be_bytes w16 payload ++ to_be_bytes w16 cycle
spelled (commands.Edit (calls.Amend flow payload cycle)) =
    65 ∷ to_be_bytes w16 flow ++ to_be_bytes w16 payload ++ to_be_bytes w16 cycle
spelled (commands.Edit (calls.Withdraw flow)) = 87 ∷ to_be_bytes w16 flow
spelled (commands.Solve measure allowance) = 83 ∷ measure ∷ to_be_bytes w32 allowance

-- the command is the figures of the port
abbrev pub is_port : Command → Bool
is_port (commands.Port rate share floor) = true
is_port (commands.Edit call) = false
is_port (commands.Solve measure allowance) = false
