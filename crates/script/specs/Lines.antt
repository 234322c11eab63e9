-- The lines that tell how a command went.
use Rattle.std.specs.Prelude.{ℕ, if◌then◌else◌, List, [], ◌∷◌, ◌++◌, codes, decimal, length, drop, Some, None, Option, ◌==◌}
use Rattle.std.specs.List.{flat_map}
use Rattle.planner.specs.declared.row.Row.{Row}
use Rattle.script.specs.declared.offer.Offer.{Offer}
use Rattle.script.specs.Told.{Told}

-- how many bytes a buffer for the lines of a command has
abbrev pub lines_size : ℕ
lines_size = 2048

-- a number in decimal after a space
abbrev pub after_space : ℕ → List ℕ
after_space n = codes " " ++ decimal n

-- a line of numbers in decimal: the first, each other one after a space, and a newline
abbrev pub line : ℕ → List ℕ → List ℕ
line first others = decimal first ++ flat_map after_space others ++ codes "\n"

-- the line of a row: the name of the link, the gap and the MTU
abbrev pub row_line : Row → List ℕ
row_line row = line row.link (row.pair.gap ∷ row.pair.mtu ∷ [])

-- the lines of a solve: the command, 0, what is reserved, the bytes of one frame of every link and the visits; and then the rows
abbrev pub offer_lines : ℕ → Offer → List ℕ
offer_lines command offer =
    line command (0 ∷ offer.units ∷ offer.bytes ∷ offer.visits ∷ []) ++ flat_map row_line offer.rows.items

-- the line of a command that offers nothing: the command and 0; or, where it is refused, the command, the number and the detail
abbrev pub answer_line : ℕ → ℕ × ℕ → List ℕ
answer_line command refusal = if refusal.0 == 0 then line command (0 ∷ []) else line command (refusal.0 ∷ refusal.1 ∷ [])

-- the lines of a command by its number, its refusal and its offer
abbrev pub command_lines : ℕ → ℕ × ℕ → Option Offer → List ℕ
command_lines command refusal None = answer_line command refusal
command_lines command refusal (Some offer) = offer_lines command offer

-- the lines of what is told of a command, which comes with its number
abbrev pub told_lines : ℕ × Told → List ℕ
told_lines told = command_lines told.0 told.1.refusal told.1.offer

-- a buffer with some lines at its front, and with its further bytes as they were; without any, as it was
abbrev pub written : Option (List ℕ) → List ℕ → List ℕ
written None old = old
written (Some lines) old = lines ++ drop (length lines) old
