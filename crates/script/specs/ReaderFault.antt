-- The refusals of a script: per case its number, its detail and its words.
use Rattle.std.specs.Prelude.{ℕ, List, codes}
use Rattle.script.specs.declared.reader_fault.ReaderFault.{ReaderFault}
use Rattle.script.specs.declared.reader_fault.ReaderFault.TheVariants.{ScriptTooLong, UnknownByte, OperandsCut, PortMisplaced}

-- the number of the question that was answered no
abbrev pub number : ReaderFault → ℕ
number ScriptTooLong = 24
number (UnknownByte place) = 25
number (OperandsCut place) = 26
number (PortMisplaced place) = 27

-- what is told beside the number: the place of the command, or nothing, which is 0
abbrev pub detail : ReaderFault → ℕ
detail ScriptTooLong = 0
detail (UnknownByte place) = place
detail (OperandsCut place) = place
detail (PortMisplaced place) = place

-- what the refusal says in words, as the codes of its characters
unfoldable pub text : ReaderFault → List ℕ
text ScriptTooLong = codes "the script is longer than 32768 bytes"
text (UnknownByte place) = codes "no command begins with this byte"
text (OperandsCut place) = codes "the script ends within the operands"
text (PortMisplaced place) = codes "the figures of the port are the first command, and only the first"
