-- Every script reads as some commands, and one that is written from commands as those.
use Rattle.std.proofs.Common.{◌≡◌, ℕ, ◌+◌, ◌<◌, ◌≤◌, zero, suc, Bool, true, false, not, cond, eqb, ltb, List, [], ◌∷◌, ◌++◌, length, drop, Some, None, Option, Ok, Err, refl, ap, sym, subst, ◌∙◌, append_assoc, length-append, arith}
use Rattle.std.specs.Prelude.{Result}
use Rattle.std.specs.List.{flat_map, list_all, AllByRecursion}
use Rattle.std.proofs.lemmas.Bool.{and_parts, cond-false, lt-ltb, le-ltb}
use Rattle.std.proofs.lemmas.List.{nil_from_length, length-drop}
use Rattle.std.proofs.Math.Seq.{drop-append_seam}
use Rattle.std.proofs.lemmas.Nat.{from_be_bytes-to_be_bytes_2, from_be_bytes-to_be_bytes_4}
use Rattle.plan.specs.declared.call.Call.TheVariants.{AddLink, AddFlow, Amend, Withdraw}
use Rattle.script.specs.declared.command.Command.{Command}
use Rattle.script.specs.declared.command.Command.TheVariants.{Port, Edit, Solve}
use Rattle.script.specs.declared.command.PlacedCommand.{PlacedCommand}
use Rattle.script.specs.declared.reader_fault.ReaderFault.{ReaderFault}
use Rattle.script.specs.declared.reader_fault.ReaderFault.TheVariants.{ScriptTooLong, OperandsCut, PortMisplaced}
use Rattle.script.specs.Command.{spelled, is_port}
use Rattle.script.specs.Reading.{script_max, read_rest, reading}
use Rattle.script.specs.Script.{last_read, Reads, ReadsAsOne, Fits, WrittenIsRead}
use Rattle.script.proofs.Placed.{Read, kinded}

-- what is read where a command stands
abbrev placed_as : ℕ → Command → PlacedCommand
placed_as place c = record { place = place; command = c }

abbrev read_as : ℕ → Command → Read
read_as place c = Ok (Some (placed_as place c))

-- ---- every script reads as some commands

-- the commands that a script reads as from a place on
abbrev Commands : List ℕ → ℕ → Type 0
Commands script place = (cs : List Command) × (fault : Option ReaderFault) × Reads script place cs fault

-- a command has a byte
pub spelled_some : (c : Command) → 1 ≤ length (spelled c)
spelled_some (Port rate share floor) = omega arith
spelled_some (Edit (AddLink name)) = omega arith
spelled_some (Edit (AddFlow link flow payload cycle)) = omega arith
spelled_some (Edit (Amend flow payload cycle)) = omega arith
spelled_some (Edit (Withdraw flow)) = omega arith
spelled_some (Solve measure allowance) = omega arith

-- at the end of a script no command is read
none_at_end : (long : Bool) (place : ℕ) (rest : List ℕ) (read : PlacedCommand) → rest ≡ [] → cond long (Err ScriptTooLong) (read_rest place rest) ≡ Ok (Some read) → ⊥
none_at_end true place rest read none e = absurd cc
none_at_end false place [] read none e = absurd cc
none_at_end false place (b ∷ rest) read none e = absurd cc

pub read_within : (script : List ℕ) (place : ℕ) (read : PlacedCommand) → reading script place ≡ Ok (Some read) → length script ≤ place → ⊥
read_within script place read e past = none_at_end (ltb script_max (length script)) place (drop place script) read (nil_from_length (drop place script) (omega (arith, past, length-drop place script))) e

-- the command that was read, at its place
pub as_placed : (script : List ℕ) (place : ℕ) (read : PlacedCommand) → reading script place ≡ Ok (Some read) → reading script place ≡ Ok (Some (record { place = place; command = read.command }))
as_placed script place read e = e ∙ ap (λ p. Ok (Some (record { place = p; command = read.command }))) (ap (λ r. r.place) (kinded script place read e).is)

one_further : (script : List ℕ) (place : ℕ) (r : Result (Option PlacedCommand) ReaderFault) → reading script place ≡ r
    → ((read : PlacedCommand) → reading script place ≡ Ok (Some read) → Commands script (place + length (spelled read.command))) → Commands script place
one_further script place (Err fault) e more = ([], Some fault, e)
one_further script place (Ok None) e more = ([], None, e)
one_further script place (Ok (Some read)) e more =
    let others = more read e in
    (read.command ∷ others.0, others.1, (as_placed script place read e, others.2))

commands_from : (n : ℕ) (script : List ℕ) (place : ℕ) → length script ≤ place + n → Commands script place
commands_from zero script place few = one_further script place (reading script place) refl (λ read e. absurd (read_within script place read e (omega (arith, few))))
commands_from (suc n) script place few =
    one_further script place (reading script place) refl (λ read e. commands_from n script (place + length (spelled read.command)) (omega (arith, few, spelled_some read.command)))

-- ---- and as no others
same_command : (place : ℕ) (c d : Command) → read_as place c ≡ read_as place d → c ≡ d
same_command place c d e =
    let same : placed_as place c ≡ placed_as place d = cc in
    ap (λ p. p.command) same

no_command : (place : ℕ) (c : Command) (fault : Option ReaderFault) → last_read fault ≡ read_as place c → ⊥
no_command place c None e = absurd cc
no_command place c (Some fault) e = absurd cc

same_last : (f g : Option ReaderFault) → last_read f ≡ last_read g → f ≡ g
same_last None None e = refl
same_last None (Some g) e = absurd cc
same_last (Some f) None e = absurd cc
same_last (Some f) (Some g) e = cc

same_commands : (script : List ℕ) (place : ℕ) (cs ds : List Command) (fault other : Option ReaderFault) → Reads script place cs fault → Reads script place ds other → (ds ≡ cs) × (other ≡ fault)
same_commands script place [] [] fault other r q = (refl, same_last other fault (sym q ∙ r))
same_commands script place [] (d ∷ ds) fault other r q = absurd (no_command place d fault (sym r ∙ q.0))
same_commands script place (c ∷ cs) [] fault other r q = absurd (no_command place c other (sym q ∙ r.0))
same_commands script place (c ∷ cs) (d ∷ ds) fault other r q =
    let same : d ≡ c = same_command place d c (sym q.0 ∙ r.0) in
    let rest = same_commands script (place + length (spelled c)) cs ds fault other r.1 (subst (λ x. Reads script (place + length (spelled x)) ds other) same q.1) in
    ((λ i. same i ∷ rest.0 i), rest.1)

pub reads_as_one : (script : List ℕ) → ReadsAsOne script
reads_as_one script =
    let some = commands_from (length script) script 0 (omega arith) in
    (some.0, some.1, some.2, λ ds other q. same_commands script 0 some.0 ds some.1 other some.2 q)

-- ---- what is written from commands reads as those

-- the command may stand at the place
abbrev placed : Command → ℕ → Bool
placed (Port rate share floor) place = eqb place 0
placed (Edit call) place = ltb 0 place
placed (Solve measure allowance) place = ltb 0 place

at_first : (c : Command) → is_port c ≡ true → placed c 0 ≡ true
at_first (Port rate share floor) e = refl
at_first (Edit call) e = absurd cc
at_first (Solve measure allowance) e = absurd cc

behind_first : (c : Command) (place : ℕ) → not (is_port c) ≡ true → 0 < place → placed c place ≡ true
behind_first (Port rate share floor) place e lt = absurd cc
behind_first (Edit call) place e lt = lt-ltb 0 place lt
behind_first (Solve measure allowance) place e lt = lt-ltb 0 place lt

chosen : (cut well : Bool) (place : ℕ) (is c : Command) → cut ≡ false → well ≡ true → is ≡ c
    → cond {A = Read} cut (Err (OperandsCut place)) (cond well (Ok (Some (record { place = place; command = is }))) (Err (PortMisplaced place))) ≡ Ok (Some (record { place = place; command = c }))
chosen true well place is c cut w e = absurd cc
chosen false false place is c cut w e = absurd cc
chosen false true place is c cut w e = ap (λ x. Ok (Some (record { place = place; command = x }))) e

-- the bytes of a command, and whatever follows, read as the command
read_spelled : (place : ℕ) (c : Command) (rest : List ℕ) → Fits c → placed c place ≡ true → read_rest place (spelled c ++ rest) ≡ Ok (Some (record { place = place; command = c }))
read_spelled place (Port rate share floor) rest fits well =
    chosen _ _ place _ _ (le-ltb _ 9 (omega arith)) well (λ i. Port (from_be_bytes-to_be_bytes_4 rate fits.0 i) (from_be_bytes-to_be_bytes_4 share fits.1 i) floor)
read_spelled place (Edit (AddLink name)) rest fits well =
    chosen _ _ place _ _ (le-ltb _ 2 (omega arith)) well (λ i. Edit (AddLink (from_be_bytes-to_be_bytes_2 name fits i)))
read_spelled place (Edit (AddFlow link flow payload cycle)) rest fits well =
    chosen _ _ place _ _ (le-ltb _ 8 (omega arith)) well (λ i. Edit (AddFlow (from_be_bytes-to_be_bytes_2 link fits.0 i) (from_be_bytes-to_be_bytes_2 flow fits.1 i) (from_be_bytes-to_be_bytes_2 payload fits.2 i) (from_be_bytes-to_be_bytes_2 cycle fits.3 i)))
read_spelled place (Edit (Amend flow payload cycle)) rest fits well =
    chosen _ _ place _ _ (le-ltb _ 6 (omega arith)) well (λ i. Edit (Amend (from_be_bytes-to_be_bytes_2 flow fits.0 i) (from_be_bytes-to_be_bytes_2 payload fits.1 i) (from_be_bytes-to_be_bytes_2 cycle fits.2 i)))
read_spelled place (Edit (Withdraw flow)) rest fits well =
    chosen _ _ place _ _ (le-ltb _ 2 (omega arith)) well (λ i. Edit (Withdraw (from_be_bytes-to_be_bytes_2 flow fits i)))
read_spelled place (Solve measure allowance) rest fits well =
    chosen _ _ place _ _ (le-ltb _ 5 (omega arith)) well (λ i. Solve measure (from_be_bytes-to_be_bytes_4 allowance fits.1 i))

-- where no fault is in the length, the rest of a script decides what is read
short_read : (script : List ℕ) (place : ℕ) (rest : List ℕ) → length script ≤ script_max → drop place script ≡ rest → reading script place ≡ read_rest place rest
short_read script place rest short is = cond-false (ltb script_max (length script)) (Err ScriptTooLong) (read_rest place (drop place script)) (le-ltb script_max (length script) short) ∙ ap (read_rest place) is

-- behind the first command, the others read as they are written
written_from : (pre : List ℕ) (cs : List Command) → AllByRecursion Fits cs → list_all (λ d. not (is_port d)) cs ≡ true → 0 < length pre → length (pre ++ flat_map spelled cs) ≤ script_max
    → Reads (pre ++ flat_map spelled cs) (length pre) cs None
written_from pre [] fits others some short = short_read (pre ++ []) (length pre) [] short (drop-append_seam pre [])
written_from pre (c ∷ cs) fits others some short =
    let parts = and_parts (not (is_port c)) (list_all (λ d. not (is_port d)) cs) others in
    let regrouped : (pre ++ spelled c) ++ flat_map spelled cs ≡ pre ++ (spelled c ++ flat_map spelled cs) = append_assoc pre (spelled c) (flat_map spelled cs) in
    let behind = written_from (pre ++ spelled c) cs fits.1 parts.1 (omega (arith, some, length-append pre (spelled c))) (omega (arith, short, ap length regrouped)) in (
      short_read (pre ++ (spelled c ++ flat_map spelled cs)) (length pre) (spelled c ++ flat_map spelled cs) short (drop-append_seam pre (spelled c ++ flat_map spelled cs))
          ∙ read_spelled (length pre) c (flat_map spelled cs) fits.0 (behind_first c (length pre) parts.0 some),
      subst (λ script. Reads script (length pre + length (spelled c)) cs None) regrouped (subst (λ place. Reads ((pre ++ spelled c) ++ flat_map spelled cs) place cs None) (length-append pre (spelled c)) behind),
    )

pub written_is_read : WrittenIsRead
written_is_read [] fits opens short = refl
written_is_read (c ∷ cs) fits opens short =
    let parts = and_parts (is_port c) (list_all (λ d. not (is_port d)) cs) opens in
    let from : 0 + length (spelled c) ≡ length (spelled c) = omega arith in (
      short_read (spelled c ++ flat_map spelled cs) 0 (spelled c ++ flat_map spelled cs) short refl ∙ read_spelled 0 c (flat_map spelled cs) fits.0 (at_first c parts.0),
      subst (λ place. Reads (spelled c ++ flat_map spelled cs) place cs None) (sym from) (written_from (spelled c) cs fits.1 parts.1 (omega (arith, spelled_some c)) short),
    )
