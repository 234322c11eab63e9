-- What is known of a command that was read: which kind it is of, and where it stands.
use Rattle.std.proofs.Common.{◌≡◌, ℕ, Bool, true, false, ◌||◌, cond, eqb, ltb, List, [], ◌∷◌, length, take, drop, Some, None, Option, Ok, Err, refl, sym, subst, inl, inr, arith}
use Rattle.std.specs.Prelude.{is_some, Result}
use Rattle.std.proofs.lemmas.Bool.{or_cases, eqb-true, ltb-true}
use Rattle.limits.specs.Port.{PortLayers}
use Rattle.script.specs.declared.command.PlacedCommand.{PlacedCommand}
use Rattle.script.specs.declared.kind.Kind.{Kind}
use Rattle.script.specs.declared.kind.Kind.TheVariants.{Port, AddLink, AddFlow, Amend, Withdraw, Solve}
use Rattle.script.specs.declared.reader_fault.ReaderFault.{ReaderFault}
use Rattle.script.specs.declared.reader_fault.ReaderFault.TheVariants.{ScriptTooLong, OperandsCut, PortMisplaced}
use Rattle.script.specs.Command.{kind_of, operand_bytes, command, is_port}
use Rattle.script.specs.Reading.{script_max, well_placed, read_kind, read_rest, reading}
use Rattle.script.specs.State.{limit_after}

-- what a reader may tell
abbrev pub Read : Type 0
Read = Result (Option PlacedCommand) ReaderFault

-- a command that was read at a place is that of a kind which is well placed there: of the byte at the place, and of the operands
-- behind it, which are all there
pub record Kinded (begins : List ℕ) (place : ℕ) (read : PlacedCommand) : Type 0 where
  pub kind : Kind
  pub byte : ℕ
  pub rest : List ℕ
  pub begun : begins ≡ byte ∷ rest
  pub tells : kind_of byte ≡ Some kind
  pub whole : ltb (length rest) (operand_bytes kind) ≡ false
  pub placed : well_placed kind place ≡ true
  pub is : read ≡ record { place = place; command = command kind (take (operand_bytes kind) rest) }

module _ (place byte : ℕ) (rest : List ℕ) (read : PlacedCommand) where
  chosen : (kind : Kind) (cut placed : Bool) → kind_of byte ≡ Some kind → ltb (length rest) (operand_bytes kind) ≡ cut → well_placed kind place ≡ placed
      → cond {A = Read} cut (Err (OperandsCut place)) (cond placed (Ok (Some (record { place = place; command = command kind (take (operand_bytes kind) rest) }))) (Err (PortMisplaced place))) ≡ Ok (Some read) → Kinded (byte ∷ rest) place read
  chosen kind true placed tells whole is e = absurd cc
  chosen kind false false tells whole is e = absurd cc
  chosen kind false true tells whole is e = record { kind = kind; byte = byte; rest = rest; begun = refl; tells = tells; whole = whole; placed = is; is = cc }

  of_kind : (kind : Option Kind) → kind_of byte ≡ kind → read_kind place rest kind ≡ Ok (Some read) → Kinded (byte ∷ rest) place read
  of_kind None tells e = absurd cc
  of_kind (Some kind) tells e = chosen kind (ltb (length rest) (operand_bytes kind)) (well_placed kind place) tells refl refl e

of_rest : (place : ℕ) (rest : List ℕ) (read : PlacedCommand) → read_rest place rest ≡ Ok (Some read) → Kinded rest place read
of_rest place [] read e = absurd cc
of_rest place (byte ∷ rest) read e = of_kind place byte rest read (kind_of byte) refl e

of_script : (long : Bool) (place : ℕ) (rest : List ℕ) (read : PlacedCommand) → cond long (Err ScriptTooLong) (read_rest place rest) ≡ Ok (Some read) → Kinded rest place read
of_script true place rest read e = absurd cc
of_script false place rest read e = of_rest place rest read e

pub kinded : (script : List ℕ) (place : ℕ) (read : PlacedCommand) → reading script place ≡ Ok (Some read) → Kinded (drop place script) place read
kinded script place read e = of_script (ltb script_max (length script)) place (drop place script) read e

-- where there is a limit behind the first command, there still is one behind a command that is no figures of a port
still : (limit : Option PortLayers) (place : ℕ) → (eqb place 0 || is_some limit) ≡ true → ltb 0 place ≡ true → is_some limit ≡ true
still limit place h lt =
    elim (or_cases (eqb place 0) (is_some limit) h) [
      | inl first ↦ absurd (omega (arith, eqb-true place 0 first, ltb-true 0 place lt))
      | inr some ↦ some
    ]

opened_by : (limit : Option PortLayers) (place : ℕ) (kind : Kind) (operands : List ℕ) → well_placed kind place ≡ true → (eqb place 0 || is_some limit) ≡ true
    → (is_port (command kind operands) || is_some (limit_after limit (command kind operands))) ≡ true
opened_by limit place Port operands w h = refl
opened_by limit place AddLink operands w h = still limit place h w
opened_by limit place AddFlow operands w h = still limit place h w
opened_by limit place Amend operands w h = still limit place h w
opened_by limit place Withdraw operands w h = still limit place h w
opened_by limit place Solve operands w h = still limit place h w

or_weaker : (a b c : Bool) → (a || c) ≡ true → (a || (b || c)) ≡ true
or_weaker true b c h = refl
or_weaker false true c h = refl
or_weaker false false c h = h

pub opened_after : (script : List ℕ) (place next : ℕ) (limit : Option PortLayers) (read : PlacedCommand) → reading script place ≡ Ok (Some read) → (eqb place 0 || is_some limit) ≡ true
    → (is_port read.command || (eqb next 0 || is_some (limit_after limit read.command))) ≡ true
opened_after script place next limit read e h =
    let k = kinded script place read e in
    or_weaker (is_port read.command) (eqb next 0) (is_some (limit_after limit read.command))
    (subst (λ r. (is_port r.command || is_some (limit_after limit r.command)) ≡ true) (sym k.is) (opened_by limit place k.kind (take (operand_bytes k.kind) k.rest) k.placed h))
