-- What a script reads as is what it spells.
use Rattle.std.proofs.Common.{◌≡◌, ℕ, ◌+◌, ◌<◌, ◌≤◌, suc, Bool, true, false, cond, ltb, List, [], ◌∷◌, ◌++◌, length, take, drop, get_or, Some, None, Option, Ok, Err, refl, ap, sym, subst, ◌∙◌, append_assoc, inl, inr, arith}
use Rattle.std.specs.Prelude.{slice_index}
use Rattle.std.specs.Int.{w16, w32, to_be_bytes}
use Rattle.std.specs.List.{flat_map}
use Rattle.std.proofs.lemmas.Bool.{cases_lt, ltb-false}
use Rattle.std.proofs.lemmas.Bool.Decides.{nat_tests}
use Rattle.std.proofs.lemmas.List.{length-take, length-take-le, length-drop, get_or-drop, get_or-take, get_or_past, take_all, take-append-drop, drop-drop}
use Rattle.std.proofs.lemmas.Option.{none-some}
use Rattle.std.proofs.lemmas.Nat.{be_bytes_2, be_bytes_4}
use Rattle.std.proofs.Math.Seq.{take-add, drop-append_seam}
use Rattle.script.specs.declared.command.Command.{Command}
use Rattle.script.specs.declared.command.PlacedCommand.{PlacedCommand}
use Rattle.script.specs.declared.kind.Kind.{Kind}
use Rattle.script.specs.declared.kind.Kind.TheVariants.{Port, AddLink, AddFlow, Amend, Withdraw, Solve}
use Rattle.script.specs.declared.reader_fault.ReaderFault.{ReaderFault}
use Rattle.script.specs.declared.reader_fault.ReaderFault.TheVariants.{ScriptTooLong, OperandsCut, PortMisplaced}
use Rattle.script.specs.Command.{kind_of, operand_bytes, number_at, command, spelled}
use Rattle.script.specs.Reading.{script_max, well_placed, read_kind, read_rest, reading}
use Rattle.script.specs.Script.{Reads, ReadIsWritten}
use Rattle.script.proofs.Placed.{Read, kinded}

-- each is a byte
abbrev IsBytes : List ℕ → Type 0
IsBytes bytes = (i : ℕ) → get_or bytes i 0 < 256

IsBytes-drop : (n : ℕ) (bytes : List ℕ) → IsBytes bytes → IsBytes (drop n bytes)
IsBytes-drop n bytes h i = rw get_or-drop (h (n + i))

IsBytes-take : (n : ℕ) (bytes : List ℕ) → IsBytes bytes → IsBytes (take n bytes)
IsBytes-take n bytes h i =
    elim (cases_lt i n) [
      | inl lt ↦ rw (get_or-take n bytes i 0 lt) (h i)
      | inr le ↦ rw (get_or_past (take n bytes) i 0 (omega (arith, length-take n bytes))) (omega arith)
    ]

-- ---- the byte of a kind
abbrev letter : Kind → ℕ
letter Port = 80
letter AddLink = 76
letter AddFlow = 70
letter Amend = 65
letter Withdraw = 87
letter Solve = 83

of_letter : (byte : ℕ) (kind : Kind) → kind_of byte ≡ Some kind → byte ≡ letter kind
of_letter byte kind e = grind (arith, nat_tests)

-- ---- the operands
first_one : (d : List ℕ) → 1 ≤ length d → slice_index d 0 ∷ [] ≡ take 1 d
first_one [] le = absurd (omega (arith, le))
first_one (x ∷ d) le = refl

module _ (ops : List ℕ) (bytes : IsBytes ops) where
  two : (at : ℕ) → at + 2 ≤ length ops → to_be_bytes w16 (number_at w16 at ops) ≡ take 2 (drop at ops)
  two at le = be_bytes_2 (take 2 (drop at ops)) _ (omega (arith, le, length-take 2 (drop at ops), length-drop at ops)) (IsBytes-take 2 (drop at ops) (IsBytes-drop at ops bytes)) refl

  four : (at : ℕ) → at + 4 ≤ length ops → to_be_bytes w32 (number_at w32 at ops) ≡ take 4 (drop at ops)
  four at le = be_bytes_4 (take 4 (drop at ops)) _ (omega (arith, le, length-take 4 (drop at ops), length-drop at ops)) (IsBytes-take 4 (drop at ops) (IsBytes-drop at ops bytes)) refl

  join : (n m : ℕ) → take n ops ++ take m (drop n ops) ≡ take (n + m) ops
  join n m = sym (take-add n m ops)

  one : (at : ℕ) → at + 1 ≤ length ops → slice_index ops at ∷ [] ≡ take 1 (drop at ops)
  one at le =
      let same : get_or (drop at ops) 0 0 ≡ get_or ops (at + 0) 0 = get_or-drop at ops 0 0 in
      let here : at + 0 ≡ at = omega arith in
      ap (λ x. x ∷ []) (sym (same ∙ ap (λ k. get_or ops k 0) here)) ∙ first_one (drop at ops) (omega (arith, le, length-drop at ops))

  spelled_back : (kind : Kind) → length ops ≡ operand_bytes kind → spelled (command kind ops) ≡ letter kind ∷ ops
  spelled_back Port long =
      (λ i. 80 ∷ ((four 0 (omega (arith, long)) i ++ four 4 (omega (arith, long)) i) ++ one 8 (omega (arith, long)) i))
      ∙ ap (λ x. 80 ∷ (x ++ take 1 (drop 8 ops))) (join 4 4) ∙ ap (λ x. 80 ∷ x) (join 8 1 ∙ take_all 9 ops (omega (arith, long)))
  spelled_back AddLink long = ap (λ bs. 76 ∷ bs) (two 0 (omega (arith, long)) ∙ take_all 2 ops (omega (arith, long)))
  spelled_back AddFlow long =
      (λ i. 70 ∷ (((two 0 (omega (arith, long)) i ++ two 2 (omega (arith, long)) i) ++ two 4 (omega (arith, long)) i) ++ two 6 (omega (arith, long)) i))
      ∙ ap (λ x. 70 ∷ ((x ++ take 2 (drop 4 ops)) ++ take 2 (drop 6 ops))) (join 2 2) ∙ ap (λ x. 70 ∷ (x ++ take 2 (drop 6 ops))) (join 4 2)
      ∙ ap (λ x. 70 ∷ x) (join 6 2 ∙ take_all 8 ops (omega (arith, long)))
  spelled_back Amend long =
      (λ i. 65 ∷ ((two 0 (omega (arith, long)) i ++ two 2 (omega (arith, long)) i) ++ two 4 (omega (arith, long)) i))
      ∙ ap (λ x. 65 ∷ (x ++ take 2 (drop 4 ops))) (join 2 2) ∙ ap (λ x. 65 ∷ x) (join 4 2 ∙ take_all 6 ops (omega (arith, long)))
  spelled_back Withdraw long = ap (λ bs. 87 ∷ bs) (two 0 (omega (arith, long)) ∙ take_all 2 ops (omega (arith, long)))
  spelled_back Solve long =
      (λ i. 83 ∷ (one 0 (omega (arith, long)) i ++ four 1 (omega (arith, long)) i)) ∙ ap (λ x. 83 ∷ x) (join 1 4 ∙ take_all 5 ops (omega (arith, long)))

-- ---- a command, and the script from its place on
spelled_at : (script : List ℕ) (place : ℕ) (c : Command) → IsBytes script → reading script place ≡ Ok (Some (record { place = place; command = c }))
    → drop place script ≡ spelled c ++ drop (place + length (spelled c)) script
spelled_at script place c bytes e =
    let k = kinded script place (record { place = place; command = c }) e in
    let n = operand_bytes k.kind in
    let ops = take n k.rest in
    let enough : n ≤ length k.rest = ltb-false (length k.rest) n k.whole in
    let all : IsBytes (k.byte ∷ k.rest) = subst IsBytes k.begun (IsBytes-drop place script bytes) in
    let ops_bytes : IsBytes ops = IsBytes-take n k.rest (λ i. all (suc i)) in
    let is : spelled c ≡ k.byte ∷ ops = ap (λ r. spelled r.command) k.is ∙ spelled_back ops ops_bytes k.kind (length-take-le n k.rest enough) ∙ ap (λ b. b ∷ ops) (sym (of_letter k.byte k.kind k.tells)) in
    let whole : drop place script ≡ spelled c ++ drop n k.rest = k.begun ∙ ap (λ x. k.byte ∷ x) (sym (take-append-drop n k.rest)) ∙ ap (λ x. x ++ drop n k.rest) (sym is) in
    let behind : drop (place + length (spelled c)) script ≡ drop n k.rest = sym (drop-drop (length (spelled c)) place script) ∙ ap (drop (length (spelled c))) whole ∙ drop-append_seam (spelled c) (drop n k.rest) in
    whole ∙ ap (λ x. spelled c ++ x) (sym behind)

never_read : (cut well : Bool) (place : ℕ) (read : PlacedCommand) → cond {A = Read} cut (Err (OperandsCut place)) (cond well (Ok (Some read)) (Err (PortMisplaced place))) ≡ Ok None → ⊥
never_read true well place read e = absurd cc
never_read false true place read e = absurd cc
never_read false false place read e = absurd cc

never : (kind : Option Kind) (place : ℕ) (rest : List ℕ) → read_kind place rest kind ≡ Ok None → ⊥
never None place rest e = absurd cc
never (Some kind) place rest e = never_read (ltb (length rest) (operand_bytes kind)) (well_placed kind place) place _ e

none_read : (long : Bool) (place : ℕ) (rest : List ℕ) → cond {A = Read} long (Err ScriptTooLong) (read_rest place rest) ≡ Ok None → rest ≡ []
none_read true place rest e = absurd cc
none_read false place [] e = refl
none_read false place (byte ∷ rest) e = absurd (never (kind_of byte) place rest e)

from_place : (script : List ℕ) (place : ℕ) (cs : List Command) (fault : Option ReaderFault) → IsBytes script → Reads script place cs fault
    → (rest : List ℕ) × (drop place script ≡ flat_map spelled cs ++ rest) × (fault ≡ None → rest ≡ [])
from_place script place [] None bytes r = ([], none_read (ltb script_max (length script)) place (drop place script) r, (λ _. refl))
from_place script place [] (Some fault) bytes r = (drop place script, refl, (λ e. absurd (none-some fault (sym e))))
from_place script place (c ∷ cs) fault bytes r =
    let others = from_place script (place + length (spelled c)) cs fault bytes r.1 in
    (others.0, spelled_at script place c bytes r.0 ∙ ap (λ x. spelled c ++ x) others.1 ∙ sym (append_assoc (spelled c) (flat_map spelled cs) others.0), others.2)

pub read_is_written : (script : List ℕ) → IsBytes script → ReadIsWritten script
read_is_written script bytes cs fault r = from_place script 0 cs fault bytes r
