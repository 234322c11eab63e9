-- A run, step by step: what it still writes, and that it ends.
use Rattle.std.proofs.Common.{◌≡◌, ℕ, ◌+◌, ◌-◌, ◌<◌, ◌≤◌, zero, suc, true, false, cond, eqb, List, [], ◌∷◌, ◌++◌, length, take, drop, fold, length-append, Some, None, Option, Ok, Err, refl, ap, sym, subst, ◌∙◌, append_assoc, inl, inr, arith}
use Rattle.std.specs.Prelude.{Result}
use Rattle.std.specs.List.{flat_map}
use Rattle.std.specs.Option.{option_map}
use Rattle.std.specs.Io.KnownBytes.{Appends}
use Rattle.std.proofs.KnownBytes.{Appends-nil, Appends-trans}
use Rattle.std.proofs.lemmas.Bool.{cases_Bool, cond-true, cond-false, both_ways, eqb-true, not-false}
use Rattle.std.proofs.lemmas.List.{append-nil}
use Rattle.std.proofs.lemmas.Grind.{flat_map-append}
use Rattle.std.proofs.lemmas.List.Sums.{fold-append}
use Rattle.std.proofs.lemmas.Option.{none-some, same_Some}
use Rattle.std.proofs.Math.Seq.{take-append_seam}
use Rattle.limits.specs.Port.{PortLayers, layers_of}
use Rattle.limits.specs.PortFigures.{port_answer}
use Rattle.plan.specs.History.{Edit as Edited, Solve as Solved, after_event, ledger_of}
use Rattle.plan.specs.Standing.{Standing, nothing}
use Rattle.script.specs.declared.command.Command.{Command}
use Rattle.script.specs.declared.command.Command.TheVariants.{Port, Edit, Solve}
use Rattle.script.specs.declared.command.PlacedCommand.{PlacedCommand}
use Rattle.script.specs.declared.reader_fault.ReaderFault.{ReaderFault}
use Rattle.script.specs.declared.kind.Kind.{Kind}
use Rattle.script.specs.declared.kind.Kind.TheVariants as kinds
use Rattle.script.specs.Command.{operand_bytes, spelled, command, is_port}
use Rattle.script.specs.Lines.{told_lines, written}
use Rattle.script.specs.Reading.{well_placed, reading}
use Rattle.script.specs.ReaderFault.{number, detail}
use Rattle.script.specs.Script.{Reads, step_lines, lines_of_steps, HasPerformed, Advances, GoesFurther, run_lines, lines_after, events, limit_of, told_after}
use Rattle.script.specs.State.{State, start, fault_command, ends, limit_after, standing_after, read_told, next_told, read_state, next_state}
use Rattle.script.specs.Told.{Told, told, refused}
use Rattle.script.proofs.Placed.{kinded}
use Rattle.script.proofs.Spelled.{spelled_some, as_placed}

-- the lines of what is left to a run that has not ended
abbrev going : ℕ → Option PortLayers → Standing → List Command → Option ReaderFault → List ℕ
going commands limit st [] None = []
going commands limit st [] (Some fault) = told_lines (fault_command commands fault, refused (number fault) (detail fault))
going commands limit st (c ∷ cs) fault =
    told_lines (commands + 1, told limit st c) ++ cond (ends c) [] (going (commands + 1) (limit_after limit c) (standing_after st c) cs fault)

-- the lines of what is left to a run
abbrev lines_left : State → List Command → Option ReaderFault → List ℕ
lines_left s cs fault = cond s.ended [] (going s.commands s.limit s.standing cs fault)

-- of the script so much has been written, and what is left makes up the rest
pub record Going (script : List ℕ) (s : State) (old new : Option (List ℕ)) : Type 0 where
  pub same : s.script ≡ script
  pub sofar : List ℕ
  pub appended : Appends old new sofar
  pub rest : (cs : List Command) (fault : Option ReaderFault) → Reads script 0 cs fault
      → (ds : List Command) × (last : Option ReaderFault) × (s.ended ≡ false → Reads script s.place ds last) × (sofar ++ lines_left s ds last ≡ run_lines cs fault)

-- how many steps are left at most
abbrev pub steps_left : State → ℕ
steps_left s = cond s.ended 0 (suc (length s.script - s.place))

-- ---- what a run is told is what the commands before make of the next one
not_port_kind : (place : ℕ) (kind : Kind) (operands : List ℕ) → well_placed kind place ≡ true → 0 < place → is_port (command kind operands) ≡ false
not_port_kind place kinds.Port operands well lt = absurd (omega (arith, lt, eqb-true place 0 well))
not_port_kind place kinds.AddLink operands well lt = refl
not_port_kind place kinds.AddFlow operands well lt = refl
not_port_kind place kinds.Amend operands well lt = refl
not_port_kind place kinds.Withdraw operands well lt = refl
not_port_kind place kinds.Solve operands well lt = refl

-- behind the beginning there are no figures of a port
not_port_behind : (script : List ℕ) (place : ℕ) (c : Command) → reading script place ≡ Ok (Some (record { place = place; command = c })) → 0 < place → is_port c ≡ false
not_port_behind script place c e lt =
    let k = kinded script place (record { place = place; command = c }) e in
    subst (λ r. is_port r.command ≡ false) (sym k.is) (not_port_kind place k.kind (take (operand_bytes k.kind) k.rest) k.placed lt)

limit_further : (before : List Command) (c : Command) → ends c ≡ false → (0 < length before → is_port c ≡ false) → limit_after (limit_of before) c ≡ limit_of (before ++ c ∷ [])
limit_further [] (Port rate share floor) goes first = cond-true (eqb (port_answer rate share floor) 0) (Some (layers_of rate share floor)) None (not-false (eqb (port_answer rate share floor) 0) goes)
limit_further [] (Edit call) goes first = refl
limit_further [] (Solve measure allowance) goes first = refl
limit_further (d ∷ before) (Port rate share floor) goes first = absurd (both_ways true (first (omega arith)) refl)
limit_further (Port rate share floor ∷ before) (Edit call) goes first = refl
limit_further (Edit other ∷ before) (Edit call) goes first = refl
limit_further (Solve kind most ∷ before) (Edit call) goes first = refl
limit_further (Port rate share floor ∷ before) (Solve measure allowance) goes first = refl
limit_further (Edit other ∷ before) (Solve measure allowance) goes first = refl
limit_further (Solve kind most ∷ before) (Solve measure allowance) goes first = refl

events_append : (before cs : List Command) → events (before ++ cs) ≡ events before ++ events cs
events_append [] cs = refl
events_append (Port rate share floor ∷ before) cs = events_append before cs
events_append (Edit call ∷ before) cs = ap (λ es. Edited call ∷ es) (events_append before cs)
events_append (Solve measure allowance ∷ before) cs = ap (λ es. Solved ∷ es) (events_append before cs)

one_event : (st : Standing) (c : Command) → fold after_event st (events (c ∷ [])) ≡ standing_after st c
one_event st (Port rate share floor) = refl
one_event st (Edit call) = refl
one_event st (Solve measure allowance) = refl

standing_further : (before : List Command) (c : Command) → standing_after (ledger_of (events before)) c ≡ ledger_of (events (before ++ c ∷ []))
standing_further before c =
    sym (ap ledger_of (events_append before (c ∷ [])) ∙ fold-append after_event nothing (events before) (events (c ∷ [])) ∙ one_event (ledger_of (events before)) c)

-- the lines of what is left, by the commands before
pub going_is : (script : List ℕ) (place : ℕ) (before cs : List Command) (fault : Option ReaderFault) → Reads script place cs fault → length before ≤ place
    → going (length before) (limit_of before) (ledger_of (events before)) cs fault ≡ lines_after before cs fault
going_is script place before [] None r le = refl
going_is script place before [] (Some fault) r le = refl
going_is script place before (c ∷ cs) fault r le =
    let long : length before + 1 ≡ length (before ++ c ∷ []) = sym (length-append before (c ∷ [])) in
    let others = going_is script (place + length (spelled c)) (before ++ c ∷ []) cs fault r.1 (omega (arith, le, long, spelled_some c)) in
    ap (λ rest. told_lines (length before + 1, told_after before c) ++ rest)
    (elim (cases_Bool (ends c)) [
      | inl yes' ↦ cond-true (ends c) [] _ yes' ∙ sym (cond-true (ends c) [] (lines_after (before ++ c ∷ []) cs fault) yes')
      | inr no' ↦
          ap (cond (ends c) [])
          ((λ i. going (long i) (limit_further before c no' (λ some. not_port_behind script place c r.0 (omega (arith, some, le))) i) (standing_further before c i) cs fault) ∙ others)
    ])

-- ---- a step
-- what a step tells, and what is left then
abbrev Stepped : State → ℕ × Told → State → List Command → Option ReaderFault → Type 0
Stepped s t new ds last =
    (es : List Command) × (end : Option ReaderFault) × (new.ended ≡ false → Reads s.script new.place es end)
    × (going s.commands s.limit s.standing ds last ≡ told_lines t ++ lines_left new es end)

read_step : (s : State) (t : ℕ × Told) (ds : List Command) (last : Option ReaderFault) → Reads s.script s.place ds last → read_told s (reading s.script s.place) ≡ Some t → Stepped s t (read_state s (reading s.script s.place)) ds last
read_step s t [] None r tells = absurd (none-some t (sym (ap (read_told s) r) ∙ tells))
read_step s t [] (Some fault) r tells =
    subst (λ read. Stepped s t (read_state s read) [] (Some fault)) (sym r)
    ([], Some fault, (λ e. absurd (both_ways true e refl)), ap told_lines (same_Some _ t (sym (ap (read_told s) r) ∙ tells)) ∙ sym (append-nil (told_lines t)))
read_step s t (c ∷ ds) last r tells =
    subst (λ read. Stepped s t (read_state s read) (c ∷ ds) last) (sym r.0)
    (ds, last, (λ _. r.1), ap (λ x. told_lines x ++ cond (ends c) [] (going (s.commands + 1) (limit_after s.limit c) (standing_after s.standing c) ds last)) (same_Some _ t (sym (ap (read_told s) r.0) ∙ tells)))

read_done : (s : State) (ds : List Command) (last : Option ReaderFault) → Reads s.script s.place ds last → read_told s (reading s.script s.place) ≡ None → going s.commands s.limit s.standing ds last ≡ []
read_done s [] None r tells = refl
read_done s [] (Some fault) r tells = absurd (none-some _ (sym tells ∙ ap (read_told s) r))
read_done s (c ∷ ds) last r tells = absurd (none-some _ (sym tells ∙ ap (read_told s) r.0))

-- ---- the loop
map_some : {X Y : Type 0} (f : X → Y) (o : Option X) (y : Y) → Some y ≡ option_map f o → (x : X) × (o ≡ Some x) × (y ≡ f x)
map_some f None y e = absurd (none-some y (sym e))
map_some f (Some x) y e = (x, refl, same_Some y (f x) e)

map_none : {X Y : Type 0} (f : X → Y) (o : Option X) → None ≡ option_map f o → o ≡ None
map_none f None e = refl
map_none f (Some x) e = absurd (none-some (f x) e)

-- a run that has read nothing
pub going_from_start : (script : List ℕ) (s : State) (old : Option (List ℕ)) → s ≡ start script → Going script s old old
going_from_start script s old is =
    subst (λ s. Going script s old old) (sym is) (record {
      same = refl;
      sofar = [];
      appended = Appends-nil old;
      rest = λ cs fault r. (cs, fault, (λ _. r), going_is script 0 [] cs fault r (omega arith));
    })

going_state : (s : State) → s.ended ≡ false → next_state s ≡ read_state s (reading s.script s.place)
going_state s no' = cond-false s.ended s (read_state s (reading s.script s.place)) no'

going_told : (s : State) → s.ended ≡ false → next_told s ≡ read_told s (reading s.script s.place)
going_told s no' = cond-false s.ended None (read_told s (reading s.script s.place)) no'

-- a step that tells something
one_step : (s : State) (t : ℕ × Told) → next_told s ≡ Some t → (ds : List Command) (last : Option ReaderFault) → (s.ended ≡ false → Reads s.script s.place ds last)
    → (es : List Command) × (end : Option ReaderFault) × ((next_state s).ended ≡ false → Reads s.script (next_state s).place es end) × (lines_left s ds last ≡ told_lines t ++ lines_left (next_state s) es end)
one_step s t tells ds last r =
    elim (cases_Bool s.ended) [
      | inl yes' ↦ absurd (none-some t (sym (cond-true s.ended None (read_told s (reading s.script s.place)) yes') ∙ tells))
      | inr no' ↦
          let stepped = read_step s t ds last (r no') (sym (going_told s no') ∙ tells) in
          let left : lines_left s ds last ≡ going s.commands s.limit s.standing ds last = cond-false s.ended [] _ no' in
          subst (λ new. (es : List Command) × (end : Option ReaderFault) × (new.ended ≡ false → Reads s.script new.place es end) × (lines_left s ds last ≡ told_lines t ++ lines_left new es end))
          (sym (going_state s no'))
          (stepped.0, stepped.1, stepped.2, left ∙ stepped.3)
    ]

nothing_left : (s : State) → next_told s ≡ None → (ds : List Command) (last : Option ReaderFault) → (s.ended ≡ false → Reads s.script s.place ds last) → lines_left s ds last ≡ []
nothing_left s tells ds last r =
    elim (cases_Bool s.ended) [
      | inl yes' ↦ cond-true s.ended [] _ yes'
      | inr no' ↦ cond-false s.ended [] _ no' ∙ read_done s ds last (r no') (sym (going_told s no') ∙ tells)
    ]

-- the script stays
same_script : (s : State) (r : Result (Option PlacedCommand) ReaderFault) → (read_state s r).script ≡ s.script
same_script s (Ok (Some read)) = refl
same_script s (Ok None) = refl
same_script s (Err fault) = refl

script_stays : (s : State) → (next_state s).script ≡ s.script
script_stays s =
    elim (cases_Bool s.ended) [
      | inl yes' ↦ ap (λ s. s.script) (cond-true s.ended s (read_state s (reading s.script s.place)) yes')
      | inr no' ↦ ap (λ s. s.script) (going_state s no') ∙ same_script s (reading s.script s.place)
    ]

-- one step further, where the lines of the buffer are written
pub going_further : (script : List ℕ) (s new_s : State) (old mid new : Option (List ℕ)) (length_told : ℕ) (before after : List ℕ) → Going script s old mid
    → Some length_told ≡ option_map (λ told. length (told_lines told)) (next_told s) → after ≡ written (option_map told_lines (next_told s)) before → new_s ≡ next_state s
    → Appends mid new (take length_told after) → Going script new_s old new
going_further script s new_s old mid new long before after g told_long bytes is more =
    let t = map_some (λ told. length (told_lines told)) (next_told s) long told_long in
    let lines = told_lines t.0 in
    let holds : after ≡ lines ++ drop (length lines) before = bytes ∙ ap (λ o. written (option_map told_lines o) before) t.1 in
    let taken : take long after ≡ lines = (λ i. take (t.2 i) (holds i)) ∙ take-append_seam lines (drop (length lines) before) in
    subst (λ s. Going script s old new) (sym is) (record {
      same = script_stays s ∙ g.same;
      sofar = g.sofar ++ lines;
      appended = Appends-trans old mid new g.sofar lines g.appended (subst (Appends mid new) taken more);
      rest = λ cs fault r.
          let left = g.rest cs fault r in
          let next = one_step s t.0 t.1 left.0 left.1 (λ e. subst (λ script. Reads script s.place left.0 left.1) (sym g.same) (left.2 e)) in (
            next.0,
            next.1,
            (λ e. subst (λ script. Reads script (next_state s).place next.0 next.1) g.same (next.2 e)),
            append_assoc g.sofar lines (lines_left (next_state s) next.0 next.1) ∙ ap (λ l. g.sofar ++ l) (sym next.3) ∙ left.3,
          );
    })

-- where nothing is told, all is written
pub gone : (script : List ℕ) (s : State) (old new : Option (List ℕ)) → Going script s old new → None ≡ option_map (λ told. length (told_lines told)) (next_told s)
    → (cs : List Command) (fault : Option ReaderFault) → Reads script 0 cs fault → Appends old new (run_lines cs fault)
gone script s old new g told_none cs fault r =
    let left = g.rest cs fault r in
    let none = map_none (λ told. length (told_lines told)) (next_told s) told_none in
    let reads : s.ended ≡ false → Reads s.script s.place left.0 left.1 = λ e. subst (λ script. Reads script s.place left.0 left.1) (sym g.same) (left.2 e) in
    subst (Appends old new) (sym (append-nil g.sofar) ∙ ap (λ l. g.sofar ++ l) (sym (nothing_left s none left.0 left.1 reads)) ∙ left.3) g.appended

-- ---- all steps of a run
ended_silent : (n : ℕ) (s : State) → s.ended ≡ true → lines_of_steps n s ≡ []
ended_silent zero s e = refl
ended_silent (suc n) s e = ap (λ t. step_lines t (lines_of_steps n (next_state s))) (cond-true s.ended None (read_told s (reading s.script s.place)) e)

steps_go : (n : ℕ) (s : State) (cs : List Command) (fault : Option ReaderFault) → s.ended ≡ false → Reads s.script s.place cs fault → length cs < n
    → lines_of_steps n s ≡ going s.commands s.limit s.standing cs fault
steps_go zero s cs fault e r lt = absurd (omega (arith, lt))
steps_go (suc n) s [] None e r lt = ap (λ t. step_lines t (lines_of_steps n (next_state s))) (going_told s e ∙ ap (read_told s) r)
steps_go (suc n) s [] (Some fault) e r lt =
    ap (λ t. step_lines t (lines_of_steps n (next_state s))) (going_told s e ∙ ap (read_told s) r)
    ∙ ap (λ ls. told_lines (fault_command s.commands fault, refused (number fault) (detail fault)) ++ ls) (ended_silent n (next_state s) (ap (λ s. s.ended) (going_state s e ∙ ap (read_state s) r)))
    ∙ append-nil _
steps_go (suc n) s (c ∷ cs) fault e r lt =
    let new : State = read_state s (Ok (Some (record { place = s.place; command = c }))) in
    let is : next_state s ≡ new = going_state s e ∙ ap (read_state s) r.0 in
    let rest : lines_of_steps n new ≡ cond (ends c) [] (going (s.commands + 1) (limit_after s.limit c) (standing_after s.standing c) cs fault) =
    elim (cases_Bool (ends c)) [
      | inl yes' ↦ ended_silent n new yes' ∙ sym (cond-true (ends c) [] _ yes')
      | inr no' ↦ steps_go n new cs fault no' r.1 (omega (arith, lt)) ∙ sym (cond-false (ends c) [] _ no')
    ] in
    ap (λ t. step_lines t (lines_of_steps n (next_state s))) (going_told s e ∙ ap (read_told s) r.0)
    ∙ ap (λ ls. told_lines (s.commands + 1, told s.limit s.standing c) ++ ls) (ap (lines_of_steps n) is ∙ rest)

-- a step more than there are commands, or more of them, have the lines of the run
pub steps_tell : (script : List ℕ) (cs : List Command) (fault : Option ReaderFault) → Reads script 0 cs fault → (n : ℕ) → length cs < n → lines_of_steps n (start script) ≡ run_lines cs fault
steps_tell script cs fault r n lt = steps_go n (start script) cs fault refl r lt ∙ going_is script 0 [] cs fault r (omega arith)

-- ---- the commands before, at each step
long_enough : (cs : List Command) → length cs ≤ length (flat_map spelled cs)
long_enough [] = omega arith
long_enough (c ∷ cs) = omega (arith, spelled_some c, long_enough cs, length-append (spelled c) (flat_map spelled cs))

bytes_further : (before : List Command) (c : Command) → length (flat_map spelled before) + length (spelled c) ≡ length (flat_map spelled (before ++ c ∷ []))
bytes_further before c = sym (ap length (flat_map-append spelled before (c ∷ []) ∙ ap (λ bs. flat_map spelled before ++ bs) (append-nil (spelled c))) ∙ length-append (flat_map spelled before) (spelled c))

read_further : (s : State) (before : List Command) → HasPerformed before s → (r : Result (Option PlacedCommand) ReaderFault) → reading s.script s.place ≡ r → Advances before r (read_told s r) (read_state s r)
read_further s before h (Ok (Some read)) e =
    let at = as_placed s.script s.place read e in
    let first : 0 < length before → is_port read.command ≡ false = λ some. not_port_behind s.script s.place read.command at (omega (arith, some, h.place, long_enough before)) in (
      (λ i. Some (h.commands i + 1, told (h.limit i) (h.standing i) read.command)),
      (λ goes. record {
        place = ap (λ n. n + length (spelled read.command)) h.place ∙ bytes_further before read.command;
        commands = ap (λ n. n + 1) h.commands ∙ sym (length-append before (read.command ∷ []));
        limit = ap (λ l. limit_after l read.command) h.limit ∙ limit_further before read.command goes first;
        standing = ap (λ st. standing_after st read.command) h.standing ∙ standing_further before read.command;
        goes_on = goes;
      }),
      (λ ended. ended),
    )
read_further s before h (Ok None) e = (refl, h)
read_further s before h (Err fault) e = ((λ i. Some (fault_command (h.commands i) fault, refused (number fault) (detail fault))), refl)

-- whatever commands were performed, a run goes one further
pub goes_further : (s new : State) (tells : Option (ℕ × Told)) → tells ≡ next_told s → new ≡ next_state s → GoesFurther s tells new
goes_further s new tells tell is before h =
    let step = read_further s before h (reading s.script s.place) refl in
    let told_is : tells ≡ read_told s (reading s.script s.place) = tell ∙ going_told s h.goes_on in
    let new_is : new ≡ read_state s (reading s.script s.place) = is ∙ going_state s h.goes_on in
    subst (λ t. Advances before (reading s.script s.place) t new) (sym told_is) (subst (Advances before (reading s.script s.place) (read_told s (reading s.script s.place))) (sym new_is) step)
