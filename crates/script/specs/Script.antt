-- A whole script: the commands that it reads as, what is told of each by those before it, and the lines of its run.
use Rattle.std.specs.Prelude.{◌≡◌, ℕ, zero, suc, ◌+◌, ◌<◌, ◌≤◌, ◌^◌, Bool, true, false, ◌&&◌, not, if◌then◌else◌, List, [], ◌∷◌, ◌++◌, length, Some, None, Option, Ok, Err, Result, nat_le, nat_lt}
use Rattle.std.specs.List.{flat_map, list_all, AllByRecursion}
use Rattle.limits.specs.Gaps.{eight_gaps}
use Rattle.limits.specs.Port.{PortLayers, layers_of}
use Rattle.plan.specs.declared.call.Call.TheVariants as calls
use Rattle.plan.specs.History.{Event, Edit as Edited, Solve as Solved, ledger_of}
use Rattle.plan.specs.Standing.{Standing}
use Rattle.planner.specs.declared.row.Row.{Row}
use Rattle.planner.specs.Ending.{ending}
use Rattle.planner.specs.Named.{Aim}
use Rattle.planner.specs.Promise.{Promised}
use Rattle.script.specs.declared.command.Command.{Command}
use Rattle.script.specs.declared.command.Command.TheVariants.{Port, Edit, Solve}
use Rattle.script.specs.declared.command.PlacedCommand.{PlacedCommand}
use Rattle.script.specs.declared.reader_fault.ReaderFault.{ReaderFault}
use Rattle.script.specs.Command.{spelled, is_port}
use Rattle.script.specs.Lines.{told_lines}
use Rattle.script.specs.Reading.{script_max, reading}
use Rattle.script.specs.ReaderFault.{number, detail}
use Rattle.script.specs.State.{State, next_told, next_state, fault_command, ends}
use Rattle.script.specs.Told.{Told, told, refused, of_ending, solve_told, reserve_aim, burst_aim}

-- what is read behind the last command: the end of the script, or the fault that refuses the rest of it
abbrev pub last_read : Option ReaderFault → Result (Option PlacedCommand) ReaderFault
last_read None = Ok None
last_read (Some fault) = Err fault

-- from a place on the script reads as these commands, one behind the other, and then ends or is refused
abbrev pub Reads : List ℕ → ℕ → List Command → Option ReaderFault → Type 0
Reads script place [] fault = reading script place ≡ last_read fault
Reads script place (c ∷ cs) fault =
    (reading script place ≡ Ok (Some (record { place = place; command = c }))) × Reads script (place + length (spelled c)) cs fault

-- the script reads as some commands, and as no others
abbrev pub ReadsAsOne : List ℕ → Type 0
ReadsAsOne script =
    (cs : List Command) × (fault : Option ReaderFault) × Reads script 0 cs fault
    × ((ds : List Command) (other : Option ReaderFault) → Reads script 0 ds other → (ds ≡ cs) × (other ≡ fault))

-- what the commands do to the plan, as the ledger is fed it
abbrev pub events : List Command → List Event
events [] = []
events (Port rate share floor ∷ cs) = events cs
events (Edit call ∷ cs) = Edited call ∷ events cs
events (Solve measure allowance ∷ cs) = Solved ∷ events cs

-- the limit that the commands have made: that of the port whose figures come first. Where these are refused the run has ended.
abbrev pub limit_of : List Command → Option PortLayers
limit_of [] = None
limit_of (Port rate share floor ∷ cs) = Some (layers_of rate share floor)
limit_of (Edit call ∷ cs) = None
limit_of (Solve measure allowance ∷ cs) = None

-- what is told of a command after those before it: by the port's limit, and by what the ledger says stands
abbrev pub told_after : List Command → Command → Told
told_after before c = told (limit_of before) (ledger_of (events before)) c

-- a run that goes on has performed these commands: it stands behind their bytes, has counted them, has the limit that they made,
-- and in its plan stands what the ledger says of them
pub record HasPerformed (before : List Command) (s : State) : Type 0 where
  pub place : s.place ≡ length (flat_map spelled before)
  pub commands : s.commands ≡ length before
  pub limit : s.limit ≡ limit_of before
  pub standing : s.standing ≡ ledger_of (events before)
  pub goes_on : s.ended ≡ false

-- the run goes one further: what is told of a command goes by those before it, and then the run has performed that too, or has
-- ended; a refusal of the reader is told under its number, which is 0 for a script that is too long, and ends the run; at the end
-- of the script nothing is told, and the run stays
abbrev pub Advances : List Command → Result (Option PlacedCommand) ReaderFault → Option (ℕ × Told) → State → Type 0
Advances before (Ok (Some read)) tells new =
    (tells ≡ Some (length before + 1, told_after before read.command))
    × (ends read.command ≡ false → HasPerformed (before ++ read.command ∷ []) new) × (ends read.command ≡ true → new.ended ≡ true)
Advances before (Ok None) tells new = (tells ≡ None) × HasPerformed before new
Advances before (Err fault) tells new =
    (tells ≡ Some (fault_command (length before) fault, refused (number fault) (detail fault))) × (new.ended ≡ true)

-- whatever commands the run has performed, it goes one further
abbrev pub GoesFurther : State → Option (ℕ × Told) → State → Type 0
GoesFurther old tells new = (before : List Command) → HasPerformed before old → Advances before (reading old.script old.place) tells new

-- the lines of what is read behind the last command
abbrev pub last_lines : List Command → Option ReaderFault → List ℕ
last_lines before None = []
last_lines before (Some fault) = told_lines (fault_command (length before) fault, refused (number fault) (detail fault))

-- the lines of a run from some commands on: those of each command under its number, up to the figures of a port that are refused
abbrev pub lines_after : List Command → List Command → Option ReaderFault → List ℕ
lines_after before [] fault = last_lines before fault
lines_after before (c ∷ cs) fault =
    told_lines (length before + 1, told_after before c) ++ (if ends c then [] else lines_after (before ++ c ∷ []) cs fault)

-- the lines of a run of a script that reads so
abbrev pub run_lines : List Command → Option ReaderFault → List ℕ
run_lines cs fault = lines_after [] cs fault

-- the lines of a step that tells this, and of the steps behind it; a step that tells nothing is the last
abbrev pub step_lines : Option (ℕ × Told) → List ℕ → List ℕ
step_lines None rest = []
step_lines (Some tells) rest = told_lines tells ++ rest

-- the lines of the first n steps of a run from a state on
abbrev pub lines_of_steps : ℕ → State → List ℕ
lines_of_steps zero s = []
lines_of_steps (suc n) s = step_lines (next_told s) (lines_of_steps n (next_state s))

-- the operands of the command fit their widths
abbrev pub Fits : Command → Type 0
Fits (Port rate share floor) = (rate < 2 ^ 32) × (share < 2 ^ 32) × (floor < 2 ^ 8)
Fits (Edit (calls.AddLink name)) = name < 2 ^ 16
Fits (Edit (calls.AddFlow link flow payload cycle)) = (link < 2 ^ 16) × (flow < 2 ^ 16) × (payload < 2 ^ 16) × (cycle < 2 ^ 16)
Fits (Edit (calls.Amend flow payload cycle)) = (flow < 2 ^ 16) × (payload < 2 ^ 16) × (cycle < 2 ^ 16)
Fits (Edit (calls.Withdraw flow)) = flow < 2 ^ 16
Fits (Solve measure allowance) = (measure < 2 ^ 8) × (allowance < 2 ^ 32)

-- the first command, if there is one, is the figures of the port, and no other is
abbrev pub opens_with_port : List Command → Bool
opens_with_port [] = true
opens_with_port (c ∷ cs) = is_port c && list_all (λ d. not (is_port d)) cs

-- commands that open with a port, fit their widths and spell no more bytes than a script may have: their bytes read as those
-- commands, and then end
abbrev pub WrittenIsRead : Type 0
WrittenIsRead =
    (cs : List Command) → AllByRecursion Fits cs → opens_with_port cs ≡ true → length (flat_map spelled cs) ≤ script_max
    → Reads (flat_map spelled cs) 0 cs None

-- what a script reads as is what it spells: its bytes are those of the commands, one behind the other, and then those that were not
-- read, of which there are none where the script ends
abbrev pub ReadIsWritten : List ℕ → Type 0
ReadIsWritten script =
    (cs : List Command) (fault : Option ReaderFault) → Reads script 0 cs fault
    → (rest : List ℕ) × (script ≡ flat_map spelled cs ++ rest) × (fault ≡ None → rest ≡ [])

-- a solve with whatever tables that are long enough tells the same, and keeps the promise of a solve
pub record SolvePromised {T : Type 0} (aim : Aim T) (st : Standing) (allowance : ℕ) : Type 0 where
  pub same : (rows : List Row) (work_rows : ℕ) → nat_le (length st.links) (length rows) ≡ true → nat_lt (length st.links) work_rows ≡ true
      → of_ending st (ending eight_gaps aim st allowance work_rows rows) ≡ solve_told aim st allowance
  pub promised : (rows : List Row) (work_rows : ℕ) → Promised eight_gaps aim st allowance (length rows) work_rows (ending eight_gaps aim st allowance work_rows rows)

-- whatever the ledger says stands, a solve by the reserve and one by the burst keep their promise
abbrev pub SolvesPromised : Type 0
SolvesPromised =
    (limit : PortLayers) (done : List Event) (allowance : ℕ)
    → SolvePromised (reserve_aim limit) (ledger_of done) allowance × SolvePromised (burst_aim limit) (ledger_of done) allowance
