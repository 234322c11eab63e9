-- What is promised of a solve, in the terms of choices.
use Rattle.std.specs.Prelude.{◌≡◌, ℕ, Bool, true, false, not, ◌&&◌, ◌||◌, ◌↔◌, IsTrue, is_none, List, length, take, Some, ◌==◌, nat_le, nat_lt}
use Rattle.limits.specs.declared.pair.Pair.{Pair}
use Rattle.plan.specs.Queries.{first_without_flow}
use Rattle.plan.specs.Standing.{Standing}
use Rattle.planner.specs.declared.row.Row.{Row}
use Rattle.planner.specs.declared.solved.Solved.{Solved}
use Rattle.planner.specs.Choice.{Choice, link_candidates, first_without_candidate}
use Rattle.planner.specs.Ending.{Ending, report_of, rows_of}
use Rattle.planner.specs.Named.{Aim, visits, named}
use Rattle.planner.specs.Setting.{pairs}
use Rattle.planner.specs.SolveFault.{unmeetable}

-- the solve is well posed: every link has a flow, and there are an answer row for each link and more work rows than links
abbrev pub well_posed : Standing → ℕ → ℕ → Bool
well_posed st answer_rows work_rows =
    is_none (first_without_flow st) && (nat_le (length st.links) answer_rows && nat_lt (length st.links) work_rows)

-- the port is called unmeetable
abbrev pub called_unmeetable : {T : Type 0} → Ending T → Bool
called_unmeetable e = unmeetable e.refusal.0

-- the allowance is said to be spent
abbrev pub called_spent : {T : Type 0} → Ending T → Bool
called_spent e = e.refusal.0 == 17

-- every link has a candidate
abbrev pub all_have_candidates : List ℕ → Standing → Bool
all_have_candidates gaps st = is_none (first_without_candidate gaps st)

-- the visits of the port
abbrev pub port_visits : {T : Type 0} → List ℕ → Aim T → Standing → ℕ
port_visits gaps a st = visits a (link_candidates gaps st)

-- no choice is within the limit
abbrev pub NoChoiceWithin : {T : Type 0} → List ℕ → Aim T → Standing → Type 0
NoChoiceWithin gaps a st = (s : List Pair) → Choice gaps st s → a.within s ≡ false

-- a choice within the limit that has this total, and no choice within totals less
pub record LeastChoice {T : Type 0} (gaps : List ℕ) (a : Aim T) (st : Standing) (s : List Pair) (total : T) : Type 0 where
  pub choice : Choice gaps st s
  pub within : a.within s ≡ true
  pub totals : a.total s ≡ total
  pub least : (t : List Pair) → Choice gaps st t → a.within t ≡ true → a.at_most total (a.total t) ≡ true

-- the rows of the answer table that belong to the links
abbrev pub link_rows : Standing → List Row → List Row
link_rows st rows = take (length st.links) rows

-- the promise of a solve
pub record Promised {T : Type 0} (gaps : List ℕ) (a : Aim T) (st : Standing) (allowance answer_rows work_rows : ℕ) (e : Ending T) : Type 0 where
  -- where the visits fit the allowance or some link has no candidate, the port is called unmeetable exactly when no choice is
  -- within the limit
  pub unmeetable :
      well_posed st answer_rows work_rows ≡ true
      → (nat_le (port_visits gaps a st) allowance || not (all_have_candidates gaps st)) ≡ true
      → IsTrue (called_unmeetable e) ↔ NoChoiceWithin gaps a st
  -- a setting that is returned is a choice within the limit, of the total that is reported, and no choice within totals less
  pub least : (r : Solved T) → e.report ≡ Some r → LeastChoice gaps a st (pairs (link_rows st e.rows)) r.total
  -- where every link has a candidate, it is said to be spent exactly when the visits exceed the allowance
  pub spent :
      well_posed st answer_rows work_rows ≡ true
      → all_have_candidates gaps st ≡ true
      → called_spent e ≡ nat_lt allowance (port_visits gaps a st)
  -- a count that is returned is that of the visits
  pub counted : (r : Solved T) → e.report ≡ Some r → r.visits ≡ port_visits gaps a st
  -- where it is neither called unmeetable nor spent, its total and the visits are reported, and the rows are the named setting
  pub setting :
      well_posed st answer_rows work_rows ≡ true
      → all_have_candidates gaps st ≡ true
      → called_unmeetable e ≡ false
      → called_spent e ≡ false
      → (s : List Pair)
      × (named a (link_candidates gaps st) ≡ Some s)
      × (e.report ≡ Some (report_of a (link_candidates gaps st) s))
      × (link_rows st e.rows ≡ rows_of st.links s)
