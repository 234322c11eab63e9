-- How a solve ends.
use Rattle.std.specs.Prelude.{ℕ, if◌then◌else◌, List, [], ◌∷◌, ◌++◌, map, length, drop, Some, None, Option, ◌==◌, nat_le, nat_lt, Result}
use Rattle.std.specs.List.{list_any, zip}
use Rattle.std.specs.Option.{option_map}
use Rattle.std.specs.Result.{result_ok}
use Rattle.limits.specs.declared.pair.Pair.{Pair}
use Rattle.plan.specs.Queries.{first_without_flow}
use Rattle.plan.specs.Standing.{Standing}
use Rattle.planner.specs.declared.row.Row.{Row}
use Rattle.planner.specs.declared.solve_fault.SolveFault.{SolveFault}
use Rattle.planner.specs.declared.solved.Solved.{Solved}
use Rattle.planner.specs.Asked.{Asked, refusal}
use Rattle.planner.specs.Choice.{link_candidates, first_without_candidate}
use Rattle.planner.specs.Named.{Aim, visits, named}
use Rattle.planner.specs.Selections.{complete}
use Rattle.planner.specs.Setting.{plainly}
use Rattle.planner.specs.SolveFault.{told}

-- how a solve ends: the number and the detail of its refusal, or 0 and 0; what it reports where it is not refused; and the
-- answer table
pub record Ending (T : Type 0) : Type 0 where
  pub refusal : ℕ × ℕ
  pub report : Option (Solved T)
  pub rows : List Row

-- the ending that a result tells, with the answer table as it is then
abbrev pub ended : {T : Type 0} → Result (Solved T) SolveFault → List Row → Ending T
ended r rows = record { refusal = told r; report = result_ok r; rows = rows }

-- what a solve is asked: has every link a flow, has the answer table a row for each link, has the work table more rows than there
-- are links, has every link a candidate, are the visits at most the allowance, and is some complete selection within the limit?
abbrev pub solve_questions : {T : Type 0} → List ℕ → Aim T → Standing → ℕ → ℕ → ℕ → Asked
solve_questions gaps a st allowance answer_rows work_rows =
    (13, first_without_flow st)
    ∷ (14, plainly (nat_le (length st.links) answer_rows))
    ∷ (15, plainly (nat_lt (length st.links) work_rows))
    ∷ (16, first_without_candidate gaps st)
    ∷ (17, plainly (nat_le (visits a (link_candidates gaps st)) allowance))
    ∷ (18, plainly (list_any a.within (complete (link_candidates gaps st))))
    ∷ []

-- what is reported of a setting
abbrev pub report_of : {T : Type 0} → Aim T → List (List Pair) → List Pair → Solved T
report_of a cs s = record { total = a.total s; visits = visits a cs }

-- the rows of a setting: each link with its pair
abbrev pub rows_of : List ℕ → List Pair → List Row
rows_of links s = map (λ given. record { link = given.0; pair = given.1 }) (zip links s)

-- the answer table with a setting, from the first row on, and with the further rows as they were; without one, as it was
abbrev pub filled : List ℕ → Option (List Pair) → List Row → List Row
filled links None old = old
filled links (Some s) old = rows_of links s ++ drop (length links) old

-- the ending with a refusal, or with none and a setting
abbrev pub ending_with : {T : Type 0} → Aim T → List (List Pair) → List ℕ → List Row → ℕ × ℕ → Option (List Pair) → Ending T
ending_with a cs links old r s = record { refusal = r; report = option_map (report_of a cs) s; rows = filled links s old }

-- the ending of a solve: the first question that is answered no refuses it, and else it has the named setting
abbrev pub ending : {T : Type 0} → List ℕ → Aim T → Standing → ℕ → ℕ → List Row → Ending T
ending gaps a st allowance work_rows old =
    let cs = link_candidates gaps st in
    let r = refusal (solve_questions gaps a st allowance (length old) work_rows) in
    ending_with a cs st.links old r (if r.0 == 0 then named a cs else None)
