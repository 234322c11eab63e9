-- What a planner holds after a list of calls.
use Rattle.std.proofs.Common.{◌≡◌, ℕ, ◌+◌, ◌<◌, ◌≤◌, List, [], ◌∷◌, map, fold, length, get_or, take, refl, sym, ap, ◌∙◌}
use Rattle.std.proofs.lemmas.List.{take_all}
use Rattle.std.proofs.lemmas.List.Sums.{fold_more}
use Rattle.plan.specs.History.{after_event}
use Rattle.plan.specs.Standing.{Standing}
use Rattle.planner.specs.declared.call.PlannerCall.{PlannerCall}
use Rattle.planner.specs.declared.call.PlannerCall.TheVariants as call
use Rattle.planner.specs.declared.call.SolveCall.{SolveCall}
use Rattle.planner.specs.declared.row.Row.{Row}
use Rattle.planner.specs.Ending.{Ending, ending}
use Rattle.planner.specs.Calls.{State, event, after_call}
use Rattle.planner.specs.Named.{Aim}

-- its plan is what the ledger says
pub standing_kept : {L M T : Type 0} (gaps : List ℕ) (aim : SolveCall L M → Aim T) (work_rows : ℕ) (h : State) (calls : List (PlannerCall L M)) → (fold (after_call gaps aim work_rows) h calls).standing ≡ fold after_event h.standing (map event calls)
standing_kept gaps aim work_rows h [] = refl
standing_kept gaps aim work_rows h (call.Edit edit ∷ calls) = standing_kept gaps aim work_rows (after_call gaps aim work_rows h (call.Edit edit)) calls
standing_kept gaps aim work_rows h (call.Solve asked ∷ calls) = standing_kept gaps aim work_rows (after_call gaps aim work_rows h (call.Solve asked)) calls

module _ {L M T : Type 0} (gaps : List ℕ) (aim : SolveCall L M → Aim T) (work_rows : ℕ) (calls : List (PlannerCall L M)) (start : State) where
  -- one call further, with a work table of as many rows
  pub held_further : (i rows : ℕ) (call : PlannerCall L M) (old new : State) → i < length calls → call ≡ get_or calls i call → rows ≡ work_rows → old ≡ fold (after_call gaps aim work_rows) start (take i calls) → new ≡ after_call gaps aim rows old call → new ≡ fold (after_call gaps aim work_rows) start (take (i + 1) calls)
  held_further i rows call old new within read same before is =
      is
      ∙ (λ j. after_call gaps aim (same j) (before j) call)
      ∙ sym (fold_more (after_call gaps aim work_rows) start calls i call within ∙ ap (after_call gaps aim work_rows (fold (after_call gaps aim work_rows) start (take i calls))) (sym read))

  -- at the last call, all are performed
  pub held_after_all : (i : ℕ) (h : State) → length calls ≤ i → h ≡ fold (after_call gaps aim work_rows) start (take i calls) → h ≡ fold (after_call gaps aim work_rows) start calls
  held_after_all i h all is = is ∙ ap (fold (after_call gaps aim work_rows) start) (take_all i calls all)

  -- and then the plan is what the ledger says
  pub ledger_after_all : (st : Standing) (old : List Row) → record { standing = st; rows = old } ≡ fold (after_call gaps aim work_rows) start calls → st ≡ fold after_event start.standing (map event calls)
  ledger_after_all st old is = ap (λ h. h.standing) is ∙ standing_kept gaps aim work_rows start calls

  -- a solve that comes then ends as one of what is held
  pub ends_after_all : (a : Aim T) (allowance rows : ℕ) (e : Ending T) (st : Standing) (old : List Row) → record { standing = st; rows = old } ≡ fold (after_call gaps aim work_rows) start calls → rows ≡ work_rows → e ≡ ending gaps a st allowance rows old → e ≡ ending gaps a (fold after_event start.standing (map event calls)) allowance work_rows (fold (after_call gaps aim work_rows) start calls).rows
  ends_after_all a allowance rows e st old is same ends = ends ∙ (λ j. ending gaps a (ledger_after_all st old is j) allowance (same j) (is j).rows)
