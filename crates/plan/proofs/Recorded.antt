-- What stands after an accepted call: its tables are sound again, and the flow that the call names has its place.
use Rattle.std.proofs.Common.{◌≡◌, ℕ, ◌<◌, true, List, length, set, get_or, sym, ◌∙◌, subst, arith}
use Rattle.std.specs.List.{remove, refill}
use Rattle.std.proofs.lemmas.List.{length-set}
use Rattle.arrayvec.proofs.ArrayVecLemmas.{items-with_items}
use Rattle.plan.specs.declared.Plan.{Plan}
use Rattle.plan.specs.declared.call.Call.{Call}
use Rattle.plan.specs.declared.call.Call.TheVariants.{Withdraw}
use Rattle.plan.specs.declared.flow.Flow.{Flow}
use Rattle.plan.specs.declared.tables.Tables.{Tables}
use Rattle.plan.specs.Edited.{flow_with, without, amended}
use Rattle.plan.specs.Held.{standing}
use Rattle.plan.specs.Ledger.{answer, effect}
use Rattle.plan.specs.Position.{position_of}
use Rattle.plan.specs.Sound.{recorded, rising, good, Sound}
use Rattle.plan.specs.Standing.{named}
use Rattle.plan.proofs.Amended.{amended_at}
use Rattle.plan.proofs.Empty.{nil}
use Rattle.plan.proofs.Every.{Up_from_rising}
use Rattle.plan.proofs.Found.{found, found_within}
use Rattle.plan.proofs.Keep.{keep}
use Rattle.plan.proofs.Removed.{without_at}

-- tables that record what an accepted call leaves are sound
pub still_sound : (plan : Plan) (call : Call) (tables : Tables) → 0 ≡ answer (standing plan) call → recorded tables ≡ effect (standing plan) call → Sound tables
still_sound plan call tables accepted is = subst (λ s. good s ≡ true) (sym is) (keep (standing plan) call plan.sound accepted)

-- the flow of a name stands at the position of that name
module _ (n : ℕ) (fs : List Flow) (up : rising fs ≡ true) (stands : named fs n ≡ true) where
  pub position_within : position_of n fs < length fs
  position_within = found_within (found n fs (Up_from_rising fs up) stands)

  pub removed_there : remove fs (position_of n fs) ≡ without n fs
  removed_there = without_at (found n fs (Up_from_rising fs up) stands)

  pub amended_there : (p c : ℕ) → refill (length fs) fs (set fs (position_of n fs) (flow_with (get_or fs (position_of n fs) nil).link (get_or fs (position_of n fs) nil).name p c)) ≡ amended n p c fs
  amended_there p c = items-with_items (record { items = fs }) _ (length-set fs (position_of n fs) _) ∙ amended_at p c (found n fs (Up_from_rising fs up) stands)

-- an accepted withdrawal removes that flow
pub withdrawn : (plan : Plan) (n : ℕ) {at : ℕ} {flows : List Flow} → 0 ≡ answer (standing plan) (Withdraw n) → at ≡ position_of n plan.tables.flows.items → flows ≡ remove plan.tables.flows.items at → flows ≡ without n plan.tables.flows.items
withdrawn plan n accepted is e = grind (arith, is, e, plan.sound, removed_there n plan.tables.flows.items)
