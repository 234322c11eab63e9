-- A history: the calls made of a planner, one after the other, and what stands after them.
use Rattle.std.specs.Prelude.{◌≡◌, List, [], ◌∷◌, ◌++◌, fold}
use Rattle.plan.specs.declared.call.Call.{Call}
use Rattle.plan.specs.Ledger.{after}
use Rattle.plan.specs.Standing.{Standing, nothing}

-- a call that edits the plan, with its arguments; or a solve, of which the ledger is fed nothing more, since a solve changes
-- nothing whatever it is handed
pub data Event : Type 0 where
  Edit : Call → Event
  Solve : Event

-- what stands after an event: an edit may be refused, and a solve leaves what stood
abbrev pub after_event : Standing → Event → Standing
after_event st (Edit call) = after st call
after_event st Solve = st

-- what stands after a history that begins with nothing
abbrev pub ledger_of : List Event → Standing
ledger_of events = fold after_event nothing events

-- whatever history led to what stood before the event, it leads with the event to what stands after it
abbrev pub OneFurther : Standing → Event → Standing → Type 0
OneFurther old event new = (events : List Event) → old ≡ ledger_of events → new ≡ ledger_of (events ++ event ∷ [])
