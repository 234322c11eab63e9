-- Laws of the ledger: what holds of it after every list of calls.
use Rattle.std.specs.Prelude.{◌≡◌, ℕ, true, List, map, Some, ◌≢◌}
use Rattle.std.specs.Option.{option_map}
use Rattle.std.specs.List.{AllByRecursion}
use Rattle.plan.specs.declared.call.Call.{Call}
use Rattle.plan.specs.declared.flow.Flow.{Flow}
use Rattle.plan.specs.Accepted.{accepted, links_added, adds, concerns, link_given, figures_given, last_given}
use Rattle.plan.specs.Ledger.{answer, after, ledger}
use Rattle.plan.specs.Sound.{single}
use Rattle.plan.specs.Standing.{Standing, stands, flow_named}

-- the payload and the cycle that a flow has
abbrev pub figures : Flow → ℕ × ℕ
figures f = (f.payload, f.cycle)

-- a refused call leaves the standing as it was
abbrev pub RefusalChangesNothing : Type 0
RefusalChangesNothing = (st : Standing) (call : Call) → (answer st call ≢ 0) → after st call ≡ st

-- no two links share a name, and no two flows do
abbrev pub SingleNames : List Call → Type 0
SingleNames calls =
    (single (ledger calls).links ≡ true) × (single (map (λ f. f.name) (ledger calls).flows) ≡ true)

-- the link of every flow stands
abbrev pub LinksStand : List Call → Type 0
LinksStand calls = AllByRecursion (λ f. stands (ledger calls) f.link ≡ true) (ledger calls).flows

-- the links stand in the order in which they were added
abbrev pub InOrderOfAdding : List Call → Type 0
InOrderOfAdding calls = (ledger calls).links ≡ links_added (accepted calls)

-- a flow has the payload and the cycle that the last accepted call that named it gave; no flow of a name stands where that
-- call withdrew it, or where no accepted call named it
unfoldable pub FiguresLastGiven : List Call → Type 0
FiguresLastGiven calls =
    (name : ℕ) →
    option_map figures (flow_named name (ledger calls).flows) ≡ last_given figures_given (concerns name) (accepted calls)

-- a flow is under the link that the last accepted call that added it put it under
unfoldable pub LinkLastGiven : List Call → Type 0
LinkLastGiven calls =
    (name : ℕ) (f : Flow) → flow_named name (ledger calls).flows ≡ Some f →
    last_given link_given (adds name) (accepted calls) ≡ Some f.link
