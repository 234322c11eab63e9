-- What stands after a list of calls, told from the accepted ones.
use Rattle.std.proofs.Common.{◌≡◌, ℕ, true, List, ◌++◌, Some, None, fold, map, arith, Option, sym, refl, ap, ◌∙◌}
use Rattle.std.specs.Option.{option_map}
use Rattle.std.proofs.ByRecursion.{All-weaker}
use Rattle.std.proofs.lemmas.List.{append-nil, append_assoc}
use Rattle.plan.specs.declared.call.Call.{Call}
use Rattle.plan.specs.declared.call.Call.TheVariants.{AddLink, AddFlow, Amend, Withdraw}
use Rattle.plan.specs.declared.flow.Flow.{Flow}
use Rattle.plan.specs.Edited.{flow_with}
use Rattle.plan.specs.Accepted.{accepted, link_added, links_added, adds, concerns, link_given, figures_given}
use Rattle.plan.specs.Laws.{LinksStand, figures, InOrderOfAdding, FiguresLastGiven, LinkLastGiven}
use Rattle.plan.specs.Ledger.{answer, effect, ledger}
use Rattle.plan.specs.Sound.{single, good}
use Rattle.plan.specs.Standing.{Standing, nothing, stands, flow_named}
use Rattle.plan.proofs.Every.{single_from_Up}
use Rattle.plan.proofs.Good.{facts_from_good}
use Rattle.plan.proofs.Keep.{keep}
use Rattle.plan.proofs.Latest.{latest, last_from_latest}
use Rattle.plan.proofs.Named.{flow_named-insert, flow_named-without, flow_named-amended, figures-amended_named}
use Rattle.plan.proofs.Runs.{by_accepted}

-- ---- names
always_good : (calls : List Call) → good (ledger calls) ≡ true
always_good calls = by_accepted (λ st _ end. good st ≡ true → good end ≡ true) (λ st h. h) (λ st end call acc e rest h. rest (keep st call h e)) nothing calls refl

pub single_links : (calls : List Call) → single (ledger calls).links ≡ true
single_links calls = (facts_from_good (ledger calls) (always_good calls)).apart

pub single_flows : (calls : List Call) → single (map (λ f. f.name) (ledger calls).flows) ≡ true
single_flows calls = single_from_Up (ledger calls).flows (facts_from_good (ledger calls) (always_good calls)).up

pub links_stand : (calls : List Call) → LinksStand calls
links_stand calls =
    let st = ledger calls in
    All-weaker _ (λ f. stands st f.link ≡ true) (λ f e. grind arith) st.flows (facts_from_good st (always_good calls)).each

-- ---- links
enters : (st : Standing) (call : Call) → (effect st call).links ≡ st.links ++ link_added call
enters st (AddLink name) = refl
enters st (AddFlow link flow payload cycle) = sym (append-nil st.links)
enters st (Amend flow payload cycle) = sym (append-nil st.links)
enters st (Withdraw flow) = sym (append-nil st.links)

pub in_order : (calls : List Call) → InOrderOfAdding calls
in_order calls =
    by_accepted (λ st acc end. end.links ≡ st.links ++ links_added acc) (λ st. sym (append-nil st.links))
    (λ st end call acc _ rest. rest ∙ ap (λ l. l ++ links_added acc) (enters st call) ∙ append_assoc st.links (link_added call) (links_added acc))
    nothing calls

-- ---- flows
-- the figures of the flow of that name
abbrev figures_in : ℕ → Standing → Option (ℕ × ℕ)
figures_in n st = option_map figures (flow_named n st.flows)

figures_change : (n : ℕ) (st : Standing) (call : Call) → 0 ≡ answer st call → figures_in n (effect st call) ≡ latest figures_given (concerns n) (figures_in n st) call
figures_change n st (AddLink name) h = refl
figures_change n st (AddFlow link flow payload cycle) h = grind (arith, flow_named-insert n (flow_with link flow payload cycle) st.flows)
figures_change n st (Amend flow payload cycle) h = figures-amended_named n flow payload cycle st.flows (grind arith)
figures_change n st (Withdraw flow) h = grind (arith, flow_named-without n flow st.flows)

pub figures_last : (calls : List Call) → FiguresLastGiven calls
unfolding FiguresLastGiven
figures_last calls n =
    by_accepted (λ st acc end. figures_in n end ≡ fold (latest figures_given (concerns n)) (figures_in n st) acc) (λ st. refl)
    (λ st end call acc h rest. rest ∙ ap (λ o. fold (latest figures_given (concerns n)) o acc) (figures_change n st call h)) nothing calls
    ∙ last_from_latest figures_given (concerns n) (accepted calls)

-- where a flow of that name stands, this is its link
abbrev Linked : ℕ → Standing → Option ℕ → Type 0
Linked n st o = (f : Flow) → flow_named n st.flows ≡ Some f → o ≡ Some f.link

link_change : (n : ℕ) (st : Standing) (call : Call) (o : Option ℕ) → Linked n st o → Linked n (effect st call) (latest link_given (adds n) o call)
link_change n st (AddLink name) o h f e = h f e
link_change n st (AddFlow link flow payload cycle) o h f e = grind (arith, h f, e, flow_named-insert n (flow_with link flow payload cycle) st.flows)
link_change n st (Amend flow payload cycle) o h f e = grind (arith, h, e, flow_named-amended n flow payload cycle st.flows)
link_change n st (Withdraw flow) o h f e = grind (arith, h f, e, flow_named-without n flow st.flows)

pub link_last : (calls : List Call) → LinkLastGiven calls
unfolding LinkLastGiven
link_last calls n f e =
    let linked = by_accepted (λ st acc end. (o : Option ℕ) → Linked n st o → Linked n end (fold (latest link_given (adds n)) o acc)) (λ st o h. h)
    (λ st end call acc _ rest o h. rest (latest link_given (adds n) o call) (link_change n st call o h)) nothing calls None (λ g q. absurd (grind arith)) in
    sym (last_from_latest link_given (adds n) (accepted calls)) ∙ linked f e

-- what holds of the standing after every list of calls
pub ruleset laws = (single_links, single_flows, links_stand, in_order, figures_last, link_last)
