-- An accepted call keeps what the standing of every plan keeps.
use Rattle.std.proofs.Common.{◌≡◌, ℕ, ◌<◌, ◌≤◌, true, false, eqb, [], ◌∷◌, length, sym, subst, le_trans, arith}
use Rattle.std.proofs.ByRecursion.{All-weaker, All-push, all_kept_by}
use Rattle.std.proofs.lemmas.List.{length_push}
use Rattle.std.proofs.lemmas.Bool.Decides.{nat_tests}
use Rattle.std.proofs.lemmas.List.Folds.{list_any-append}
use Rattle.limits.specs.Range.{within}
use Rattle.plan.specs.declared.flow.Flow.{Flow}
use Rattle.plan.specs.Bounds.{max_links, max_flows, max_payload, max_cycle, max_common_cycle}
use Rattle.plan.specs.Cycle.{common}
use Rattle.plan.specs.declared.call.Call.{Call}
use Rattle.plan.specs.declared.call.Call.TheVariants.{AddLink, AddFlow, Amend, Withdraw}
use Rattle.plan.specs.Edited.{flow_with, insert, other_name, without, amended}
use Rattle.plan.specs.Ledger.{answer, effect}
use Rattle.plan.specs.Sound.{proper, good}
use Rattle.plan.specs.Standing.{Standing, stands, named, link_of_flow, of_link, flows_of}
use Rattle.plan.proofs.Amended.{amended_anew}
use Rattle.plan.proofs.Every.{single_push}
use Rattle.plan.proofs.Found.{found}
use Rattle.plan.proofs.Good.{Good, facts_from_good, good_from_facts, all_in_range, link_stands, no_flows}
use Rattle.plan.proofs.Inserted.{length-insert, all_insert, Up-insert, of_other_link}
use Rattle.plan.proofs.Removed.{length_without, length-without_found, not_named_without, Up-without, common-without}

module _ (st : Standing) (g : Good st) where
  keep_link : (n : ℕ) → length st.links < max_links → stands st n ≡ false → Good (effect st (AddLink n))
  keep_link n room new = record {
    few_links = omega (arith, length_push st.links n);
    few_flows = g.few_flows;
    apart = single_push st.links n g.apart new;
    up = g.up;
    each = All-weaker _ (λ f. proper (effect st (AddLink n)) f ≡ true) (λ f e.
        grind (arith, nat_tests, list_any-append (λ k. eqb k f.link) st.links (n ∷ []))) st.flows g.each;
    short = All-push (λ k. common (flows_of st k) ≤ max_common_cycle) st.links n g.short (rw (no_flows st n g new) (omega arith));
  }

  keep_flow : (f : Flow) → length st.flows < max_flows → proper st f ≡ true → named st.flows f.name ≡ false → common (of_link f.link (insert f st.flows)) ≤ max_common_cycle → Good (effect st (AddFlow f.link f.name f.payload f.cycle))
  keep_flow f room p new h = record {
    few_links = g.few_links;
    few_flows = omega (arith, length-insert f st.flows);
    apart = g.apart;
    up = Up-insert f st.flows g.up new;
    each = all_insert (λ x. proper st x ≡ true) f st.flows p g.each;
    short = All-weaker _ (λ k. common (of_link k (insert f st.flows)) ≤ max_common_cycle) (λ k e. grind (arith, nat_tests, h, of_other_link k f st.flows)) st.links g.short;
  }

  keep_without : (n : ℕ) → Good (effect st (Withdraw n))
  keep_without n = record {
    few_links = g.few_links;
    few_flows = le_trans (length_without n st.flows) g.few_flows;
    apart = g.apart;
    up = Up-without n st.flows g.up;
    each = all_kept_by (other_name n) (λ f. proper st f ≡ true) st.flows g.each;
    short = All-weaker _ (λ k. common (of_link k (without n st.flows)) ≤ max_common_cycle) (λ k e. le_trans (common-without k n st.flows (all_in_range st g)) e) st.links g.short;
  }

-- an amended flow is struck and entered anew
keep_amended : (st : Standing) → Good st → (n p c : ℕ) → named st.flows n ≡ true → within 1 max_payload p ≡ true → within 1 max_cycle c ≡ true → common (of_link (link_of_flow n st.flows) (amended n p c st.flows)) ≤ max_common_cycle → Good (effect st (Amend n p c))
keep_amended st g n p c h in-payload in-cycle short =
    let fs = st.flows in
    let at = found n fs g.up h in
    let anew = amended_anew p c at g.up in
    let room : length (without n fs) < max_flows = omega (arith, length-without_found at, g.few_flows) in
    let link = link_stands st n g h in
    subst Good (λ i. record { links = st.links; flows = sym anew i })
    (keep_flow (effect st (Withdraw n)) (keep_without st g n) (flow_with (link_of_flow n fs) n p c) room (grind (arith, link, in-payload, in-cycle)) (not_named_without n fs)
    (subst (λ l. common (of_link (link_of_flow n fs) l) ≤ max_common_cycle) anew short))

keep_facts : (st : Standing) (call : Call) → Good st → 0 ≡ answer st call → Good (effect st call)
keep_facts st (AddLink name) g h = keep_link st g name (grind (arith, nat_tests)) (grind arith)
keep_facts st (AddFlow link name payload cycle) g h =
    keep_flow st g (flow_with link name payload cycle) (grind (arith, nat_tests)) (grind arith) (grind arith) (grind (arith, nat_tests))
keep_facts st (Amend flow payload cycle) g h =
    keep_amended st g flow payload cycle (grind arith) (grind arith) (grind arith) (grind (arith, nat_tests))
keep_facts st (Withdraw flow) g h = keep_without st g flow

pub keep : (st : Standing) (call : Call) → good st ≡ true → 0 ≡ answer st call → good (effect st call) ≡ true
keep st call h e = good_from_facts (effect st call) (keep_facts st call (facts_from_good st h) e)
