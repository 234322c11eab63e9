-- What the standing of every plan keeps, as facts, and what they tell of the flows of a link.
use Rattle.std.proofs.Common.{◌≡◌, ℕ, ◌≤◌, true, false, List, [], ◌∷◌, length, filter, take, Bool, refl, ⊎_elim, arith}
use Rattle.std.specs.List.{AllByRecursion}
use Rattle.std.proofs.ByRecursion.{All-weaker, all_kept_by, All-get_or}
use Rattle.std.proofs.lemmas.List.{length-take-le}
use Rattle.std.proofs.lemmas.List.Sums.{length-filter, count_by-le-length}
use Rattle.std.proofs.lemmas.Bool.{leb-true, le-leb, cases_Bool}
use Rattle.std.proofs.lemmas.Bool.Decides.{nat_tests}
use Rattle.limits.specs.Among.{all_among}
use Rattle.limits.specs.Every.{all_from_every, every_from_all}
use Rattle.plan.specs.declared.flow.Flow.{Flow}
use Rattle.plan.specs.Bounds.{max_links, max_flows, max_common_cycle}
use Rattle.plan.specs.Cycle.{common}
use Rattle.plan.specs.Regular.{InRange, AllInRange, Regular}
use Rattle.plan.specs.Sound.{single, proper, good}
use Rattle.plan.specs.Standing.{Standing, stands, named, link_of_flow, is_of, of_link, flows_of, short_cycle}
use Rattle.plan.proofs.Empty.{nil}
use Rattle.plan.proofs.Every.{Up, Up_from_rising, rising_from_Up}
use Rattle.plan.proofs.Found.{found, found_within, found_flow}
use Rattle.plan.proofs.Removed.{filter_again}

pub record Good (st : Standing) : Type 0 where
  pub few_links : length st.links ≤ max_links
  pub few_flows : length st.flows ≤ max_flows
  pub apart : single st.links ≡ true
  pub up : Up st.flows
  pub each : AllByRecursion (λ f. proper st f ≡ true) st.flows
  pub short : AllByRecursion (λ k. common (flows_of st k) ≤ max_common_cycle) st.links

pub facts_from_good : (st : Standing) → good st ≡ true → Good st
facts_from_good st h = record {
  few_links = grind (arith, nat_tests);
  few_flows = grind (arith, nat_tests);
  apart = grind arith;
  up = Up_from_rising st.flows (grind arith);
  each = all_from_every (proper st) st.flows (grind arith);
  short = All-weaker _ (λ k. common (flows_of st k) ≤ max_common_cycle) (λ k e. leb-true _ _ e) st.links (all_from_every (short_cycle st) st.links (grind arith));
}

pub good_from_facts : (st : Standing) → Good st → good st ≡ true
good_from_facts st g =
    let rises = rising_from_Up st.flows g.up in
    let each = every_from_all (proper st) st.flows g.each in
    let short = every_from_all (short_cycle st) st.links (All-weaker _ (λ k. short_cycle st k ≡ true) (λ k e. le-leb _ _ e) st.links g.short) in
    grind (arith, nat_tests)

in_range : (st : Standing) (f : Flow) → proper st f ≡ true → InRange f
in_range st f h = grind (arith, nat_tests)

pub all_in_range : (st : Standing) → Good st → AllInRange st.flows
all_in_range st g = All-weaker _ InRange (in_range st) st.flows g.each

-- the link of a flow that stands does so too
pub link_stands : (st : Standing) (n : ℕ) → Good st → named st.flows n ≡ true → stands st (link_of_flow n st.flows) ≡ true
link_stands st n g h =
    let at = found n st.flows g.up h in
    grind (arith, found_flow at, All-get_or (λ x. proper st x ≡ true) st.flows _ nil (found_within at) g.each)

-- no flow is of a link that does not stand
of_no_link : (k : ℕ) (fs : List Flow) → AllByRecursion (λ f. is_of k f ≡ false) fs → of_link k fs ≡ []
of_no_link k [] h = refl
of_no_link k (f ∷ fs) h = grind (arith, h.0, of_no_link k fs h.1)

pub no_flows : (st : Standing) (n : ℕ) → Good st → stands st n ≡ false → flows_of st n ≡ []
no_flows st n g new =
    of_no_link n st.flows (All-weaker _ (λ f. is_of n f ≡ false) (λ f e. grind (arith, nat_tests, new, e)) st.flows g.each)

-- the common cycle of every link is short, and so is that of one that does not stand
short_of : (st : Standing) (k : ℕ) → Good st → common (flows_of st k) ≤ max_common_cycle
short_of st k g =
    ⊎_elim (all_among (λ x. common (flows_of st x) ≤ max_common_cycle) st.links k g.short)
    (λ new. rw (no_flows st k g new) (omega arith)) (cases_Bool (stands st k))

-- a filter keeps no more of a front than that has
pub few_kept : {X : Type 0} (test : X → Bool) (xs : List X) (i : ℕ) → i ≤ length xs → length (filter test (take i xs)) ≤ i
few_kept test xs i le = omega (arith, length-filter test (take i xs), count_by-le-length test (take i xs), length-take-le i xs le)

pub regular : (st : Standing) (k : ℕ) → good st ≡ true → Regular k st.flows
regular st k h =
    let g = facts_from_good st h in
    record { range = all_in_range st g; few = g.few_flows; short = short_of st k g }

-- so are the flows of a link side by side
pub own_regular : (st : Standing) (k : ℕ) → good st ≡ true → Regular k (flows_of st k)
own_regular st k h =
    let g = facts_from_good st h in
    let fewer = count_by-le-length (is_of k) st.flows in
    let same = length-filter (is_of k) st.flows in
    record {
      range = all_kept_by (is_of k) InRange st.flows (all_in_range st g);
      few = omega (arith, g.few_flows);
      short = rw (filter_again (is_of k) st.flows) (short_of st k g);
    }
