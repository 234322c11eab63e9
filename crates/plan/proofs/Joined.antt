-- The common cycle of a link with a flow added or amended, from that of its other flows.
use Rattle.std.proofs.Common.{◌≡◌, ◌<◌, true, false, sym, refl, ap, ◌∙◌}
use Rattle.std.proofs.ByRecursion.{all_kept_by}
use Rattle.std.proofs.lemmas.Bool.{eq-eqb}
use Rattle.plan.specs.declared.flow.Flow.{Flow}
use Rattle.plan.specs.Cycle.{lcm, common}
use Rattle.plan.specs.Edited.{flow_with, insert, other_name, without, amended}
use Rattle.plan.specs.Regular.{InRange}
use Rattle.plan.specs.Sound.{good}
use Rattle.plan.specs.Standing.{Standing, named, link_of_flow, is_of, of_link}
use Rattle.plan.proofs.Amended.{amended_anew}
use Rattle.plan.proofs.Found.{found}
use Rattle.plan.proofs.Good.{facts_from_good, all_in_range}
use Rattle.plan.proofs.Inserted.{common-insert}
use Rattle.plan.proofs.Removed.{filters_swap, without_none}

module _ (st : Standing) (sound : good st ≡ true) (f : Flow) (pos : 0 < f.cycle) where
  -- with the flow among those of other names
  joined : common (of_link f.link (insert f (without f.name st.flows))) ≡ lcm f.cycle (common (without f.name (of_link f.link st.flows)))
  joined =
      common-insert f.link f (without f.name st.flows) (eq-eqb f.link f.link refl) pos (all_kept_by (other_name f.name) InRange st.flows (all_in_range st (facts_from_good st sound)))
      ∙ ap (λ l. lcm f.cycle (common l)) (filters_swap (is_of f.link) (other_name f.name) st.flows)

  pub joined_added : named st.flows f.name ≡ false → common (of_link f.link (insert f st.flows)) ≡ lcm f.cycle (common (without f.name (of_link f.link st.flows)))
  joined_added new = ap (λ l. common (of_link f.link (insert f l))) (sym (without_none f.name st.flows new)) ∙ joined

  pub joined_amended : named st.flows f.name ≡ true → f.link ≡ link_of_flow f.name st.flows → common (of_link f.link (amended f.name f.payload f.cycle st.flows)) ≡ lcm f.cycle (common (without f.name (of_link f.link st.flows)))
  joined_amended stands own =
      let up = (facts_from_good st sound).up in
      let anew = amended_anew f.payload f.cycle (found f.name st.flows up stands) up in
      ap (λ l. common (of_link f.link l)) (anew ∙ (λ i. insert (flow_with (sym own i) f.name f.payload f.cycle) (without f.name st.flows))) ∙ joined
