-- Choices of a standing and its links' candidates: the complete selections are choices, every choice has MTUs no lower than
-- candidates, and there is none where a link has no candidate.
use Rattle.std.proofs.Common.{◌≡◌, ℕ, ◌≤◌, Bool, true, List, [], ◌∷◌, map, length, Some, Option, refl, sym, ap, ◌∙◌, inl, inr, arith}
use Rattle.std.specs.List.{AllByRecursion, AllZip, list_all, find, flat_map, zip}
use Rattle.std.specs.Option.{is_none, option_map}
use Rattle.std.proofs.ByRecursion.{All-map, All-append, All-weaker}
use Rattle.std.proofs.lemmas.Bool.{and_from, cases_Bool, cond-true, cond-false}
use Rattle.std.proofs.lemmas.List.{length-map}
use Rattle.std.proofs.lemmas.Option.{none-some}
use Rattle.std.proofs.lemmas.Slice.Zip.{AllZip-long}
use Rattle.limits.specs.declared.pair.Pair.{Pair}
use Rattle.limits.specs.Gaps.{eight_gaps}
use Rattle.limits.specs.Selection.{Lawful}
use Rattle.plan.specs.declared.flow.Flow.{Flow}
use Rattle.plan.specs.Candidate.{candidates}
use Rattle.plan.specs.Sound.{good}
use Rattle.plan.specs.Standing.{Standing, flows_of}
use Rattle.plan.proofs.Good.{facts_from_good}
use Rattle.planner.specs.Choice.{serves, Choice, link_candidates, candidate_table, lacks_candidate, first_without_candidate}
use Rattle.planner.specs.Exchange.{raised_candidate, raised_candidates}
use Rattle.planner.specs.Selections.{complete}
use Rattle.planner.specs.Table.{present, candidates_of, Rising, LawfulCandidates}
use Rattle.planner.proofs.Served.{all_fit, all_lawful, all_rise, raised, none_fits}

-- links with the flows of each
module _ (flows : ℕ → List Flow) where
  -- each link is given a pair that serves it
  abbrev Given : List ℕ → List Pair → Type 0
  Given links s = AllZip (λ link p. serves eight_gaps (flows link) p ≡ true) links s

  -- the candidates of each link
  abbrev of_links : List ℕ → List (List Pair)
  of_links links = candidates_of (map (λ link. candidates eight_gaps (flows link)) links)

  pub given_raised : (links : List ℕ) (s : List Pair) → Given links s → raised_candidates (of_links links) s ≡ true
  given_raised [] [] h = refl
  given_raised [] (p ∷ s) h = absurd h
  given_raised (link ∷ links) [] h = absurd h
  given_raised (link ∷ links) (p ∷ s) h = and_from (raised_candidate (present (candidates eight_gaps (flows link))) p) (raised_candidates (of_links links) s) (raised (flows link) p h.0) (given_raised links s h.1)

  -- one more link
  given_more : (link : ℕ) (links : List ℕ) (c : List Pair) (ss : List (List Pair)) → AllByRecursion (λ p. serves eight_gaps (flows link) p ≡ true) c → AllByRecursion (Given links) ss → AllByRecursion (Given (link ∷ links)) (flat_map (λ p. map (λ s. p ∷ s) ss) c)
  given_more link links [] ss h rest = tt
  given_more link links (p ∷ c) ss h rest =
      let one = All-map (Given (link ∷ links)) (λ s. p ∷ s) ss (All-weaker (Given links) (λ s. Given (link ∷ links) (p ∷ s)) (λ s g. (h.0, g)) ss rest) in
      All-append (Given (link ∷ links)) (map (λ s. p ∷ s) ss) (flat_map (λ q. map (λ s. q ∷ s) ss) c) one (given_more link links c ss h.1 rest)

  pub complete_given : (links : List ℕ) → AllByRecursion (Given links) (complete (of_links links))
  complete_given [] = (tt, tt)
  complete_given (link ∷ links) = given_more link links (present (candidates eight_gaps (flows link))) (complete (of_links links)) (all_fit (flows link)) (complete_given links)

  -- the link has no candidate
  abbrev lacks : ℕ → Bool
  lacks link = lacks_candidate eight_gaps (flows link)

  pub none_given : (links : List ℕ) (link : ℕ) → find lacks links ≡ Some link → (s : List Pair) → Given links s → ⊥
  none_given [] link e s h = none-some link e
  none_given (l ∷ links) link e [] h = absurd h
  none_given (l ∷ links) link e (p ∷ s) h =
      elim (cases_Bool (lacks l)) [
        | inl yes' ↦ none_fits (flows l) p yes' h.0
        | inr no' ↦ none_given links link (sym (cond-false (lacks l) (Some l) (find lacks links) no') ∙ e) s h.1
      ]

  -- the same link, found in the table of the candidates
  pub lacking_in_table : (links : List ℕ) → option_map (λ (p : ℕ × List (Option Pair)). p.0) (find (λ (p : ℕ × List (Option Pair)). list_all is_none p.1) (zip links (map (λ link. candidates eight_gaps (flows link)) links))) ≡ find lacks links
  lacking_in_table [] = refl
  lacking_in_table (link ∷ links) =
      elim (cases_Bool (lacks link)) [
        | inl yes' ↦ ap (option_map (λ (p : ℕ × List (Option Pair)). p.0)) (cond-true (lacks link) _ _ yes') ∙ sym (cond-true (lacks link) (Some link) (find lacks links) yes')
        | inr no' ↦ ap (option_map (λ (p : ℕ × List (Option Pair)). p.0)) (cond-false (lacks link) _ _ no') ∙ lacking_in_table links ∙ sym (cond-false (lacks link) (Some link) (find lacks links) no')
      ]

  lawful_links : (links : List ℕ) → AllByRecursion (λ c. AllByRecursion Lawful c) (of_links links)
  lawful_links [] = tt
  lawful_links (link ∷ links) = (all_lawful (flows link), lawful_links links)

  rising_links : (links : List ℕ) → AllByRecursion Rising (of_links links)
  rising_links [] = tt
  rising_links (link ∷ links) = (all_rise (flows link), rising_links links)

  pub links_lawful : (links : List ℕ) → length links ≤ 64 → LawfulCandidates (of_links links)
  links_lawful links few = record {
    few = omega (arith, few, length-map (map (λ link. candidates eight_gaps (flows link)) links) present, length-map links (λ link. candidates eight_gaps (flows link)));
    lawful = lawful_links links;
    rising = rising_links links;
  }

module _ (st : Standing) where
  pub choice_raised : (s : List Pair) → Choice eight_gaps st s → raised_candidates (link_candidates eight_gaps st) s ≡ true
  choice_raised s h = given_raised (flows_of st) st.links s h

  pub complete_choices : AllByRecursion (Choice eight_gaps st) (complete (link_candidates eight_gaps st))
  complete_choices = complete_given (flows_of st) st.links

  pub choice_long : (s : List Pair) → Choice eight_gaps st s → length s ≡ length st.links
  choice_long s h = AllZip-long _ st.links s h

  pub no_choice : (link : ℕ) → first_without_candidate eight_gaps st ≡ Some link → (s : List Pair) → Choice eight_gaps st s → ⊥
  no_choice link e s h = none_given (flows_of st) st.links link e s h

  -- the first place of the links beside the table that has no candidate
  pub lacking : (links : List ℕ) (table : List (List (Option Pair))) (o : Option (ℕ × List (Option Pair))) → links ≡ st.links → table ≡ candidate_table eight_gaps st → o ≡ find (λ (p : ℕ × List (Option Pair)). list_all is_none p.1) (zip links table) → option_map (λ p. p.0) o ≡ first_without_candidate eight_gaps st
  lacking links table o shown is e =
      ap (option_map (λ (p : ℕ × List (Option Pair)). p.0)) (e ∙ (λ i. find (λ (p : ℕ × List (Option Pair)). list_all is_none p.1) (zip (shown i) (is i))))
      ∙ lacking_in_table (flows_of st) st.links

  pub lawful_candidates : good st ≡ true → LawfulCandidates (link_candidates eight_gaps st)
  lawful_candidates sound = links_lawful (flows_of st) st.links (facts_from_good st sound).few_links
