-- What the result of a solve tells, and that the setting which it returns is a selection.
use Rattle.std.proofs.Common.{◌≡◌, ℕ, Bool, true, false, cond, eqb, leb, ltb, List, [], ◌∷◌, length, drop, Ok, Some, None, Option, refl, ap, ◌∙◌, arith}
use Rattle.std.specs.List.{AllByRecursion, AllZip, list_any}
use Rattle.std.specs.Option.{option_map}
use Rattle.std.proofs.lemmas.Bool.{and_parts}
use Rattle.std.proofs.lemmas.Option.{none-some}
use Rattle.limits.specs.declared.pair.Pair.{Pair}
use Rattle.limits.specs.Gaps.{eight_gaps}
use Rattle.limits.specs.Lawful.{lawful}
use Rattle.limits.specs.Selection.{Selection, Lawful}
use Rattle.plan.specs.Message.{meets}
use Rattle.plan.specs.Queries.{first_without_flow}
use Rattle.plan.specs.Sound.{good}
use Rattle.plan.specs.Standing.{Standing, flows_of}
use Rattle.plan.proofs.Good.{facts_from_good}
use Rattle.planner.specs.declared.row.Row.{Row}
use Rattle.planner.specs.declared.solved.Solved.{Solved}
use Rattle.planner.specs.Asked.{Asked, refusal}
use Rattle.planner.specs.Choice.{Choice, serves, link_candidates, first_without_candidate}
use Rattle.planner.specs.Ending.{Ending, ended, ending, solve_questions, report_of, rows_of, filled}
use Rattle.planner.specs.Exchange.{LeastOfAll}
use Rattle.planner.specs.Named.{Aim, visits, named}
use Rattle.planner.specs.Promise.{link_rows}
use Rattle.planner.specs.Selections.{complete}
use Rattle.planner.specs.Setting.{plainly}
use Rattle.planner.specs.SolveFault.{number, detail}
use Rattle.planner.proofs.Choices.{choice_long}
use Rattle.planner.proofs.Promised.{choice_named}
use Rattle.planner.proofs.Rows.{rows_back}
use Rattle.script.specs.declared.offer.Offer.{Offer}
use Rattle.script.specs.Outcome.{outcome}
use Rattle.script.specs.Told.{of_ending, offer_of, run_questions, named_offer, told_unless, solve_told}

module _ (st : Standing) where
  each_lawful : (links : List ℕ) (s : List Pair) → AllZip (λ link p. serves eight_gaps (flows_of st link) p ≡ true) links s → AllByRecursion Lawful s
  each_lawful [] [] h = tt
  each_lawful [] (p ∷ s) h = absurd h
  each_lawful (link ∷ links) [] h = tt
  each_lawful (link ∷ links) (p ∷ s) h = ((and_parts (lawful eight_gaps p) (meets (flows_of st link) p.gap p.mtu) h.0).0, each_lawful links s h.1)

  -- a choice of a plan is a selection
  pub choice_selection : good st ≡ true → (s : List Pair) → Choice eight_gaps st s → Selection s
  choice_selection sound s choice = record {
    few = omega (arith, choice_long st s choice, (facts_from_good st sound).few_links);
    each = each_lawful st.links s choice;
  }

-- what a solve tells by its ending, with whatever tables that are long enough
module _ {T : Type 0} (aim : Aim T) (st : Standing) (others : LeastOfAll aim (link_candidates eight_gaps st)) where
  abbrev cs : List (List Pair)
  cs = link_candidates eight_gaps st

  -- 14 and 15 are answered yes
  skipped : (flow : Option ℕ) (rest : Asked) → refusal ((13, flow) ∷ (14, None) ∷ (15, None) ∷ rest) ≡ refusal ((13, flow) ∷ rest)
  skipped None rest = refl
  skipped (Some link) rest = refl

  offered : (old : List Row) (o : Option (List Pair)) → ((s : List Pair) → o ≡ Some s → length s ≡ length st.links)
      → option_map (λ report. offer_of (link_rows st (filled st.links o old)) report.visits) (option_map (report_of aim cs) o) ≡ option_map (λ s. offer_of (rows_of st.links s) (visits aim cs)) o
  offered old None long = refl
  offered old (Some s) long = ap (λ rows. Some (offer_of rows (visits aim cs))) (rows_back st.links s (long s refl) (drop (length st.links) old))

  unless_long : (b : Bool) (s : List Pair) → cond b (named aim cs) None ≡ Some s → length s ≡ length st.links
  unless_long true s e = choice_long st s (choice_named aim st others s e)
  unless_long false s e = absurd (none-some s e)

  unless_map : (b : Bool) → option_map (λ s. offer_of (rows_of st.links s) (visits aim cs)) (cond b (named aim cs) None) ≡ cond b (named_offer aim st) None
  unless_map true = refl
  unless_map false = refl

  pub told_by_ending : (allowance work_rows : ℕ) (old : List Row) → leb (length st.links) (length old) ≡ true → ltb (length st.links) work_rows ≡ true
      → of_ending st (ending eight_gaps aim st allowance work_rows old) ≡ solve_told aim st allowance
  told_by_ending allowance work_rows old rows works =
      let r = refusal (solve_questions eight_gaps aim st allowance (length old) work_rows) in
      let b = eqb r.0 0 in
      let rest : Asked = (16, first_without_candidate eight_gaps st) ∷ (17, plainly (leb (visits aim cs) allowance)) ∷ (18, plainly (list_any aim.within (complete cs))) ∷ [] in
      let same : r ≡ refusal (run_questions aim st allowance) =
      (λ i. refusal ((13, first_without_flow st) ∷ (14, plainly (rows i)) ∷ (15, plainly (works i)) ∷ rest)) ∙ skipped (first_without_flow st) rest in
      ap (λ o. record { refusal = r; offer = o }) (offered old (cond b (named aim cs) None) (unless_long b) ∙ unless_map b) ∙ ap (told_unless aim st) same

-- what an accepted solve tells
module _ {T : Type 0} (st : Standing) (e : Ending T) where
  pub accepted_told : (solved : Solved T) (rows setting : List Row) (offer : Offer) → ended (Ok solved) rows ≡ e → setting ≡ link_rows st rows → offer ≡ offer_of setting solved.visits
      → outcome number detail (Ok offer) ≡ of_ending st e
  accepted_told solved rows setting offer is of_links made =
      ap (λ o. record { refusal = (0, 0); offer = Some o }) (made ∙ ap (λ s. offer_of s solved.visits) of_links) ∙ ap (of_ending st) is
