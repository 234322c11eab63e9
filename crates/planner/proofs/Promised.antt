-- What is promised of a solve follows from how it ends.
use Rattle.std.proofs.Common.{◌≡◌, ℕ, if◌then◌else◌, ◌==◌, Bool, true, false, not, ◌&&◌, ◌||◌, leb, ltb, List, [], ◌∷◌, length, drop, Some, None, Option, refl, sym, ap, ap₂, ◌∙◌, subst, inl, inr, arith}
use Rattle.std.specs.List.{list_any, find}
use Rattle.std.specs.Option.{is_none, is_some}
use Rattle.std.proofs.lemmas.Bool.{both_ways, false≢true, cases_Bool, cond-true, cond-false}
use Rattle.std.proofs.lemmas.Option.{none-some, same_Some}
use Rattle.limits.specs.declared.pair.Pair.{Pair}
use Rattle.limits.specs.Gaps.{eight_gaps}
use Rattle.plan.specs.Queries.{first_without_flow}
use Rattle.plan.specs.Standing.{Standing}
use Rattle.planner.specs.declared.row.Row.{Row}
use Rattle.planner.specs.declared.solved.Solved.{Solved}
use Rattle.planner.specs.Asked.{refusal}
use Rattle.planner.specs.Choice.{Choice, link_candidates, first_without_candidate}
use Rattle.planner.specs.Ending.{Ending, report_of, ending_with, ending}
use Rattle.planner.specs.Exchange.{LeastOfAll}
use Rattle.planner.specs.Named.{Aim, no_more, admitted, least, visits, named}
use Rattle.planner.specs.Promise.{well_posed, NoChoiceWithin, LeastChoice, Promised}
use Rattle.planner.specs.Selections.{complete}
use Rattle.planner.specs.Setting.{plainly}
use Rattle.planner.proofs.Choices.{choice_raised, complete_choices, choice_long, no_choice}
use Rattle.planner.proofs.Members.{In, all_in, in_kept, any_in, any_found}
use Rattle.planner.proofs.Rows.{rows_back, pairs_back}

-- what is found stands in the list
found_in : {X : Type 0} (test : X → Bool) (xs : List X) (x : X) → find test xs ≡ Some x → In x xs
found_in test [] x e = none-some x e
found_in test (y ∷ ys) x e =
    elim (cases_Bool (test y)) [
      | inl yes' ↦ inl (sym (same_Some y x (sym (cond-true (test y) (Some y) (find test ys) yes') ∙ e)))
      | inr no' ↦ inr (found_in test ys x (sym (cond-false (test y) (Some y) (find test ys) no') ∙ e))
    ]

module _ {T : Type 0} (a : Aim T) (st : Standing) (others : LeastOfAll a (link_candidates eight_gaps st)) where
  abbrev cs : List (List Pair)
  cs = link_candidates eight_gaps st

  -- a choice within shows that there is a named setting, which totals no more
  better : (t : List Pair) → Choice eight_gaps st t → a.within t ≡ true → (s : List Pair) × (named a cs ≡ Some s) × (no_more a s t ≡ true)
  better t choice within = others t (choice_raised st t choice) within

  -- the named setting is a complete selection within
  admitted_named : (s : List Pair) → named a cs ≡ Some s → In s (complete cs) × (a.within s ≡ true)
  admitted_named s e =
      let least_one : In s (least a cs) = found_in _ (least a cs) s e in
      in_kept a.within (complete cs) s (in_kept _ (admitted a cs) s least_one).0

  pub choice_named : (s : List Pair) → named a cs ≡ Some s → Choice eight_gaps st s
  choice_named s e = all_in (Choice eight_gaps st) (complete cs) s (complete_choices st) (admitted_named s e).0

  -- there is a named setting exactly when some complete selection is within
  pub named_where_any : (o : Option (List Pair)) → named a cs ≡ o → list_any a.within (complete cs) ≡ is_some o
  named_where_any (Some s) e = let m = admitted_named s e in any_in a.within (complete cs) s m.0 m.1
  named_where_any None e =
      elim (cases_Bool (list_any a.within (complete cs))) [
        | inl yes' ↦
            let found = any_found a.within (complete cs) yes' in
            let choice = all_in (Choice eight_gaps st) (complete cs) found.0 (complete_choices st) found.1 in
            let one = better found.0 choice found.2 in
            absurd (none-some one.0 (sym e ∙ one.1))
        | inr no' ↦ no'
      ]

  none_within : named a cs ≡ None → NoChoiceWithin eight_gaps a st
  none_within e t choice =
      elim (cases_Bool (a.within t)) [
        | inl yes' ↦ let one = better t choice yes' in absurd (none-some one.0 (sym e ∙ one.1))
        | inr no' ↦ no'
      ]

  least_named : (s : List Pair) → named a cs ≡ Some s → LeastChoice eight_gaps a st s (a.total s)
  least_named s e = record {
    choice = choice_named s e;
    within = (admitted_named s e).1;
    totals = refl;
    least = λ t choice within.
        let one = better t choice within in
        subst (λ u. no_more a u t ≡ true) (same_Some one.0 s (sym one.1 ∙ e)) one.2;
  }

  module _ (allowance work_rows : ℕ) (old : List Row) where
    -- the ending, by what each question is answered
    abbrev pub ends : Option ℕ → Bool → Bool → Option ℕ → Bool → Option (List Pair) → Ending T
    ends flow answers works candidate fit o =
        let r = refusal ((13, flow) ∷ (14, plainly answers) ∷ (15, plainly works) ∷ (16, candidate) ∷ (17, plainly fit) ∷ (18, plainly (is_some o)) ∷ []) in
        ending_with a cs st.links old r (if r.0 == 0 then o else None)

    abbrev Holds : Ending T → Type 0
    Holds e = Promised eight_gaps a st allowance (length old) work_rows e

    -- whether the solve is well posed
    abbrev posed : Bool
    posed = well_posed st (length old) work_rows

    -- the ending where it is not
    early : (e : Ending T) → posed ≡ false → e.report ≡ None → Holds e
    early e before none = record {
      unmeetable = λ h _. absurd (both_ways posed before h);
      least = λ r h. absurd (none-some r (sym none ∙ h));
      spent = λ h _. absurd (both_ways posed before h);
      counted = λ r h. absurd (none-some r (sym none ∙ h));
      setting = λ h _ _ _. absurd (both_ways posed before h);
    }

    without_candidate : (link : ℕ) → first_without_candidate eight_gaps st ≡ Some link → (fit : Bool) (o : Option (List Pair)) → Holds (ends None true true (Some link) fit o)
    without_candidate link e fit o =
        let lacking : is_none (first_without_candidate eight_gaps st) ≡ false = ap is_none e in record {
          unmeetable = λ _ _. (λ _ s choice. absurd (no_choice st link e s choice), λ _. refl);
          least = λ r h. absurd (none-some r h);
          spent = λ _ h. absurd (both_ways _ lacking h);
          counted = λ r h. absurd (none-some r h);
          setting = λ _ h _ _. absurd (both_ways _ lacking h);
        }

    too_many : first_without_candidate eight_gaps st ≡ None → leb (visits a cs) allowance ≡ false → (o : Option (List Pair)) → Holds (ends None true true None false o)
    too_many e many o = record {
      unmeetable = λ _ h. absurd (both_ways _ (ap₂ (λ b c. b || not (is_none c)) many e) h);
      least = λ r h. absurd (none-some r h);
      spent = λ _ _. grind (arith, many);
      counted = λ r h. absurd (none-some r h);
      setting = λ _ _ _ h. absurd (both_ways true h refl);
    }

    none_found : first_without_candidate eight_gaps st ≡ None → leb (visits a cs) allowance ≡ true → named a cs ≡ None → Holds (ends None true true None true None)
    none_found e few n = record {
      unmeetable = λ _ _. (λ _. none_within n, λ _. refl);
      least = λ r h. absurd (none-some r h);
      spent = λ _ _. grind (arith, few);
      counted = λ r h. absurd (none-some r h);
      setting = λ _ _ h _. absurd (both_ways true h refl);
    }

    found : first_without_candidate eight_gaps st ≡ None → leb (visits a cs) allowance ≡ true → (s : List Pair) → named a cs ≡ Some s → Holds (ends None true true None true (Some s))
    found e few s n =
        let long = choice_long st s (choice_named s n) in
        let rest = drop (length st.links) old in
        let same : (r : Solved T) → Some (report_of a cs s) ≡ Some r → report_of a cs s ≡ r = λ r h. same_Some (report_of a cs s) r h in record {
          unmeetable = λ _ _. (λ h. absurd (false≢true h), λ none. absurd (both_ways (a.within s) (none s (choice_named s n)) (admitted_named s n).1));
          least = λ r h. rw (pairs_back st.links s long rest) (subst (λ q. LeastChoice eight_gaps a st s q.total) (same r h) (least_named s n));
          spent = λ _ _. grind (arith, few);
          counted = λ r h. ap (λ q. q.visits) (sym (same r h));
          setting = λ _ _ _ _. (s, n, refl, rows_back st.links s long rest);
        }

    by_answers : (flow : Option ℕ) (answers works : Bool) (candidate : Option ℕ) (fit : Bool) (o : Option (List Pair)) → first_without_flow st ≡ flow → leb (length st.links) (length old) ≡ answers → ltb (length st.links) work_rows ≡ works → first_without_candidate eight_gaps st ≡ candidate → leb (visits a cs) allowance ≡ fit → named a cs ≡ o → Holds (ends flow answers works candidate fit o)
    by_answers (Some link) answers works candidate fit o x y z e f n = early _ (λ i. is_none (x i) && (leb (length st.links) (length old) && ltb (length st.links) work_rows)) refl
    by_answers None false works candidate fit o x y z e f n = early _ (λ i. is_none (x i) && (y i && ltb (length st.links) work_rows)) refl
    by_answers None true false candidate fit o x y z e f n = early _ (λ i. is_none (x i) && (y i && z i)) refl
    by_answers None true true (Some link) fit o x y z e f n = without_candidate link e fit o
    by_answers None true true None false o x y z e f n = too_many e f o
    by_answers None true true None true None x y z e f n = none_found e f n
    by_answers None true true None true (Some s) x y z e f n = found e f s n

    pub promised : Holds (ending eight_gaps a st allowance work_rows old)
    promised =
        rw (named_where_any (named a cs) refl)
        (by_answers (first_without_flow st) (leb (length st.links) (length old)) (ltb (length st.links) work_rows) (first_without_candidate eight_gaps st) (leb (visits a cs) allowance) (named a cs) refl refl refl refl refl refl)

    -- the ending of the solve, by what each question is answered
    pub answered : (flow : Option ℕ) (answers works : Bool) (candidate : Option ℕ) (fit : Bool) (o : Option (List Pair)) → flow ≡ first_without_flow st → answers ≡ leb (length st.links) (length old) → works ≡ ltb (length st.links) work_rows → candidate ≡ first_without_candidate eight_gaps st → fit ≡ leb (visits a cs) allowance → o ≡ named a cs → ends flow answers works candidate fit o ≡ ending eight_gaps a st allowance work_rows old
    answered flow answers works candidate fit o f an w c v n =
        rw (named_where_any (named a cs) refl)
        (λ i. ends (f i) (an i) (w i) (c i) (v i) (n i))

  -- of whatever ends so
  pub promise_kept : (allowance work_rows : ℕ) (old : List Row) (e : Ending T) → e ≡ ending eight_gaps a st allowance work_rows old → Promised eight_gaps a st allowance (length old) work_rows e
  promise_kept allowance work_rows old e is = subst (Promised eight_gaps a st allowance (length old) work_rows) (sym is) (promised allowance work_rows old)
