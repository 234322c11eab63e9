-- The ending of a solve, by what its search told.
use Rattle.std.proofs.Common.{◌≡◌, ℕ, ◌≤◌, ◌<◌, true, leb, List, ◌++◌, length, drop, Some, None, Option, sym, ap, ◌∙◌, subst}
use Rattle.std.proofs.lemmas.Bool.{le-leb, lt-ltb}
use Rattle.limits.specs.declared.pair.Pair.{Pair}
use Rattle.limits.specs.Gaps.{eight_gaps}
use Rattle.plan.specs.Queries.{first_without_flow}
use Rattle.plan.specs.Standing.{Standing}
use Rattle.planner.specs.declared.outcome.Outcome.{Outcome}
use Rattle.planner.specs.declared.outcome.Outcome.TheVariants.{NoneWithin, Found}
use Rattle.planner.specs.declared.row.Row.{Row}
use Rattle.planner.specs.Choice.{link_candidates, candidate_table, first_without_candidate}
use Rattle.planner.specs.Ending.{rows_of, ending}
use Rattle.planner.specs.Exchange.{LeastOfAll}
use Rattle.planner.specs.Named.{Aim, visits, named}
use Rattle.planner.specs.Outcome.{outcome, placed}
use Rattle.planner.specs.Table.{candidates_of}
use Rattle.planner.proofs.Answered.{says}
use Rattle.planner.proofs.Choices.{choice_long}
use Rattle.planner.proofs.Promised.{ends, answered, choice_named}
use Rattle.planner.proofs.Rows.{rows_front}

-- the questions before the search are answered yes
pub record AnsweredYes (st : Standing) (work_rows : ℕ) (old : List Row) (table : List (List (Option Pair))) : Type 0 where
  pub flows : first_without_flow st ≡ None
  pub rows : length st.links ≤ length old
  pub work : length st.links < work_rows
  pub candidates : None ≡ first_without_candidate eight_gaps st
  pub is : table ≡ candidate_table eight_gaps st

module _ {T : Type 0} (a : Aim T) (allowance : ℕ) {st : Standing} {work_rows : ℕ} {old : List Row} {table : List (List (Option Pair))} (asked : AnsweredYes st work_rows old table) (others : LeastOfAll a (candidates_of table)) where
  abbrev cs : List (List Pair)
  cs = link_candidates eight_gaps st

  better : LeastOfAll a cs
  better = subst (λ t. LeastOfAll a (candidates_of t)) asked.is others

  by_search : (o : Option (List Pair)) → leb (visits a cs) allowance ≡ true → named a cs ≡ o → ends a st better allowance work_rows old None true true None true o ≡ ending eight_gaps a st allowance work_rows old
  by_search o few n = answered a st better allowance work_rows old None true true None true o (sym asked.flows) (sym (le-leb _ _ asked.rows)) (sym (lt-ltb _ _ asked.work)) asked.candidates (sym few) (sym n)

  pub none_ends : (count : ℕ) (o : Outcome T) → o ≡ NoneWithin count → o ≡ outcome a (candidates_of table) allowance → record { refusal = (18, 0); report = None; rows = old } ≡ ending eight_gaps a st allowance work_rows old
  none_ends count o e told =
      let said = says a cs allowance (NoneWithin count) (sym e ∙ told ∙ ap (λ t. outcome a (candidates_of t) allowance) asked.is) in
      by_search None said.0 said.1

  pub found_ends : (total : T) (count : ℕ) (before after : List Pair) (rows : List Row) (o : Outcome T) → o ≡ Found total count → o ≡ outcome a (candidates_of table) allowance → (leb (visits a (candidates_of table)) allowance ≡ true → after ≡ placed (named a (candidates_of table)) before) → rows ≡ rows_of st.links after ++ drop (length st.links) old → record { refusal = (0, 0); report = Some (record { total = total; visits = count }); rows = rows } ≡ ending eight_gaps a st allowance work_rows old
  found_ends total count before after rows o e told written is =
      let said = says a cs allowance (Found total count) (sym e ∙ told ∙ ap (λ t. outcome a (candidates_of t) allowance) asked.is) in
      let s = said.1.0 in
      let is_named = said.1.1 in
      let placed_there : after ≡ placed (named a cs) before = subst (λ t. leb (visits a (candidates_of t)) allowance ≡ true → after ≡ placed (named a (candidates_of t)) before) asked.is written said.0 in
      let first : after ≡ s ++ drop (length s) before = placed_there ∙ ap (λ o. placed o before) is_named in
      let long = choice_long st s (choice_named a st better s is_named) in
      let same : rows ≡ rows_of st.links s ++ drop (length st.links) old = is ∙ ap (λ p. rows_of st.links p ++ drop (length st.links) old) first ∙ ap (λ r. r ++ drop (length st.links) old) (rows_front st.links s (drop (length s) before) long) in
      (λ i. record { refusal = (0, 0); report = Some (record { total = sym said.1.2 i; visits = sym said.1.3 i }); rows = same i })
      ∙ by_search (Some s) said.0 is_named
