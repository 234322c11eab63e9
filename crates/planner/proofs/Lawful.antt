-- What rows are told that name the links of a good plan: few rows, a selection where gaps and MTUs are lawful, and then the rest.
use Rattle.std.proofs.Common.{◌≡◌, ℕ, suc, ◌≤◌, Bool, true, cond, ◌&&◌, List, [], ◌∷◌, length, Some, None, Option, refl, ◌∙◌, arith}
use Rattle.std.specs.Option.{option_map}
use Rattle.std.specs.List.{AllByRecursion}
use Rattle.std.proofs.ByRecursion.{All-map}
use Rattle.std.proofs.lemmas.List.{length-map}
use Rattle.std.proofs.lemmas.Bool.{and_from}
use Rattle.limits.specs.declared.pair.Pair.{Pair}
use Rattle.limits.specs.Gaps.{eight_gaps}
use Rattle.limits.specs.Selection.{Lawful, Selection}
use Rattle.plan.specs.Bounds.{max_links}
use Rattle.plan.specs.Queries.{served}
use Rattle.plan.specs.Sound.{good}
use Rattle.plan.specs.Standing.{Standing, stands}
use Rattle.plan.proofs.Good.{facts_from_good}
use Rattle.planner.specs.declared.row.Row.{Row}
use Rattle.planner.specs.Asked.{told_or, refusal, first_failing}
use Rattle.planner.specs.Setting.{pairs, name_links, gap_of_row_lawful, mtu_of_row_lawful, messages_served, if_any, row_questions}
use Rattle.planner.proofs.Failing.{passes_from_none}
use Rattle.planner.proofs.Names.{as_many, rows_stand}

pub few_rows : (st : Standing) (rows : List Row) → good st ≡ true → name_links st.links rows ≡ true → length rows ≤ max_links
few_rows st rows sound named = omega (arith, as_many st.links rows named, (facts_from_good st sound).few_links)

-- the rows name the links of a good plan, and no gap and no MTU fails
pub record LawfulRows (st : Standing) (rows : List Row) : Type 0 where
  pub sound : good st ≡ true
  pub named : name_links st.links rows ≡ true
  pub gaps : None ≡ first_failing (gap_of_row_lawful eight_gaps) rows
  pub mtus : None ≡ first_failing mtu_of_row_lawful rows

pairs_lawful : (rows : List Row) → AllByRecursion (λ row. gap_of_row_lawful eight_gaps row ≡ true) rows → AllByRecursion (λ row. mtu_of_row_lawful row ≡ true) rows → AllByRecursion (λ row. Lawful row.pair) rows
pairs_lawful [] g m = tt
pairs_lawful (row ∷ rows) g m = (and_from _ _ g.0 m.0, pairs_lawful rows g.1 m.1)

-- the pair of the row serves its link
abbrev pair_serves : Standing → Row → Bool
pair_serves st row = served eight_gaps st row.link row.pair

-- a lawful pair of a link that stands serves it where it meets the message rule
served_alike : (st : Standing) (rows : List Row) → AllByRecursion (λ row. stands st row.link ≡ true) rows → AllByRecursion (λ row. Lawful row.pair) rows → first_failing (pair_serves st) rows ≡ first_failing (messages_served st) rows
served_alike st [] s l = refl
served_alike st (row ∷ rows) s l = λ i. cond (s.0 i && (l.0 i && messages_served st row)) (option_map suc (served_alike st rows s.1 l.1 i)) (Some 1)

module _ {st : Standing} {rows : List Row} (so_far : LawfulRows st rows) where
  each_lawful : AllByRecursion (λ row. Lawful row.pair) rows
  each_lawful = pairs_lawful rows (passes_from_none (gap_of_row_lawful eight_gaps) rows so_far.gaps) (passes_from_none mtu_of_row_lawful rows so_far.mtus)

  pub lawful_selection : Selection (pairs rows)
  lawful_selection = record {
    few = omega (arith, few_rows st rows so_far.sound so_far.named, length-map rows (λ row. row.pair));
    each = All-map Lawful (λ row. row.pair) rows each_lawful;
  }

  -- what the rows are told, by what first fails the messages and the limit
  pub told_in_turn : (breach : List Pair → ℕ) (message limit : Option ℕ) → message ≡ first_failing (pair_serves st) rows → limit ≡ if_any (breach (pairs rows)) → refusal ((22, message) ∷ (23, limit) ∷ []) ≡ refusal (row_questions eight_gaps breach st rows)
  told_in_turn breach message limit serves is =
      let messages = serves ∙ served_alike st rows (rows_stand st.links rows so_far.named) each_lawful in
      λ i. told_or 20 (told_or 21 (told_or 22 (told_or 23 (0, 0) (is i)) (messages i)) (so_far.mtus i)) (so_far.gaps i)
