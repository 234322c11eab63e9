use Rattle.std.proofs.Common.{rules, ◌≡◌, None, Some, refl}
use Rattle.limits.specs.Gaps.{eight_gaps}
use Rattle.plan.specs.Held.{standing}
use Rattle.planner.specs.Asked.{first_failing}
use Rattle.planner.specs.Setting.{gap_of_row_lawful, mtu_of_row_lawful}
use Rattle.planner.proofs.Lawful.{LawfulRows, few_rows, lawful_selection, told_in_turn}
use Rattle.planner.proofs.check.check_rows.Goals.{In_default-first_failing}
use Rattle.planner.proofs.check.check_rows.Goals as goal

lawful_rows : (g : _) (c : In_default-first_failing g) → LawfulRows (standing c.args.plan.now) c.args.rows.now
lawful_rows g c = record { sound = c.args.plan.now.sound; named = c.requires; gaps = search rules; mtus = search rules }

pub first_failing-requires-clause-few : goal.first_failing-requires-clause-few
first_failing-requires-clause-few g c = search (rules, few_rows)

pub first_failing-requires-2-clause-few : goal.first_failing-requires-2-clause-few
first_failing-requires-2-clause-few g c = search (rules, few_rows)

pub returns-in-Some-first_failing : goal.returns-in-Some-first_failing
returns-in-Some-first_failing g c =
    let gaps : None ≡ first_failing (gap_of_row_lawful eight_gaps) c.args.rows.now = search rules in
    let mtus : Some c.in-Some-first_failing.row ≡ first_failing mtu_of_row_lawful c.args.rows.now = search rules in
    rw (← gaps, ← mtus) refl

pub first_failing-requires-3-clause-few : goal.first_failing-requires-3-clause-few
first_failing-requires-3-clause-few g c = search (rules, few_rows)

pub returns-in-Some-first_failing-2 : goal.returns-in-Some-first_failing-2
returns-in-Some-first_failing-2 g c = told_in_turn (lawful_rows g (goal.at.returns-in-Some-first_failing-2 g c).In_default-first_failing) (g.L.Limit.breach c.args.limit.now) (Some c.in-Some-first_failing-2.row) _ (search rules) refl

pub breach_of_rows-requires : goal.breach_of_rows-requires
breach_of_rows-requires g c = lawful_selection (lawful_rows g (goal.at.breach_of_rows-requires g c).In_default-first_failing)

pub returns-in-Some-breach_of_rows : goal.returns-in-Some-breach_of_rows
returns-in-Some-breach_of_rows g c = told_in_turn (lawful_rows g (goal.at.returns-in-Some-breach_of_rows g c).In_default-first_failing) (g.L.Limit.breach c.args.limit.now) None (Some c.in-Some-breach_of_rows.breach) (search rules) (search rules)

pub returns : goal.returns
returns g c = told_in_turn (lawful_rows g (goal.at.returns g c).In_default-first_failing) (g.L.Limit.breach c.args.limit.now) None None (search rules) (search rules)
