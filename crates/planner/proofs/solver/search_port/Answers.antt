use Rattle.std.proofs.Common.{rules, ◌≡◌, ◌<◌, ◌≤◌, List, Option, sym, ap, ◌∙◌, subst, length, arith}
use Rattle.std.proofs.lemmas.List.{length-map}
use Rattle.limits.specs.declared.pair.Pair.{Pair}
use Rattle.plan.specs.Held.{standing}
use Rattle.planner.specs.Named.{aim_of}
use Rattle.planner.specs.Table.{LawfulCandidates, candidates_of, present}
use Rattle.planner.proofs.Choices.{lawful_candidates}
use Rattle.planner.proofs.Fits.{one_fits}
use Rattle.planner.proofs.Endings.{AnsweredYes, none_ends, found_ends}
use Rattle.planner.proofs.solver.search_port.Goals.{In_default}
use Rattle.planner.proofs.solver.search_port.Goals as goal

pub search-requires : goal.search-requires
search-requires g c =
    let table = c.deref-2.result.now in
    let is = c.deref-2.ensures.0 ∙ c.candidate_table-table.ensures in
    let lawful = subst (λ t. LawfulCandidates (candidates_of t)) (sym is) (lawful_candidates (standing c.args.plan.now) c.args.plan.now.sound) in
    let work = c.requires.work in
    let long : length table ≡ length (standing c.args.plan.now).links = ap length is ∙ length-map (standing c.args.plan.now).links _ in
    let few : length table ≤ 64 = subst (λ n. n ≤ 64) (length-map table present) lawful.few in
    let some : 0 < length c.args.work.now = omega arith in
    (one_fits (length c.args.work.now) _ some (search rules), (lawful, (omega (arith, long, work), few)))

asked : (g : _) (c : In_default g) (table : List (List (Option Pair))) → table ≡ c.candidate_table-table.result.items → AnsweredYes (standing c.args.plan.now) (length c.args.work.now) c.args.answer.now table
asked g c table is = record {
  flows = c.requires.flows;
  rows = c.requires.rows;
  work = c.requires.work;
  candidates = sym c.in_default.is ∙ c.first_without_candidate.ensures;
  is = is ∙ c.candidate_table-table.ensures;
}

pub returns-in-NoneWithin : goal.returns-in-NoneWithin
returns-in-NoneWithin g c =
    none_ends (aim_of (g.L.Limit.breach c.args.limit.now) (g.M.Measure.totalled c.args.measure.now) (g.M.Measure.atmost c.args.measure.now)) c.args.allowance
    (asked g (goal.at.returns-in-NoneWithin g c).In_default c.deref-2.result.now c.deref-2.ensures.0)
    c.search.ensures.least c.in-NoneWithin.visits c.search.result c.in-NoneWithin.is c.search.ensures.told

pub returns-in-Found : goal.returns-in-Found
returns-in-Found g c =
    found_ends (aim_of (g.L.Limit.breach c.args.limit.now) (g.M.Measure.totalled c.args.measure.now) (g.M.Measure.atmost c.args.measure.now)) c.args.allowance
    (asked g (goal.at.returns-in-Found g c).In_default c.deref-2.result.now c.deref-2.ensures.0)
    c.search.ensures.least c.in-Found.total c.in-Found.visits _ c.search.new.setting c.write_rows.new.answer c.search.result c.in-Found.is c.search.ensures.told c.search.ensures.setting (search rules)
