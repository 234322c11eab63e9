use Rattle.std.proofs.Common.{◌≡◌, false, [], eqb, sym, ◌∙◌, arith}
use Rattle.std.proofs.lemmas.Bool.{ne_eqb}
use Rattle.limits.specs.Selection.{Selection}
use Rattle.planner.specs.Exchange.{LeastOfAll}
use Rattle.planner.specs.Named.{aim_of}
use Rattle.planner.specs.Table.{candidates_of, LawfulCandidates}
use Rattle.planner.proofs.Edges.{outside_told, outside_placed}
use Rattle.planner.proofs.Exchanged.{least_of_all}
use Rattle.planner.proofs.Laws.{Laws, laws_of}
use Rattle.planner.proofs.search.search.Given as given
use Rattle.planner.proofs.search.search.Goals as goal

laws : (g : given.Over) (limit : g.row.L.Denot) (measure : g.row.M.Denot) → Laws (aim_of (g.L.Limit.breach limit) (g.M.Measure.totalled measure) (g.M.Measure.atmost measure))
laws g limit measure =
    let m = g.met.M.Measure in
    let l = g.met.L.Limit in
    laws_of (g.L.Limit.breach limit) (g.M.Measure.totalled measure) (g.M.Measure.atmost measure) (l.beginning limit) (l.lowered limit) (m.either measure) (m.chained measure) (m.beginning measure) (m.lowered measure)

no_pairs : Selection []
no_pairs = record { few = omega arith; each = tt }

-- the clause on other selections, wherever the search ends
least : (g : given.Over) (limit : g.row.L.Denot) (measure : g.row.M.Denot) (table : _) → LawfulCandidates (candidates_of table) → LeastOfAll (aim_of (g.L.Limit.breach limit) (g.M.Measure.totalled measure) (g.M.Measure.atmost measure)) (candidates_of table)
least g limit measure table lawful = least_of_all _ (laws g limit measure) (candidates_of table) lawful

-- the empty selection is not within
outside_at : (g : given.Over) (c : goal.Then-breach_of-ne0 g) → eqb (g.L.Limit.breach c.args.limit.now []) 0 ≡ false
outside_at g c = ne_eqb (g.L.Limit.breach c.args.limit.now []) 0 (λ e. c.if-breach_of-ne0.true (c.breach_of.ensures [] c.empty_load.ensures no_pairs ∙ e))

pub returns-then-breach_of-ne0-clause-told : goal.returns-then-breach_of-ne0-clause-told
returns-then-breach_of-ne0-clause-told g c = outside_told _ (laws g c.args.limit.now c.args.measure.now) (candidates_of c.args.table.now) c.args.allowance c.requires.lawful (outside_at g c)

pub returns-then-breach_of-ne0-clause-setting : goal.returns-then-breach_of-ne0-clause-setting
returns-then-breach_of-ne0-clause-setting g c = λ _. outside_placed _ (laws g c.args.limit.now c.args.measure.now) (candidates_of c.args.table.now) c.args.setting.now c.requires.lawful (outside_at g c)

pub returns-then-breach_of-ne0-clause-least : goal.returns-then-breach_of-ne0-clause-least
returns-then-breach_of-ne0-clause-least g c = least g c.args.limit.now c.args.measure.now c.args.table.now c.requires.lawful

pub returns-then-is_empty-clause-least : goal.returns-then-is_empty-clause-least
returns-then-is_empty-clause-least g c = least g c.args.limit.now c.args.measure.now c.args.table.now c.requires.lawful

pub returns-clause-told : goal.returns-clause-told
returns-clause-told g c = rw (sym c.lay_out.ensures.candidates) c.walk.ensures.told

pub returns-clause-setting : goal.returns-clause-setting
returns-clause-setting g c = rw (sym c.lay_out.ensures.candidates) c.walk.ensures.setting

pub returns-clause-least : goal.returns-clause-least
returns-clause-least g c = least g c.args.limit.now c.args.measure.now c.args.table.now c.requires.lawful
