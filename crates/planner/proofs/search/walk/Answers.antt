use Rattle.std.proofs.Common.{rules, ◌<◌, [], ◌∷◌, ◌++◌, length, get_or, ◌-◌, sym, refl, ap, ◌∙◌, arith, ℕ, eqb, true, ◌≡◌}
use Rattle.std.proofs.lemmas.Bool.{eq-eqb, ne_eqb}
use borrow.Author.Rules.{scaled_Fits}
use Rattle.limits.specs.Taken.{Takes, HoldsOfKept}
use Rattle.planner.specs.declared.search_row.Figures.{Figures}
use Rattle.planner.specs.declared.search_row.SearchRow.{SearchRow}
use Rattle.planner.specs.Named.{aim_of}
use Rattle.planner.specs.Work.{held, figures_of}
use Rattle.planner.proofs.Laws.{Laws, laws_of}
use Rattle.planner.proofs.Stack.{stack, base}
use Rattle.planner.proofs.Walk.{UsedUp, HasNext, begin, used_up_at, next_at, figures_at, over_told, over_placed, back_walks, back_less, taken, load_of, total_of, may_take_load, may_take_total, spent_told, spent_placed, tried_turns, outside_walks, beaten_walks, best_walks, best_less, next_walks, next_less}
use Rattle.planner.proofs.search.walk.Given as given
use Rattle.planner.proofs.search.walk.Goals as goal
use Rattle.planner.proofs.search.walk.Goals.{In_default, In-Some}

laws : (g : given.Over) (limit : g.row.L.Denot) (measure : g.row.M.Denot) → Laws (aim_of (g.L.Limit.breach limit) (g.M.Measure.totalled measure) (g.M.Measure.atmost measure))
laws g limit measure =
    let m = g.met.M.Measure in
    let l = g.met.L.Limit in
    laws_of (g.L.Limit.breach limit) (g.M.Measure.totalled measure) (g.M.Measure.atmost measure) (l.beginning limit) (l.lowered limit) (m.either measure) (m.chained measure) (m.beginning measure) (m.lowered measure)

-- the turn, where the candidates of the link are used up
used_up_here : (g : given.Over) (c : In_default g) → UsedUp (g.L.Limit.loaded c.args.limit.now) (figures_of (g.L.Limit.weighed c.args.limit.now) (g.M.Measure.costed c.args.measure.now)) (aim_of (g.L.Limit.breach c.args.limit.now) (g.M.Measure.totalled c.args.measure.now) (g.M.Measure.atmost c.args.measure.now)) c.args.links (held c.args.links c.args.work.now) c.args.allowance c.args.setting.now c.loop-pair.here c.loop-pair.depth c.loop-pair.work c.loop-pair.best c.loop-pair.setting c.loop-pair.visits
used_up_here g c = used_up_at (laws g c.args.limit.now c.args.measure.now) c.requires.lawful c.loop-pair.invariant c.index-work-depth.result c.candidate.result c.candidate.ensures.value c.in_default.is

-- the turn, where there is a next one
next_here : (g : given.Over) (c : In-Some g) → HasNext (g.L.Limit.loaded c.args.limit.now) (figures_of (g.L.Limit.weighed c.args.limit.now) (g.M.Measure.costed c.args.measure.now)) (aim_of (g.L.Limit.breach c.args.limit.now) (g.M.Measure.totalled c.args.measure.now) (g.M.Measure.atmost c.args.measure.now)) c.args.links (held c.args.links c.args.work.now) c.args.allowance c.args.setting.now c.loop-pair.here c.loop-pair.depth c.loop-pair.work c.loop-pair.best c.loop-pair.setting c.loop-pair.visits c.in-Some.pair
next_here g c = next_at (laws g c.args.limit.now c.args.measure.now) c.requires.lawful c.loop-pair.invariant c.index-work-depth.result c.candidate.result c.candidate.ensures.value c.candidate.ensures.bound c.in-Some.pair c.in-Some.is

-- its figures, as the row holds them
figures_here : (g : given.Over) (c : In-Some g) (row : SearchRow g.row.L-Load.Denot g.row.M-Total.Denot g.row.L-Weight.Denot g.row.M-Cost.Denot) (figures : Figures g.row.L-Weight.Denot g.row.M-Cost.Denot) → figures ≡ get_or (get_or c.loop-pair.work c.loop-pair.depth row).figures c.loop-pair.here.tried figures → figures ≡ figures_of (g.L.Limit.weighed c.args.limit.now) (g.M.Measure.costed c.args.measure.now) c.in-Some.pair
figures_here g c row figures read = read ∙ figures_at (laws g c.args.limit.now c.args.measure.now) c.requires.lawful c.loop-pair.invariant c.index-work-depth.result c.candidate.result c.candidate.ensures.value c.in-Some.pair c.in-Some.is row figures

-- the selection with it is within, as its load tells
within_here : (g : given.Over) (c : In-Some g) (load : g.row.L-Load.Denot) (breach : ℕ) → Takes (g.L.Limit.loaded c.args.limit.now) c.loop-pair.here.load c.in-Some.pair load → HoldsOfKept (g.L.Limit.loaded c.args.limit.now) load (λ s. breach ≡ g.L.Limit.breach c.args.limit.now s) → breach ≡ 0 → eqb (g.L.Limit.breach c.args.limit.now (base (stack c.loop-pair.work c.loop-pair.depth) ++ c.in-Some.pair ∷ [])) 0 ≡ true
within_here g c load breach takes holds none =
    let t = next_here g c in
    let q = base (stack c.loop-pair.work c.loop-pair.depth) ++ c.in-Some.pair ∷ [] in
    eq-eqb (g.L.Limit.breach c.args.limit.now q) 0 (sym (holds q (load_of t load takes) (taken t)) ∙ none)

pub loop-pair-init : goal.loop-pair-init
loop-pair-init g c =
    begin (laws g c.args.limit.now c.args.measure.now) c.requires.lawful c.args.links c.args.allowance c.args.setting.now c.args.work.now c.requires.some c.requires.rows refl c.requires.figures c.requires.places c.fresh-here.result c.empty_load.result c.empty_total.result c.fresh-here.ensures c.empty_load.ensures c.empty_total.ensures (eq-eqb (g.L.Limit.breach c.args.limit.now []) 0 c.requires.within)

pub returns-then-depth-eq0-clause-told : goal.returns-then-depth-eq0-clause-told
returns-then-depth-eq0-clause-told g c =
    let t = used_up_here g (goal.at.returns-then-depth-eq0-clause-told g c).In_default in
    over_told t c.if-depth-eq0.true c.ended.result c.ended.ensures

pub returns-then-depth-eq0-clause-setting : goal.returns-then-depth-eq0-clause-setting
returns-then-depth-eq0-clause-setting g c =
    let t = used_up_here g (goal.at.returns-then-depth-eq0-clause-setting g c).In_default in
    λ _. over_placed t c.if-depth-eq0.true

pub loop-pair-preserved-in_default : goal.loop-pair-preserved-in_default
loop-pair-preserved-in_default g c =
    let t = used_up_here g (goal.at.loop-pair-preserved-in_default g c).In_default in
    rw c.pruned-here.ensures (back_walks t c.if-depth-eq0.false c.index-work-depth-in_default.result)

pub loop-pair-smaller-in_default : goal.loop-pair-smaller-in_default
loop-pair-smaller-in_default g c =
    let t = used_up_here g (goal.at.loop-pair-smaller-in_default g c).In_default in
    rw c.pruned-here.ensures (back_less t c.if-depth-eq0.false c.index-work-depth-in_default.result)

pub returns-then-visits-allowance-clause-told : goal.returns-then-visits-allowance-clause-told
returns-then-visits-allowance-clause-told g c =
    let t = next_here g (goal.at.returns-then-visits-allowance-clause-told g c).In-Some in
    spent_told t c.if-visits-allowance.true

pub returns-then-visits-allowance-clause-setting : goal.returns-then-visits-allowance-clause-setting
returns-then-visits-allowance-clause-setting g c =
    let t = next_here g (goal.at.returns-then-visits-allowance-clause-setting g c).In-Some in
    spent_placed t c.if-visits-allowance.true

pub load_with-load-requires : goal.load_with-load-requires
load_with-load-requires g c =
    let t = next_here g (goal.at.load_with-load-requires g c).In-Some in
    record { load = may_take_load t; weight = ap (λ x. x.weight) (figures_here g (goal.at.load_with-load-requires g c).In-Some c.index-work-depth-in-loop-pair.result c.figures_at-figures.result c.figures_at-figures.ensures) }

pub total_with-total-requires : goal.total_with-total-requires
total_with-total-requires g c =
    let t = next_here g (goal.at.total_with-total-requires g c).In-Some in
    record { total = may_take_total t; cost = ap (λ x. x.cost) (figures_here g (goal.at.total_with-total-requires g c).In-Some c.index-work-depth-in-loop-pair.result c.figures_at-figures.result c.figures_at-figures.ensures) }

pub breach_of-requires : goal.breach_of-requires
breach_of-requires g c =
    let t = next_here g (goal.at.breach_of-requires g c).In-Some in
    let q = base (stack c.loop-pair.work c.loop-pair.depth) ++ c.in-Some.pair ∷ [] in
    let load = load_of t c.load_with-load.result c.load_with-load.ensures in
    (q, load, taken t)

pub loop-pair-preserved-then-breach_of-ne0 : goal.loop-pair-preserved-then-breach_of-ne0
loop-pair-preserved-then-breach_of-ne0 g c =
    let t = next_here g (goal.at.loop-pair-preserved-then-breach_of-ne0 g c).In-Some in
    let q = base (stack c.loop-pair.work c.loop-pair.depth) ++ c.in-Some.pair ∷ [] in
    let load = load_of t c.load_with-load.result c.load_with-load.ensures in
    let breach = c.breach_of.ensures q load (taken t) in
    outside_walks t c.if-visits-allowance.false (ne_eqb (g.L.Limit.breach c.args.limit.now q) 0 (λ e. c.if-breach_of-ne0.true (breach ∙ e)))

pub loop-pair-smaller-then-breach_of-ne0 : goal.loop-pair-smaller-then-breach_of-ne0
loop-pair-smaller-then-breach_of-ne0 g c =
    let t = next_here g (goal.at.loop-pair-smaller-then-breach_of-ne0 g c).In-Some in
    tried_turns t

pub loop-pair-preserved-then-is_beaten : goal.loop-pair-preserved-then-is_beaten
loop-pair-preserved-then-is_beaten g c =
    let t = next_here g (goal.at.loop-pair-preserved-then-is_beaten g c).In-Some in
    let total = total_of t c.total_with-total.result c.total_with-total.ensures in
    beaten_walks t c.if-visits-allowance.false c.total_with-total.result total c.is_beaten.result c.is_beaten.ensures c.if-is_beaten.true

pub loop-pair-smaller-then-is_beaten : goal.loop-pair-smaller-then-is_beaten
loop-pair-smaller-then-is_beaten g c =
    let t = next_here g (goal.at.loop-pair-smaller-then-is_beaten g c).In-Some in
    tried_turns t

pub loop-pair-preserved-then-depth-links : goal.loop-pair-preserved-then-depth-links
loop-pair-preserved-then-depth-links g c =
    let t = next_here g (goal.at.loop-pair-preserved-then-depth-links g c).In-Some in
    let load = load_of t c.load_with-load.result c.load_with-load.ensures in
    let within = within_here g (goal.at.loop-pair-preserved-then-depth-links g c).In-Some c.load_with-load.result c.breach_of.result c.load_with-load.ensures c.breach_of.ensures c.if-breach_of-ne0.false in
    let total = total_of t c.total_with-total.result c.total_with-total.ensures in
    next_walks t c.if-visits-allowance.false c.total_with-total.result total c.is_beaten.result c.is_beaten.ensures within c.if-is_beaten.false c.if-depth-links.true c.index-work-depth-then-depth-links.result c.leave.new.self c.leave.ensures c.fresh-here-then-depth-links.result c.load_with-load.result c.fresh-here-then-depth-links.ensures load

pub loop-pair-smaller-then-depth-links : goal.loop-pair-smaller-then-depth-links
loop-pair-smaller-then-depth-links g c =
    let t = next_here g (goal.at.loop-pair-smaller-then-depth-links g c).In-Some in
    let load = load_of t c.load_with-load.result c.load_with-load.ensures in
    let within = within_here g (goal.at.loop-pair-smaller-then-depth-links g c).In-Some c.load_with-load.result c.breach_of.result c.load_with-load.ensures c.breach_of.ensures c.if-breach_of-ne0.false in
    let total = total_of t c.total_with-total.result c.total_with-total.ensures in
    next_less t c.if-visits-allowance.false c.total_with-total.result total c.is_beaten.result c.is_beaten.ensures within c.if-is_beaten.false c.if-depth-links.true c.index-work-depth-then-depth-links.result c.leave.new.self c.leave.ensures c.fresh-here-then-depth-links.result c.load_with-load.result c.fresh-here-then-depth-links.ensures load

pub loop-pair-preserved : goal.loop-pair-preserved
loop-pair-preserved g c =
    let t = next_here g (goal.at.loop-pair-preserved g c).In-Some in
    let within = within_here g (goal.at.loop-pair-preserved g c).In-Some c.load_with-load.result c.breach_of.result c.load_with-load.ensures c.breach_of.ensures c.if-breach_of-ne0.false in
    let total = total_of t c.total_with-total.result c.total_with-total.ensures in
    rw c.pruned-here-in-loop-pair.ensures (best_walks t c.if-visits-allowance.false c.total_with-total.result total c.is_beaten.result c.is_beaten.ensures within c.if-is_beaten.false c.if-depth-links.false c.write_setting.new.setting c.write_setting.ensures)

pub loop-pair-smaller : goal.loop-pair-smaller
loop-pair-smaller g c =
    let t = next_here g (goal.at.loop-pair-smaller g c).In-Some in
    let within = within_here g (goal.at.loop-pair-smaller g c).In-Some c.load_with-load.result c.breach_of.result c.load_with-load.ensures c.breach_of.ensures c.if-breach_of-ne0.false in
    let total = total_of t c.total_with-total.result c.total_with-total.ensures in
    rw c.pruned-here-in-loop-pair.ensures (best_less t c.if-visits-allowance.false c.total_with-total.result total c.is_beaten.result c.is_beaten.ensures within c.if-is_beaten.false c.if-depth-links.false c.write_setting.new.setting c.write_setting.ensures)

pub offset_bounds-work-depth : goal.offset_bounds-work-depth
offset_bounds-work-depth g c =
    let deep = c.loop-pair.invariant.deep in
    let rows = c.requires.rows in
    let within : c.loop-pair.depth < length c.args.work.now = omega arith in
    scaled_Fits c.loop-pair.depth (length c.args.work.now) _ within (search rules)

pub offset_bounds-work-depth-in-loop-pair : goal.offset_bounds-work-depth-in-loop-pair
offset_bounds-work-depth-in-loop-pair g c =
    let deep = c.loop-pair.invariant.deep in
    let rows = c.requires.rows in
    let within : c.loop-pair.depth < length c.args.work.now = omega arith in
    scaled_Fits c.loop-pair.depth (length c.args.work.now) _ within (search rules)

pub offset_bounds-work-depth-then-depth-links : goal.offset_bounds-work-depth-then-depth-links
offset_bounds-work-depth-then-depth-links g c =
    let deep = c.loop-pair.invariant.deep in
    let rows = c.requires.rows in
    let within : c.loop-pair.depth < length c.args.work.now = omega arith in
    scaled_Fits c.loop-pair.depth (length c.args.work.now) _ within (search rules)

pub offset_bounds-work-depth-in_default : goal.offset_bounds-work-depth-in_default
offset_bounds-work-depth-in_default g c =
    let deep = c.loop-pair.invariant.deep in
    let rows = c.requires.rows in
    let within : c.loop-pair.depth - 1 < length c.args.work.now = omega arith in
    scaled_Fits (c.loop-pair.depth - 1) (length c.args.work.now) _ within (search rules)
