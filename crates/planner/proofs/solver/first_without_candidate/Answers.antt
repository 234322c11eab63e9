use Rattle.std.proofs.Common.{rules, ◌≡◌, ℕ, List, Option, tests}
use Rattle.std.specs.List.{list_all, find, zip}
use Rattle.std.specs.Option.{option_map, is_none}
use Rattle.std.proofs.lemmas.Iterator.{YieldsList-from_slice, YieldsList-from_zip}
use Rattle.std.proofs.lemmas.Iterator.Search.{find_from_yields_List}
use Rattle.limits.specs.declared.pair.Pair.{Pair}
use Rattle.limits.specs.Gaps.{eight_gaps}
use Rattle.plan.specs.Held.{standing}
use Rattle.planner.specs.Choice.{first_without_candidate}
use Rattle.planner.proofs.Choices.{lacking}
use Rattle.planner.proofs.solver.first_without_candidate.Goals as goal

pub returns : goal.returns
returns c =
    let zipped : _ ≡ find (λ (p : ℕ × List (Option Pair)). list_all is_none p.1) (zip c.links.result.now c.args.table.now) = find_from_yields_List _ c.find.new.self _ c.find.result c.find.ensures.ran (YieldsList-from_zip (YieldsList-from_slice c.links.result.now cc) (YieldsList-from_slice c.args.table.now cc)) (λ x b q k. search (rules, tests)) in
    let link : option_map (λ x. x.0.now) c.find.result ≡ first_without_candidate eight_gaps (standing c.args.plan.now) = search (rules, lacking (standing c.args.plan.now) c.links.result.now c.args.table.now _ c.links.ensures.shown c.requires zipped) in
    search (rules, link)
