use Rattle.std.proofs.Common.{rules, ◌≡◌, ℕ, eqb, arith, tests}
use Rattle.std.specs.List.{list_all, zip}
use Rattle.std.proofs.lemmas.Iterator.{YieldsList-from_slice, YieldsList-from_zip}
use Rattle.std.proofs.lemmas.Iterator.Search.{all_from_yields_List}
use Rattle.planner.specs.declared.row.Row.{Row}
use Rattle.planner.proofs.Names.{named_in_order}
use Rattle.planner.proofs.check.name_links.Goals as goal

pub returns-then-links-rows : goal.returns-then-links-rows
returns-then-links-rows c =
    let zipped : c.all.result ≡ list_all (λ (p : ℕ × Row). eqb p.1.link p.0) (zip c.args.links.now c.args.rows.now) = all_from_yields_List _ c.all.new.self _ _ c.all.ensures.ran (YieldsList-from_zip (YieldsList-from_slice c.args.links.now (cc)) (YieldsList-from_slice c.args.rows.now cc)) (λ x b q k. search (rules, tests)) in
    grind (arith, named_in_order)

pub returns-else-links-rows : goal.returns-else-links-rows
returns-else-links-rows c = grind (arith, named_in_order)
