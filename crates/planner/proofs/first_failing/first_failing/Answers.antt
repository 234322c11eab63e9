use Rattle.std.proofs.Common.{◌≡◌, suc, Bool, not, ap, ◌∙◌, rules, of_calls}
use Rattle.std.specs.List.{position}
use Rattle.std.specs.Option.{option_map}
use Rattle.std.proofs.lemmas.Fn.{says_at}
use Rattle.std.proofs.lemmas.Iterator.{YieldsList-from_slice}
use Rattle.std.proofs.lemmas.Iterator.Search.{position_from_yields_List}
use Rattle.planner.proofs.Failing.{failing_is_position}
use Rattle.planner.proofs.first_failing.first_failing.Goals as goal

-- what the chain's closure answers, where `passes` answers as the test does
not_passed : (passed answer tested : Bool) → answer ≡ not passed → passed ≡ tested → answer ≡ not tested
not_passed passed answer tested is same = is ∙ ap not same

pub returns : goal.returns
returns g c test same =
    let index : c.position.result ≡ position (λ row. not (test row)) c.args.rows.now = position_from_yields_List _ _ _ _ c.position.ensures.ran (YieldsList-from_slice c.args.rows.now cc) (λ x b q k. (ap (λ y. record { 0 = y }) (search rules), search (not_passed, same, says_at, of_calls))) in
    let place : c.map.result ≡ option_map suc c.position.result = search rules in
    place ∙ ap (option_map suc) index ∙ failing_is_position test c.args.rows.now
