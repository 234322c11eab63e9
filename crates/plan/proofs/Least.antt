-- What a link's candidates are.
use Rattle.std.proofs.Common.{◌≡◌, ℕ, suc, true, List, get_or, Some, None, Option, sym, refl, ap, ◌∙◌, subst, arith, MatchOption}
use Rattle.std.specs.Option.{option_map}
use Rattle.std.proofs.lemmas.List.{get_or-map}
use Rattle.std.proofs.lemmas.Bool.{and_from}
use Rattle.limits.specs.declared.pair.Pair.{Pair}
use Rattle.limits.specs.Lawful.{mtu_min, mtu_max}
use Rattle.limits.specs.Range.{among}
use Rattle.limits.specs.Among.{among-get_or}
use Rattle.limits.specs.Within.{within_from_le}
use Rattle.plan.specs.declared.flow.Flow.{Flow}
use Rattle.plan.specs.Candidate.{first_from, least_mtu, pair_of, candidate, candidates, LeastAt}
use Rattle.plan.specs.Message.{meets}
use Rattle.plan.specs.Queries.{LawfulIfAny, AllLeast}
use Rattle.plan.proofs.First.{NoneFrom, First, first_is}

pair_least : (fs : List Flow) (g : ℕ) (o : Option ℕ) → MatchOption o (NoneFrom (meets fs g) mtu_min (suc mtu_max)) (First (meets fs g) mtu_min mtu_max) → LeastAt fs g (option_map (pair_of g) o)
pair_least fs g None no' = λ m l h. no' m l (omega arith)
pair_least fs g (Some n) c = (refl, c.0, omega arith, c.2, λ m l t. grind (arith, t, c.3 m))

pub candidate_least : (fs : List Flow) (g : ℕ) → LeastAt fs g (candidate fs g)
unfolding least_mtu
candidate_least fs g = pair_least fs g (first_from (meets fs g) mtu_min mtu_max) (first_is (meets fs g) mtu_min mtu_max)

-- a pair with the gap at k, and an MTU in range, is lawful
pub lawful_least : (gaps : List ℕ) (fs : List Flow) (g : ℕ) (o : Option Pair) → among gaps g ≡ true → LeastAt fs g o → LawfulIfAny gaps o
lawful_least gaps fs g None e h = tt
lawful_least gaps fs g (Some p) e h = and_from _ _ (ap (among gaps) h.0 ∙ e) (within_from_le mtu_min mtu_max p.mtu h.1 h.2)

pub candidates_least : (gaps : List ℕ) (fs : List Flow) (written : List (Option Pair)) → written ≡ candidates gaps fs → AllLeast gaps fs written
candidates_least gaps fs written e k h =
    let g = get_or gaps k 0 in
    let least = candidate_least fs g in
    subst (λ o. LeastAt fs g o × LawfulIfAny gaps o) (sym (ap (λ l. get_or l k None) e ∙ get_or-map (candidate fs) gaps k 0 None h))
    (least, lawful_least gaps fs g (candidate fs g) (among-get_or gaps k h) least)
