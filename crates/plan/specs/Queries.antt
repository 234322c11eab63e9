-- What is asked of a plan without changing it: the questions of each call, and what it tells or writes.
use Rattle.std.specs.Prelude.{◌≡◌, ℕ, ◌<◌, Bool, true, if◌then◌else◌, not, ◌&&◌, List, [], ◌∷◌, length, Some, None, Option, ◌==◌, slice_index, slice_index_or}
use Rattle.limits.specs.declared.pair.Pair.{Pair}
use Rattle.limits.specs.Lawful.{lawful}
use Rattle.limits.specs.Questions.{first_no}
use Rattle.std.specs.List.{list_any, find}
use Rattle.plan.specs.declared.flow.Flow.{Flow}
use Rattle.plan.specs.Candidate.{candidates, LeastAt}
use Rattle.plan.specs.Message.{meets}
use Rattle.plan.specs.Standing.{Standing, stands, is_of, flows_of, has_flow}

-- the value told is x
abbrev pub Is : ℕ → ℕ → Type 0
Is x y = y ≡ x

-- the common cycle of a link: does the link stand?
abbrev pub cycle_answer : Standing → ℕ → ℕ
cycle_answer st link = first_no ((6, stands st link) ∷ [])

-- the pairs of a link: does the link stand, and has it a flow?
abbrev pub pairs_answer : Standing → ℕ → ℕ
pairs_answer st link = first_no ((6, stands st link) ∷ (13, has_flow st link) ∷ [])

-- the lent place after the call: the candidate at each gap, or as it was where the call is refused
abbrev pub pairs_written : List ℕ → Standing → ℕ → List (Option Pair) → List (Option Pair)
pairs_written gaps st link before =
    if pairs_answer st link == 0 then candidates gaps (flows_of st link) else before

-- the link has no flow
abbrev pub lacks_flow : List Flow → ℕ → Bool
lacks_flow fs link = not (list_any (is_of link) fs)

-- the first link in plan order that has no flow
abbrev pub first_without_flow : Standing → Option ℕ
first_without_flow st = find (lacks_flow st.flows) st.links

-- a link that stands is served by a lawful pair that meets its message rule
abbrev pub served : List ℕ → Standing → ℕ → Pair → Bool
served gaps st link p = stands st link && (lawful gaps p && meets (flows_of st link) p.gap p.mtu)

-- a pair, where there is one, is lawful
abbrev pub LawfulIfAny : List ℕ → Option Pair → Type 0
LawfulIfAny gaps None = Unit {0}
LawfulIfAny gaps (Some p) = lawful gaps p ≡ true

-- each row is the candidate at its gap, and lawful
abbrev pub AllLeast : List ℕ → List Flow → List (Option Pair) → Type 0
AllLeast gaps fs written =
    (k : ℕ) → k < length gaps →
    LeastAt fs (slice_index gaps k) (slice_index_or written k None) × LawfulIfAny gaps (slice_index_or written k None)
