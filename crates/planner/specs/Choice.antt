-- What the links of a standing may be given, and their candidates.
use Rattle.std.specs.Prelude.{◌≡◌, ℕ, Bool, true, ◌&&◌, List, map, is_none, Option}
use Rattle.std.specs.List.{AllZip, list_all, find}
use Rattle.limits.specs.declared.pair.Pair.{Pair}
use Rattle.limits.specs.Lawful.{lawful}
use Rattle.plan.specs.declared.flow.Flow.{Flow}
use Rattle.plan.specs.Candidate.{candidates}
use Rattle.plan.specs.Message.{meets}
use Rattle.plan.specs.Standing.{Standing, flows_of}
use Rattle.planner.specs.Table.{candidates_of}

-- a pair serves a link that has these flows: it is lawful, and it meets their message rule
abbrev pub serves : List ℕ → List Flow → Pair → Bool
serves gaps fs p = lawful gaps p && meets fs p.gap p.mtu

-- a choice gives each link, in plan order, any pair that serves it
abbrev pub Choice : List ℕ → Standing → List Pair → Type 0
Choice gaps st s = AllZip (λ link p. serves gaps (flows_of st link) p ≡ true) st.links s

-- for each link, in plan order, its candidate at each gap
abbrev pub candidate_table : List ℕ → Standing → List (List (Option Pair))
candidate_table gaps st = map (λ link. candidates gaps (flows_of st link)) st.links

-- the candidates of each link
abbrev pub link_candidates : List ℕ → Standing → List (List Pair)
link_candidates gaps st = candidates_of (candidate_table gaps st)

-- a link that has these flows has no candidate
abbrev pub lacks_candidate : List ℕ → List Flow → Bool
lacks_candidate gaps fs = list_all is_none (candidates gaps fs)

-- the first link in plan order that has no candidate
abbrev pub first_without_candidate : List ℕ → Standing → Option ℕ
first_without_candidate gaps st = find (λ link. lacks_candidate gaps (flows_of st link)) st.links
