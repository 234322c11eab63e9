-- A setting made elsewhere: what it is asked.
use Rattle.std.specs.Prelude.{ℕ, Bool, if◌then◌else◌, List, [], ◌∷◌, map, Some, None, Option, ◌==◌, nat_eq}
use Rattle.std.specs.Cmp.Lexicographic.{pointwise}
use Rattle.limits.specs.declared.pair.Pair.{Pair}
use Rattle.limits.specs.Lawful.{lawful_gap, lawful_mtu}
use Rattle.plan.specs.Message.{meets}
use Rattle.plan.specs.Queries.{first_without_flow}
use Rattle.plan.specs.Standing.{Standing, flows_of}
use Rattle.planner.specs.declared.row.Row.{Row}
use Rattle.planner.specs.Asked.{Asked, first_failing}

-- the pairs of the rows
abbrev pub pairs : List Row → List Pair
pairs rows = map (λ row. row.pair) rows

-- the rows name the links, each once and in their order
abbrev pub name_links : List ℕ → List Row → Bool
name_links links rows = pointwise nat_eq (map (λ row. row.link) rows) links

-- the gap of the row is one of the gaps
abbrev pub gap_of_row_lawful : List ℕ → Row → Bool
gap_of_row_lawful gaps row = lawful_gap gaps row.pair

-- the MTU of the row is in range
abbrev pub mtu_of_row_lawful : Row → Bool
mtu_of_row_lawful row = lawful_mtu row.pair

-- the pair of the row meets the message rule of its link
abbrev pub messages_served : Standing → Row → Bool
messages_served st row = meets (flows_of st row.link) row.pair.gap row.pair.mtu

-- nothing where the test holds, else 0, for a question that tells no detail
abbrev pub plainly : Bool → Option ℕ
plainly holds = if holds then None else Some 0

-- a breach, if it is one
abbrev pub if_any : ℕ → Option ℕ
if_any breach = if breach == 0 then None else Some breach

-- what the rows are asked, each question of every row before the next: is the gap one of the gaps, is the MTU in range,
-- does the message rule hold, and are the pairs within the limit?
abbrev pub row_questions : List ℕ → (List Pair → ℕ) → Standing → List Row → Asked
row_questions gaps breach st rows =
    (20, first_failing (gap_of_row_lawful gaps) rows)
    ∷ (21, first_failing mtu_of_row_lawful rows)
    ∷ (22, first_failing (messages_served st) rows)
    ∷ (23, if_any (breach (pairs rows)))
    ∷ []

-- what a setting is asked: has every link a flow, do the rows name the links, and then what the rows are asked
abbrev pub setting_questions : List ℕ → (List Pair → ℕ) → Standing → List Row → Asked
setting_questions gaps breach st rows =
    (13, first_without_flow st)
    ∷ (19, plainly (name_links st.links rows))
    ∷ row_questions gaps breach st rows
