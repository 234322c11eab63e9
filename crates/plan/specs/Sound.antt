-- What the tables of a plan record, and what every plan keeps.
use Rattle.std.specs.Prelude.{◌≡◌, ℕ, Bool, true, not, ◌&&◌, List, [], ◌∷◌, length, nat_le, nat_lt}
use Rattle.limits.specs.Range.{within, among}
use Rattle.std.specs.List.{list_all}
use Rattle.plan.specs.declared.flow.Flow.{Flow}
use Rattle.plan.specs.declared.tables.Tables.{Tables}
use Rattle.plan.specs.Bounds.{max_links, max_flows, max_payload, max_cycle}
use Rattle.plan.specs.Standing.{Standing, stands, short_cycle}

-- the standing that the tables record
abbrev pub recorded : Tables → Standing
recorded t = record { links = t.links.items; flows = t.flows.items }

-- no number comes twice
abbrev pub single : List ℕ → Bool
single [] = true
single (x ∷ xs) = not (among xs x) && single xs

-- the names of the flows rise, so that none comes twice
abbrev pub rising : List Flow → Bool
rising [] = true
rising (f ∷ fs) = list_all (λ g. nat_lt f.name g.name) fs && rising fs

-- the flow's link stands, and its payload and its cycle are in range
abbrev pub proper : Standing → Flow → Bool
proper st f = stands st f.link && (within 1 max_payload f.payload && within 1 max_cycle f.cycle)

-- there are not too many links and flows
abbrev pub few : Standing → Bool
few st = nat_le (length st.links) max_links && nat_le (length st.flows) max_flows

-- what the standing of every plan keeps: few links and flows, single names, proper flows, short common cycles
abbrev pub good : Standing → Bool
good st =
    few st
    && (single st.links
    && (rising st.flows && (list_all (proper st) st.flows && list_all (short_cycle st) st.links)))

-- what the tables of every plan keep
abbrev pub Sound : Tables → Type 0
Sound t = good (recorded t) ≡ true
