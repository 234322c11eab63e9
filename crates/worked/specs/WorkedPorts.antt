-- The worked ports: plans and questions, with what was worked out, apart from the program, to be told of each.
use Rattle.std.specs.Prelude.{◌≡◌, ℕ, List, [], ◌∷◌, ◌++◌, map, Some, None, Option}
use Rattle.limits.specs.declared.pair.Pair.{Pair}
use Rattle.plan.specs.declared.call.Call.{Call}
use Rattle.plan.specs.declared.call.Call.TheVariants.{AddFlow}
use Rattle.plan.specs.Candidate.{pair_of}
use Rattle.planner.specs.declared.row.Row.{Row}
use Rattle.worked.specs.declared.worked_port.Asked.{Asked}
use Rattle.worked.specs.declared.worked_port.Asked.TheVariants as asked
use Rattle.worked.specs.declared.worked_port.By.TheVariants as by
use Rattle.worked.specs.declared.worked_port.Told.{Told}
use Rattle.worked.specs.declared.worked_port.Told.TheVariants as told
use Rattle.worked.specs.declared.worked_port.WorkedPort.{WorkedPort}
use Rattle.worked.specs.Plans.{one_link, two_links, one_flow}
use Rattle.worked.specs.Told.{blank, told_by_definition, told_as_worked}

-- a worked port: the calls, what is asked, and what is told
abbrev pub worked : List (Option Call) → Asked → Told → WorkedPort
worked calls asked told = record { calls = calls; asked = asked; told = told }

-- the candidates of a link
abbrev pub pairs : List (Option Call) → ℕ → List (Option Pair) → WorkedPort
pairs calls link candidates = worked calls (asked.Pairs link) (told.Pairs candidates)

-- a candidate of this gap and this MTU
abbrev pub at : ℕ → ℕ → Option Pair
at gap mtu = Some (pair_of gap mtu)

-- a solve by reserve at a port whose links may reserve all of its rate, at any gap
abbrev pub by_reserve : List (Option Call) → ℕ → ℕ → Told → WorkedPort
by_reserve calls rate allowance told = worked calls (asked.Solve rate rate 1 by.Reserve allowance) told

-- a solve by burst at a port of this rate and this share, at any gap
abbrev pub by_burst : List (Option Call) → ℕ → ℕ → ℕ → Told → WorkedPort
by_burst calls rate share allowance told = worked calls (asked.Solve rate share 1 by.Burst allowance) told

-- the row of a link with its gap and its MTU
abbrev pub row : ℕ → ℕ → ℕ → Row
row link gap mtu = record { link = link; pair = pair_of gap mtu }

-- a setting that reserves so many units, found in so many visits
abbrev pub reserves : ℕ → ℕ → List Row → Told
reserves units visits rows = told.ByReserve (record { total = units; visits = visits }) rows

-- a setting with so many bytes in its frames, which reserves so many units, found in so many visits
abbrev pub bursts : ℕ → ℕ → ℕ → List Row → Told
bursts bytes units visits rows =
    told.ByBurst (record { total = record { bytes = bytes; units = units }; visits = visits }) rows

-- one more flow of one byte every 1,000 ms
abbrev pub one_more_flow : List (Option Call) → Told → WorkedPort
one_more_flow calls told = worked calls (asked.Edit (AddFlow 1 2 1 1000)) told

-- the pairs of links with two flows
abbrev pub pairs_of_two_flows : List WorkedPort
pairs_of_two_flows =
    pairs one_link 1 (at 1 17 ∷ at 2 40 ∷ at 4 100 ∷ None ∷ None ∷ None ∷ None ∷ None ∷ [])
    ∷ pairs two_links 1 (at 1 5 ∷ at 2 9 ∷ at 4 17 ∷ at 8 34 ∷ at 16 67 ∷ at 32 200 ∷ None ∷ None ∷ [])
    ∷ pairs two_links 2 (at 1 7 ∷ at 2 13 ∷ at 4 25 ∷ at 8 50 ∷ at 16 125 ∷ at 32 250 ∷ None ∷ None ∷ [])
    ∷ []

-- one link, at rates that forbid one of its pairs after the other
abbrev pub one_link_by_reserve : List WorkedPort
one_link_by_reserve =
    by_reserve one_link 2905 3 (reserves 5344 3 (row 1 4 100 ∷ blank ∷ []))
    ∷ by_reserve one_link 2904 3 (reserves 6848 3 (row 1 2 40 ∷ blank ∷ []))
    ∷ by_reserve one_link 1461 3 (reserves 10752 3 (row 1 1 17 ∷ blank ∷ []))
    ∷ by_reserve one_link 1460 3 (told.Refused 18 0)
    ∷ by_reserve one_link 1460 2 (told.Refused 17 0)
    ∷ []

-- two links, each with an allowance that is the visits, or one less where the solve is spent
abbrev pub two_links_by_reserve : List WorkedPort
two_links_by_reserve =
    by_reserve two_links 1000 6 (told.Refused 18 0)
    ∷ by_reserve two_links 1000 5 (told.Refused 17 0)
    ∷ by_reserve two_links 10000 42 (reserves 2340 42 (row 1 16 67 ∷ row 2 32 250 ∷ []))
    ∷ by_reserve two_links 10000 41 (told.Refused 17 0)
    ∷ by_reserve two_links 10157 42 (reserves 2336 42 (row 1 32 200 ∷ row 2 32 250 ∷ []))
    ∷ by_reserve two_links 10156 42 (reserves 2340 42 (row 1 16 67 ∷ row 2 32 250 ∷ []))
    ∷ []

-- the same links by burst
abbrev pub two_links_by_burst : List WorkedPort
two_links_by_burst =
    by_burst two_links 10000 10000 36 (bursts 146 18688 36 (row 1 1 5 ∷ row 2 1 7 ∷ []))
    ∷ by_burst two_links 10000 1167 36 (bursts 150 14336 36 (row 1 2 9 ∷ row 2 1 7 ∷ []))
    ∷ []

-- the largest payload, as often as it is served and once more often, which no pair serves
abbrev pub largest_payload : List WorkedPort
largest_payload =
    pairs (one_flow 8192 6) 1 (at 1 1366 ∷ None ∷ None ∷ None ∷ None ∷ None ∷ None ∷ None ∷ [])
    ∷ pairs (one_flow 8192 5) 1 (None ∷ None ∷ None ∷ None ∷ None ∷ None ∷ None ∷ None ∷ [])
    ∷ by_reserve (one_flow 8192 5) 10000 0 (told.Refused 16 1)
    ∷ []

-- the candidates of one flow that fills the longest gap
abbrev pub filling : List (Option Pair)
filling = at 1 12 ∷ at 2 23 ∷ at 4 46 ∷ at 8 92 ∷ at 16 184 ∷ at 32 368 ∷ at 64 736 ∷ at 128 1471 ∷ []

-- those of one flow that does not fit it
abbrev pub too_often : List (Option Pair)
too_often = at 1 12 ∷ at 2 24 ∷ at 4 48 ∷ at 8 99 ∷ at 16 211 ∷ at 32 491 ∷ at 64 1471 ∷ None ∷ []

-- the two flows
abbrev pub longest_gap : List WorkedPort
longest_gap = pairs (one_flow 1471 128) 1 filling ∷ pairs (one_flow 1471 127) 1 too_often ∷ []

-- two cycles of a link, whose least common multiple is short enough, or too long
abbrev pub common_cycles : List WorkedPort
common_cycles =
    one_more_flow (one_flow 1 999) told.Accepted
    ∷ one_more_flow (one_flow 1 1001) (told.Refused 11 0)
    ∷ []

-- the worked ports
abbrev pub worked_ports : List WorkedPort
worked_ports =
    pairs_of_two_flows ++ one_link_by_reserve ++ two_links_by_reserve ++ two_links_by_burst ++ largest_payload
    ++ longest_gap ++ common_cycles

-- of each port the definitions tell what was worked out
abbrev pub ToldAsWorked : List WorkedPort → Type 0
ToldAsWorked ports = map told_by_definition ports ≡ map told_as_worked ports
