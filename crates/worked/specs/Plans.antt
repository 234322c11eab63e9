-- The calls that build the plans of the worked ports.
use Rattle.std.specs.Prelude.{ℕ, List, [], ◌∷◌, Some, None, Option}
use Rattle.plan.specs.declared.call.Call.{Call}
use Rattle.plan.specs.declared.call.Call.TheVariants.{AddLink, AddFlow}

-- link 1 with 80 bytes every 10 ms and 100 bytes every 12 ms
abbrev pub one_link : List (Option Call)
one_link = Some (AddLink 1) ∷ Some (AddFlow 1 1 80 10) ∷ Some (AddFlow 1 2 100 12) ∷ None ∷ None ∷ None ∷ []

-- link 1 with 200 bytes every 80 ms and 250 every 160 ms, and link 2 with 250 bytes every 220 ms and 200 every 40 ms
abbrev pub two_links : List (Option Call)
two_links =
    Some (AddLink 1) ∷ Some (AddFlow 1 1 200 80) ∷ Some (AddFlow 1 2 250 160)
    ∷ Some (AddLink 2) ∷ Some (AddFlow 2 3 250 220) ∷ Some (AddFlow 2 4 200 40)
    ∷ []

-- link 1 with one flow of this payload and this cycle
abbrev pub one_flow : ℕ → ℕ → List (Option Call)
one_flow payload cycle = Some (AddLink 1) ∷ Some (AddFlow 1 1 payload cycle) ∷ None ∷ None ∷ None ∷ None ∷ []
