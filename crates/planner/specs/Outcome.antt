-- How a search ends.
use Rattle.std.specs.Prelude.{ℕ, if◌then◌else◌, List, ◌++◌, length, drop, Some, None, Option, nat_lt}
use Rattle.limits.specs.declared.pair.Pair.{Pair}
use Rattle.planner.specs.declared.outcome.Outcome.{Outcome}
use Rattle.planner.specs.declared.outcome.Outcome.TheVariants.{Spent, NoneWithin, Found}
use Rattle.planner.specs.Named.{Aim, visits, named}

-- what is told of the named setting, or of there being none, after so many visits
abbrev pub told_of : {T : Type 0} → Aim T → ℕ → Option (List Pair) → Outcome T
told_of a count None = NoneWithin count
told_of a count (Some s) = Found (a.total s) count

-- spent exactly when the allowance is below the visits; else what is told of the named setting, with the visits
abbrev pub outcome : {T : Type 0} → Aim T → List (List Pair) → ℕ → Outcome T
outcome a cs allowance = if nat_lt allowance (visits a cs) then Spent else told_of a (visits a cs) (named a cs)

-- a setting in its place: the first places hold its pairs, and those past them what they held; without one, all what they held
abbrev pub placed : Option (List Pair) → List Pair → List Pair
placed None old = old
placed (Some s) old = s ++ drop (length s) old
