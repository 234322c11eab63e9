-- What is told of a list of pairs that may be no selection.
use Rattle.std.specs.Prelude.{if◌then◌else◌, List, Some, None, Option}
use Rattle.limits.specs.declared.pair.Pair.{Pair}
use Rattle.limits.specs.Selection.{is_selection}

-- of a selection what it means, and of any other list nothing
abbrev pub judged : {X : Type 0} → (List Pair → X) → List Pair → Option X
judged meaning s = if is_selection s then Some (meaning s) else None
