-- What is kept of a selection, as a load or a total, and what is kept of it with one more pair.
use Rattle.std.specs.Prelude.{◌≡◌, List, [], ◌∷◌, ◌++◌}
use Rattle.limits.specs.declared.pair.Pair.{Pair}
use Rattle.limits.specs.Selection.{Selection}

-- this is kept of some selection
abbrev pub IsKept : {X : Type 0} → (List Pair → X) → X → Type 0
IsKept meaning kept = (s : List Pair) × (kept ≡ meaning s) × Selection s

-- this holds of every selection of which that is kept
abbrev pub HoldsOfKept : {X : Type 0} → (List Pair → X) → X → (List Pair → Type 0) → Type 0
HoldsOfKept meaning kept Fact = (s : List Pair) → kept ≡ meaning s → Selection s → Fact s

-- this is kept of some list, which is a selection with the pair
abbrev pub MayTake : {X : Type 0} → (List Pair → X) → X → Pair → Type 0
MayTake meaning kept p = (s : List Pair) × (kept ≡ meaning s) × Selection (s ++ p ∷ [])

-- of every such list this is kept with the pair
abbrev pub Takes : {X : Type 0} → (List Pair → X) → X → Pair → X → Type 0
Takes meaning kept p next = (s : List Pair) → kept ≡ meaning s → Selection (s ++ p ∷ []) → next ≡ meaning (s ++ p ∷ [])
