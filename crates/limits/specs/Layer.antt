-- What is kept of a selection, and of a pair, under a layer.
use Rattle.std.specs.Prelude.{List}
use Rattle.limits.specs.declared.layer.LayerLoad.{LayerLoad}
use Rattle.limits.specs.declared.layer.LayerWeight.{LayerWeight}
use Rattle.limits.specs.declared.pair.Pair.{Pair}

-- the load of its rule beside that of the limit below
abbrev pub layer_load : {A B : Type 0} → (List Pair → A) → (List Pair → B) → List Pair → LayerLoad A B
layer_load rule below s = record { rule = rule s; below = below s }

-- the weight by its rule beside that by the limit below
abbrev pub layer_weight : {A B : Type 0} → (Pair → A) → (Pair → B) → Pair → LayerWeight A B
layer_weight rule below p = record { rule = rule p; below = below p }
