-- Where a flow of a name stands among the flows. Only functions inside the crate speak of this.
use Rattle.std.specs.Prelude.{ℕ, suc, if◌then◌else◌, List, [], ◌∷◌, nat_lt}
use Rattle.plan.specs.declared.flow.Flow.{Flow}

-- how many flows at the front have a name below this one
abbrev pub position_of : ℕ → List Flow → ℕ
position_of name [] = 0
position_of name (f ∷ fs) = if nat_lt f.name name then suc (position_of name fs) else 0
