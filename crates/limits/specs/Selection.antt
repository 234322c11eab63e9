-- Selections: the lists of pairs that limits and measures speak of.
use Rattle.std.specs.Prelude.{◌≡◌, ℕ, ◌≤◌, Bool, true, ◌&&◌, List, length, nat_le}
use Rattle.std.specs.List.{list_all, AllZip, AllByRecursion}
use Rattle.limits.specs.declared.pair.Pair.{Pair}
use Rattle.limits.specs.Gaps.{eight_gaps}
use Rattle.limits.specs.Lawful.{lawful}

-- the most pairs in a selection
abbrev pub max_pairs : ℕ
max_pairs = 64

-- the pair is lawful
abbrev pub Lawful : Pair → Type 0
Lawful p = lawful eight_gaps p ≡ true

-- a selection: not too many pairs, each lawful
pub record Selection (s : List Pair) : Type 0 where
  pub few : length s ≤ max_pairs
  pub each : AllByRecursion Lawful s

-- the same as a test
abbrev pub is_selection : List Pair → Bool
is_selection s = nat_le (length s) max_pairs && list_all (lawful eight_gaps) s

-- the pairs have the same gap, and the MTU of the first does not exceed that of the second
abbrev pub Lower : Pair → Pair → Type 0
Lower p q = (p.gap ≡ q.gap) × (p.mtu ≤ q.mtu)

-- two lists of equal length, the first lower at every place
abbrev pub Lowered : List Pair → List Pair → Type 0
Lowered xs ys = AllZip Lower xs ys
