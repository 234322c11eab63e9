-- The limit on pairs at a gap of 1 ms.
use Rattle.std.specs.Prelude.{ℕ, Bool, List, ◌==◌, nat_le}
use Rattle.std.specs.List.{count_by}
use Rattle.limits.specs.declared.pair.Pair.{Pair}

-- the gap of the pair is 1 ms
abbrev pub is_fast : Pair → Bool
is_fast p = p.gap == 1

-- how many such pairs there are
abbrev pub fast : List Pair → ℕ
fast s = count_by is_fast s

-- there are at most so many
abbrev pub few_fast : ℕ → List Pair → Bool
few_fast most s = nat_le (fast s) most
