-- Which pairs a link may be given.
use Rattle.std.specs.Prelude.{ℕ, Bool, ◌&&◌, List}
use Rattle.limits.specs.declared.pair.Pair.{Pair}
use Rattle.limits.specs.Range.{within, among}

-- the smallest MTU, in bytes
abbrev pub mtu_min : ℕ
mtu_min = 1

-- the largest MTU, in bytes
abbrev pub mtu_max : ℕ
mtu_max = 1471

-- the gap of the pair is one of the gaps
abbrev pub lawful_gap : List ℕ → Pair → Bool
lawful_gap gaps p = among gaps p.gap

-- the MTU of the pair is in range
abbrev pub lawful_mtu : Pair → Bool
lawful_mtu p = within mtu_min mtu_max p.mtu

-- a pair is lawful when both are
abbrev pub lawful : List ℕ → Pair → Bool
lawful gaps p = lawful_gap gaps p && lawful_mtu p
