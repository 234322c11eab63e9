-- Breaches: 0 says that a selection is within a limit.
use Rattle.std.specs.Prelude.{ℕ, ◌+◌, min, Bool, if◌then◌else◌, ◌==◌}

-- the greatest breach that is told
abbrev pub max_breach : ℕ
max_breach = 4294967295

-- the breach of a rule alone
abbrev pub unless : Bool → ℕ
unless holds = if holds then 0 else 1

-- the breach of a layer, from the breach of its own rule and that of the limit below: 1 where its own rule fails, else 0 where
-- the limit below has breach 0, else one more than the breach below, but at most the greatest
abbrev pub stacked : ℕ → ℕ → ℕ
stacked own below = if own == 0 then if below == 0 then 0 else min (below + 1) max_breach else 1
