-- How much a plan holds, and the ranges of a flow's figures.
use Rattle.std.specs.Prelude.{ℕ}

-- links in a plan
abbrev pub max_links : ℕ
max_links = 64

-- flows in a plan, of all its links together
abbrev pub max_flows : ℕ
max_flows = 256

-- bytes of a message
abbrev pub max_payload : ℕ
max_payload = 8192

-- milliseconds from one message to the next
abbrev pub max_cycle : ℕ
max_cycle = 10000

-- milliseconds after which all flows of a link start together again
abbrev pub max_common_cycle : ℕ
max_common_cycle = 1000000
