-- The flow that a read past the end gives.
use Rattle.plan.specs.declared.flow.Flow.{Flow}

abbrev pub nil : Flow
nil = record { name = 0; link = 0; payload = 0; cycle = 0 }
