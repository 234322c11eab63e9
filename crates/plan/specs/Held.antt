-- The standing of a plan.
use Rattle.plan.specs.declared.Plan.{Plan}
use Rattle.plan.specs.Sound.{recorded}
use Rattle.plan.specs.Standing.{Standing}

-- the standing that the plan's tables record
abbrev pub standing : Plan → Standing
standing plan = recorded plan.tables
