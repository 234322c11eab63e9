-- The standing of a plan that was issued.
use Rattle.plan.specs.Held.{standing}
use Rattle.plan.specs.Standing.{Standing}
use Rattle.planner.specs.declared.issued_plan.IssuedPlan.{IssuedPlan}

-- what stood in the plan when it was issued
abbrev pub issued : IssuedPlan → Standing
issued issued_plan = standing issued_plan.plan
