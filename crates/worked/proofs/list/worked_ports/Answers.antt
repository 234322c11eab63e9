use Rattle.std.proofs.Common.{refl}
use Rattle.worked.proofs.Computed.{told_as_worked}
use Rattle.worked.proofs.list.worked_ports.Goals as goal

pub returns-clause-list : goal.returns-clause-list
returns-clause-list c = refl

pub returns-clause-told : goal.returns-clause-told
returns-clause-told c = told_as_worked
