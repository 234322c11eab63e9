use Rattle.std.proofs.Common.{arith}
use Rattle.script.proofs.ReadBack.{read_is_written}
use Rattle.script.proofs.reader.Reader.new.Goals as goal

pub returns-clause-spelled : goal.returns-clause-spelled
returns-clause-spelled c = read_is_written c.args.script.now (λ i. omega (arith, c.type_inv.script i))
