use Rattle.script.specs.Run.{state}
use Rattle.script.proofs.Laws.{solves_promised}
use Rattle.script.proofs.Running.{goes_further}
use Rattle.script.proofs.run.Run.step.Goals as goal

pub returns-clause-further : goal.returns-clause-further
returns-clause-further c = goes_further (state c.args.self.now) (state c.perform_next.new.self) _ c.perform_next.ensures.told c.perform_next.ensures.state

pub returns-clause-solves : goal.returns-clause-solves
returns-clause-solves c = solves_promised
