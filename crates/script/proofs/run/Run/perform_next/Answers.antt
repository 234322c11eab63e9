use Rattle.std.proofs.Common.{◌≡◌, ◌||◌, true, eqb, Ok, sym, ap, subst, ◌∙◌}
use Rattle.std.specs.Prelude.{is_some}
use Rattle.script.proofs.Placed.{opened_after}
use Rattle.script.proofs.run.Run.perform_next.Goals as goal

pub invariant_of-self-in-Err-perform-clause-opened : goal.invariant_of-self-in-Err-perform-clause-opened
invariant_of-self-in-Err-perform-clause-opened c =
    let run = c.args.self.now in
    let opened = opened_after run.reader.script.now run.reader.place c.next_command.new.self.place run.planning.limit c.in_ok-read-in-Ok.read (sym c.in-Ok.ensures.read ∙ ap Ok c.in_ok-read-in-Ok.was) (subst (λ b. (b || (eqb run.reader.place 0 || is_some run.planning.limit)) ≡ true) c.if-self.false run.opened) in
    rw (c.is_port-self.ensures, c.perform.ensures.limit) opened
