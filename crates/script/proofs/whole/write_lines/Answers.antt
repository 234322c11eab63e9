use Rattle.script.specs.Run.{state}
use Rattle.script.proofs.Running.{going_from_start, going_further, gone}
use Rattle.script.proofs.whole.write_lines.Goals as goal

pub loop-length-init : goal.loop-length-init
loop-length-init g c = going_from_start c.args.script.now (state c.new-run.result) (g.W.Write.contents c.args.out.now) c.new-run.ensures.state

pub loop-length-preserved : goal.loop-length-preserved
loop-length-preserved g c =
    going_further c.args.script.now (state c.loop-length.run) (state c.next_lines.new.self) (g.W.Write.contents c.args.out.now) (g.W.Write.contents c.loop-length.out) (g.W.Write.contents c.write_all.new.self)
    c.in-Some.length c.loop-length.buffer c.next_lines.new.buffer c.loop-length.invariant c.in-Some.ensures.told c.in-Some.ensures.bytes c.in-Some.ensures.state c.in_ok-write_all.ensures.bytes

pub returns : goal.returns
returns g c =
    gone c.args.script.now (state c.loop-length.run) (g.W.Write.contents c.args.out.now) (g.W.Write.contents c.loop-length.out) c.loop-length.invariant c.in_default.ensures.told
