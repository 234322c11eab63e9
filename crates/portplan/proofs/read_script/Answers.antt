use Rattle.std.proofs.Common.{◌+◌}
use Rattle.script.specs.Reading.{script_max}
use Rattle.portplan.proofs.Known.{cut}
use Rattle.portplan.proofs.read_script.Goals as goal

pub returns : goal.returns
returns g c =
    cut g.R.Read.remaining c.read_to_end.result c.take.result c.args.reader (script_max + 1) c.args.script.now.items c.read_to_end.new.buf.items
    c.take.ensures.limit c.take.ensures.inner c.read_to_end.ensures.bytes
