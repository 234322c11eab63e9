use Rattle.std.proofs.Common.{◌≡◌, ◌++◌, decimal, take}
use Rattle.std.specs.List.{flat_map}
use Rattle.script.specs.Lines.{after_space}
use Rattle.script.proofs.lines.push_line.Given as goal

abbrev pub invariant-loop-number : goal.invariant-loop-number
invariant-loop-number l = l.lines.items ≡ l.fn.lines.items ++ (decimal l.first ++ flat_map after_space (take l.number-index l.others))
