use Rattle.std.proofs.Common.{◌≡◌, ◌+◌, ◌*◌, ◌≤◌, [], ◌∷◌, ◌++◌, length, take}
use Rattle.std.specs.List.{flat_map}
use Rattle.script.specs.Lines.{line, row_line}
use Rattle.script.proofs.lines.push_offer.Given as goal

abbrev pub invariant-loop-row : goal.invariant-loop-row
invariant-loop-row l = record {
  lines : l.lines.items ≡ line l.command (0 ∷ l.offer.units ∷ l.offer.bytes ∷ l.offer.visits ∷ []) ++ flat_map row_line (take l.row-index l.offer.rows.items);
  short : length l.lines.items ≤ 55 + 18 * l.row-index;
}
