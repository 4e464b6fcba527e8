use Rattle.std.proofs.Common.{ℕ, ◌+◌, ◌-◌, ◌*◌, ◌≤◌, drop, length}
use Rattle.c_tree.specs.Views.{nodes_in}
use Rattle.c_grammar.specs.CPlaces.Lines.{row_line}
use Rattle.c_grammar.specs.CPlaces.Stands.{Stands}
use Rattle.c_lexer.specs.CReading.Chunks.{Follow}
use Rattle.c_parser.proofs.Chunks.{GoesOn, BadGoesOn}
use Rattle.c_parser.proofs.units.read_unit.Given as goal

abbrev pub invariant-reading : goal.invariant-reading
invariant-reading l = record {
  within : l.index ≤ length l.bounds.items;
  follow : Follow l.all l.start (drop l.index l.bounds.items) (length l.all);
  parses : GoesOn l.all l.bounds.items l.trees.items l.names.now (drop l.index l.bounds.items);
  bad : BadGoesOn l.all l.bounds.items l.index l.names.now (drop l.index l.bounds.items);
  stands : Stands (row_line (nodes_in l.trees.items)) 0 l.next l.all (drop l.start l.all);
  spent : l.next ≤ 16 * l.start;
}

abbrev pub decreases-reading : goal.decreases-reading
decreases-reading l = length l.bounds.items - l.index
