use Rattle.std.proofs.Common.{◌≡◌, ◌+◌, ◌-◌, length}
use Rattle.type_rules.specs.Order.{put}
use Rattle.typed_unit.specs.Tables.{cell_of, table_of}
use Rattle.typed_unit.proofs.table.Table.put.Given as goal

-- the table with the cell is the same, however far it reaches by now
abbrev pub invariant-loop-self : goal.invariant-loop-self
invariant-loop-self l = put l.number (cell_of l.cell) (table_of l.self) ≡ put l.number (cell_of l.cell) (table_of l.fn.self)

abbrev pub decreases-loop-self : goal.decreases-loop-self
decreases-loop-self l = l.position + 1 - length l.self.cells.items
