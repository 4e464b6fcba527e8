-- What is known of the trees of a typed unit of the program.
use Rattle.c_objects.specs.Facts.{Facts, facts_of}
use Rattle.c_tree.specs.Views.{nodes_of}
use Rattle.typed_unit.specs.declared.typed_unit.TypedUnit.{TypedUnit}
use Rattle.typed_unit.specs.Tables.{table_of}

abbrev pub facts_in : TypedUnit → Facts
facts_in u = facts_of (nodes_of u.unit.chunks) (table_of u.table)
