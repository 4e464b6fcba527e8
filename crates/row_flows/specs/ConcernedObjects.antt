-- THE NUMBERS THAT ARE KEPT of the objects that a block concerns.
use Rattle.std.specs.Prelude.{ℕ, List}
use Rattle.row_flows.specs.declared.concerned_objects.ConcernedObjects.{ConcernedObjects}
use Rattle.row_flows.specs.declared.concerned_objects.ConcernedObjects.TheVariants as concerned

abbrev pub numbers_in : ConcernedObjects → List ℕ
numbers_in (concerned.Few l) = l.items
numbers_in (concerned.Many s) = s.keys
