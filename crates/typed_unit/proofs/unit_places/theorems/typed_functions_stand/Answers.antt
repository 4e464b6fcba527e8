use Rattle.std.proofs.Math.Logic.{∥∥₁_map}
use Rattle.c_tree.specs.Views.{nodes_of}
use Rattle.typed_unit.proofs.UnitPlaces.Functions.{typed-defined}
use Rattle.typed_unit.proofs.unit_places.theorems.typed_functions_stand.Goals as goal

pub returns : goal.returns
returns c = ∥∥₁_map c.args.unit.now.defined (typed-defined (nodes_of c.args.unit.now.unit.chunks) c.args.unit.now.functions.items)
