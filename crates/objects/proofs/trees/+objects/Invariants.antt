use Rattle.std.proofs.Common.{◌+◌, ◌*◌}
use Rattle.c_tree.specs.declared.expression.Operation.{size-Operation}
use Rattle.c_tree.specs.declared.expression.Primary.{size-Primary}
use Rattle.c_tree.specs.declared.tree.Tree.{size-Tree}
use Rattle.objects.proofs.trees.+objects.Given as goal

abbrev pub decreases-object_of : goal.decreases-object_of
decreases-object_of l = 8 * size-Tree l.tree.now + 1

abbrev pub decreases-primary_object : goal.decreases-primary_object
decreases-primary_object l = 8 * size-Primary l.kind.now + 2

abbrev pub decreases-operation_object : goal.decreases-operation_object
decreases-operation_object l = 8 * size-Operation l.kind.now + 2

abbrev pub decreases-address_object : goal.decreases-address_object
decreases-address_object l = 8 * size-Tree l.tree.now + 1

abbrev pub decreases-primary_address : goal.decreases-primary_address
decreases-primary_address l = 8 * size-Primary l.kind.now + 2

abbrev pub decreases-operation_address : goal.decreases-operation_address
decreases-operation_address l = 8 * size-Operation l.kind.now + 2
