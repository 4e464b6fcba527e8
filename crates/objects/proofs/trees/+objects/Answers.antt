use Rattle.std.proofs.Common.{◌∙◌}
use Rattle.objects.proofs.ByKind.{at_primary, at_operation}
use Rattle.objects.proofs.trees.+objects.Goals as goal
use Rattle.objects.specs.Units.{facts_in}

pub address_object-returns-in-Primary : goal.address_object-returns-in-Primary
address_object-returns-in-Primary t c =
    c.primary_address.ensures ∙ at_primary (facts_in c.args.unit.now) c.args.depth c.args.tree.now _ c.in-Primary.is

pub address_object-returns-in-Operation : goal.address_object-returns-in-Operation
address_object-returns-in-Operation t c =
    c.operation_address.ensures ∙ at_operation (facts_in c.args.unit.now) c.args.depth c.args.tree.now _ c.in-Operation.is
