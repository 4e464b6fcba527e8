use Rattle.std.proofs.Common.{nat_eq, ap}
use Rattle.std.specs.Map.{lookup}
use Rattle.indexmap.specs.IndexMap.{get}
use Rattle.unit_typing.proofs.LastPositions.{indexed-none}
use Rattle.unit_typing.proofs.number_stack.NumberStack.new.Goals as goal

pub invariant_of-result : goal.invariant_of-result
invariant_of-result c = indexed-none (get nat_eq c.new-2.result) c.new.result.items c.new.ensures.items (λ q. ap (lookup (nat_eq q)) c.new-2.ensures.empty)
