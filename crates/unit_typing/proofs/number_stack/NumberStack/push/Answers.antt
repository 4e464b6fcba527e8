use Rattle.std.proofs.Common.{nat_eq, arith}
use Rattle.std.proofs.lemmas.Grind.{common_steps}
use Rattle.indexmap.specs.IndexMap.{get}
use Rattle.unit_typing.proofs.LastPositions.{indexed-push}
use Rattle.unit_typing.proofs.number_stack.NumberStack.push.Goals as goal

pub invariant_of-self-2 : goal.invariant_of-self-2
invariant_of-self-2 c =
    rw (c.in_ok-push.ensures.items, c.reserve.ensures.items)
    (indexed-push (get nat_eq c.self.inside.last) _ c.self.inside.links.items (record { number = c.args.number; before = c.in_ok-before.before }) c.len-position.result c.self.invariant c.in_ok-before.ensures.old (grind (arith, common_steps)) c.in_ok-before.ensures.updates.0)
