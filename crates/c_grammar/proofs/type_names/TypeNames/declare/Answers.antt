use Rattle.std.proofs.Common.{nat_eq, []}
use Rattle.indexmap.specs.IndexMap.{get}
use Rattle.c_grammar.specs.NameChanges.{onto}
use Rattle.c_grammar.proofs.NameChanges.{kept_declared, onto-push}
use Rattle.c_grammar.proofs.type_names.TypeNames.declare.Goals as goal

pub invariant_of-self-2 : goal.invariant_of-self-2
invariant_of-self-2 c =
    rw (c.in_ok-push.ensures.items, c.reserve.ensures.items, onto-push)
    (kept_declared (get nat_eq c.self.inside.current) _ (onto c.self.inside.log.items []) c.args.name c.args.is_type c.in_ok-before.before c.self.invariant c.in_ok-before.ensures.old c.in_ok-before.ensures.updates.0)
