use Rattle.c_grammar.specs.CPlaces.Stands.{OfBoth}
use Rattle.c_expr.proofs.Standing.{at_node, made}
use Rattle.c_expr.proofs.postfix.read_member.Goals as goal

pub returns-clause-stands : goal.returns-clause-stands
returns-clause-stands c = λ before p low ts s.
    made c.node.result _ _ _ _ _ _ _ c.node.ensures.node (at_node c.args.operand.tree.now _ _ _ _ s) (OfBoth (OfBoth s (p _)) (c.in-Some.ensures.kept _))
