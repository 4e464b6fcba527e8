use Rattle.std.proofs.Common.{refl}
use Rattle.c_tree.specs.Syntax.{Specifier, StructDeclaration}
use Rattle.c_tree.specs.Views.{node_of, nodes_of}
use Rattle.c_tree.specs.Forget.{view, list_view}
use Rattle.c_grammar.specs.CPlaces.Stands.{OfBoth}
use Rattle.c_expr.proofs.Standing.{made, at_node}
use Rattle.c_expr.proofs.StandingParts.{list-done, list-start}
use Rattle.c_parser.proofs.TaggedPlaces.{list-behind}
use Rattle.c_parser.proofs.TaggedSteps.{made-adds}
use Rattle.c_parser.proofs.members.read_declared_members.Goals as goal

pub returns-in-Some-clause-stands : goal.returns-in-Some-clause-stands
returns-in-Some-clause-stands c low ts s =
    made c.members_of.result _ _ _ _ _ _ _ c.members_of.ensures.node (at_node c.args.specs.tree.now _ _ _ _ s)
    (OfBoth (OfBoth s (list-done c.list_of.result c.new.result.items _ _ _ _ c.list_of.ensures.nodes (list-start c.new.result.items _ _ c.new.ensures.items))) (c.in-Some.ensures.passes _))

pub returns-clause-stands : goal.returns-clause-stands
returns-clause-stands c low ts s =
    let declarators = c.in_ok-declarators.declarators in
    made c.members_of-2.result _ _ _ _ _ _ _ c.members_of-2.ensures.node (at_node c.args.specs.tree.now _ _ _ _ s)
    (list-behind (node_of c.args.specs.tree.now) (nodes_of declarators.trees) _ _ _ _ _ _ s c.in_ok-declarators.ensures.stands)

pub returns-in-Some-clause-adds : goal.returns-in-Some-clause-adds
returns-in-Some-clause-adds c = made-adds c.members_of.result c.args.room (Specifier (StructDeclaration (view c.args.specs.tree.now) (list_view c.list_of.result))) (view c.args.specs.tree.now) _ c.members_of.ensures.found (λ before. refl)

pub returns-clause-adds : goal.returns-clause-adds
returns-clause-adds c =
    let declarators = c.in_ok-declarators.declarators in
    made-adds c.members_of-2.result c.args.room (Specifier (StructDeclaration (view c.args.specs.tree.now) (list_view declarators.trees))) (view c.args.specs.tree.now) _ c.members_of-2.ensures.found (λ before. refl)
