use Rattle.c_tree.specs.Forget.{list_view}
use Rattle.c_tree.specs.Views.{node_of, nodes_of}
use Rattle.c_parser.proofs.DeclarationPlaces.{declaration-stands, declares, rest-declared}
use Rattle.c_parser.proofs.declarations.read_declaration_rest.Goals as goal

pub returns-clause-stands : goal.returns-clause-stands
returns-clause-stands c = declaration-stands c.declaration_of.result c.args.specs.tree.now (node_of c.args.declarator.tree.now) (nodes_of c.in_ok-declarators.declarators.trees) _ _ _ _ _ c.declaration_of.ensures.node c.in_ok-declarators.ensures.stands

pub returns-clause-now : goal.returns-clause-now
returns-clause-now c before e =
    declares c.declaration_of.result _ _ _ _ _ _ before c.declaration_of.ensures.node
    (rest-declared _ _ (list_view c.in_ok-declarators.declarators.trees) _ _ _ c.in_ok-declarators.ensures.now c.makes_types-is_type.ensures e)
