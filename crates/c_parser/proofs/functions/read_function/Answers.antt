use Rattle.std.proofs.Common.{◌∙◌, ap, false}
use Rattle.c_tree.specs.Forget.{view}
use Rattle.c_tree.specs.Views.{node_of}
use Rattle.c_grammar.specs.Names.{name_of, with_name}
use Rattle.c_parser.proofs.DeclarationPlaces.{function-stands, declares}
use Rattle.c_parser.proofs.functions.read_function.Goals as goal

pub returns-clause-stands : goal.returns-clause-stands
returns-clause-stands c = function-stands c.function_of.result c.args.specs.tree.now (node_of c.args.declarator.tree.now) (node_of c.in_ok-body.body.tree.now) _ _ _ _ _ c.function_of.ensures.node c.in_ok-body.ensures.stands

pub returns-clause-now : goal.returns-clause-now
returns-clause-now c before e =
    declares c.function_of.result _ _ _ _ _ _ before c.function_of.ensures.node
    (c.in_ok-body.ensures.names.0 ∙ c.in_ok-declare.ensures.now ∙ ap (λ x. with_name x false c.args.names.now.now) c.name_of.ensures ∙ ap (with_name (name_of (view c.args.declarator.tree.now)) false) e)
