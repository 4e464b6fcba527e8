use Rattle.std.proofs.Common.{◌-◌, ◌∙◌, refl, arith}
use Rattle.c_tree.specs.Symbol.{symbols_of}
use Rattle.c_tree.specs.Forget.{view}
use Rattle.c_grammar.specs.Nonterminal.{WithName}
use Rattle.c_grammar.specs.CPlaces.Stands.{OfNothing, OfBoth}
use Rattle.c_expr.proofs.Standing.{made, at_node, at_passed}
use Rattle.c_parser.proofs.InitialSteps.{declarator-height}
use Rattle.c_parser.proofs.DeclarationPlaces.{declares}
use Rattle.c_parser.proofs.functions.read_chunk.Goals as goal

pub read_definition-requires-clause-low : goal.read_definition-requires-clause-low
read_definition-requires-clause-low c =
    let d = c.in_ok-declarator.declarator in
    let below = declarator-height (c.args.room - 1) WithName _ (symbols_of c.in_ok-specs.specs.rest.now) (view d.tree.now) (symbols_of d.rest.now) c.in_ok-declarator.ensures.found.0 in
    omega (arith, below, c.requires.positive, c.in_ok-declarator.ensures.found.1)

pub returns-in-Some-clause-stands : goal.returns-in-Some-clause-stands
returns-in-Some-clause-stands c = made c.empty_of.result _ _ _ _ _ _ _ c.empty_of.ensures.node (at_passed _ _ _ _ _ c.place_of.ensures c.in-Some.ensures.passes) (c.in-Some.ensures.passes _)

pub returns-in-Some-clause-now : goal.returns-in-Some-clause-now
returns-in-Some-clause-now c = declares c.empty_of.result _ _ _ _ _ _ c.args.names.now.now c.empty_of.ensures.node refl

pub returns-in-Some-after_sign-clause-stands : goal.returns-in-Some-after_sign-clause-stands
returns-in-Some-after_sign-clause-stands c =
    made c.bare_declaration_of.result _ _ _ _ _ _ _ c.bare_declaration_of.ensures.node (at_node c.in_ok-specs.specs.tree.now _ _ _ _ c.in_ok-specs.ensures.stands)
    (OfBoth (OfBoth c.in_ok-specs.ensures.stands OfNothing) (c.in-Some-after_sign.ensures.passes _))

pub returns-in-Some-after_sign-clause-now : goal.returns-in-Some-after_sign-clause-now
returns-in-Some-after_sign-clause-now c = declares c.bare_declaration_of.result _ _ _ _ _ _ c.args.names.now.now c.bare_declaration_of.ensures.node c.in_ok-specs.ensures.now

pub returns-clause-stands : goal.returns-clause-stands
returns-clause-stands c = c.read_definition.ensures.stands _ _ (OfBoth c.in_ok-specs.ensures.stands c.in_ok-declarator.ensures.stands)

pub returns-clause-now : goal.returns-clause-now
returns-clause-now c = c.read_definition.ensures.now c.args.names.now.now (c.in_ok-declarator.ensures.names.0 ∙ c.in_ok-specs.ensures.now)
