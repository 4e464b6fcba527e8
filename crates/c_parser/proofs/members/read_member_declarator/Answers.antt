use Rattle.std.proofs.Common.{arith}
use Rattle.c_grammar.specs.CPlaces.Stands.{OfNothing, OfBoth}
use Rattle.c_expr.proofs.Standing.{made, at_passed, at_node}
use Rattle.c_parser.proofs.TaggedSteps.{read-low}
use Rattle.c_parser.proofs.members.read_member_declarator.Goals as goal

pub bare_field_of-requires-clause-low : goal.bare_field_of-requires-clause-low
bare_field_of-requires-clause-low c =
    let low = read-low _ _ _ _ _ _ c.in_ok-width.ensures.found.0 in
    omega (arith, low, c.in_ok-width.ensures.found.1)

pub field_of-requires-clause-low : goal.field_of-requires-clause-low
field_of-requires-clause-low c =
    let low = read-low _ _ _ _ _ _ c.in_ok-width-2.ensures.found.0 in
    let shallow = read-low _ _ _ _ _ _ c.in_ok-declarator.ensures.found.0 in
    (omega (arith, shallow, c.in_ok-declarator.ensures.found.1), omega (arith, low, c.in_ok-width-2.ensures.found.1))

pub returns-in-Some-clause-stands : goal.returns-in-Some-clause-stands
returns-in-Some-clause-stands c = made c.bare_field_of.result _ _ _ _ _ _ _ c.bare_field_of.ensures.node (at_passed _ _ _ _ _ c.place_of.ensures c.in-Some.ensures.passes) (OfBoth (OfBoth OfNothing (c.in-Some.ensures.passes _)) c.in_ok-width.ensures.stands)

pub returns-clause-stands : goal.returns-clause-stands
returns-clause-stands c =
    made c.field_of.result _ _ _ _ _ _ _ c.field_of.ensures.node (at_node c.in_ok-declarator.declarator.tree.now _ _ _ _ c.in_ok-declarator.ensures.stands)
    (OfBoth (OfBoth c.in_ok-declarator.ensures.stands (c.in-Some-after_sign.ensures.passes _)) c.in_ok-width-2.ensures.stands)
