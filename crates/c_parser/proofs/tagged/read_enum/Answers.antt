use Rattle.std.proofs.Common.{refl}
use Rattle.c_tree.specs.Symbol.{symbol_of, symbols_of}
use Rattle.c_tree.specs.Syntax.{Specifier, EnumTag}
use Rattle.c_grammar.specs.CPlaces.Stands.{OfBoth}
use Rattle.c_expr.proofs.Standing.{made, at_passed}
use Rattle.c_parser.proofs.TaggedPlaces.{bare-opens, tag-opens}
use Rattle.c_parser.proofs.TaggedSteps.{made-declares}
use Rattle.c_parser.proofs.tagged.read_enum.Goals as goal

pub returns-in_default-clause-stands : goal.returns-in_default-clause-stands
returns-in_default-clause-stands c ts f p = c.read_enum_body.ensures.stands ts _ f p (bare-opens _ _ c.in-Some-after_sign.ensures.passes)

pub returns-in_default-after_sign-2-clause-stands : goal.returns-in_default-after_sign-2-clause-stands
returns-in_default-after_sign-2-clause-stands c ts f p = made c.enum_tag_of.result _ _ _ _ _ _ _ c.enum_tag_of.ensures.node (at_passed _ _ _ _ _ f p) (OfBoth (p _) (c.in-Some.ensures.kept _))

pub returns-in_default-after_sign-2-clause-now : goal.returns-in_default-after_sign-2-clause-now
returns-in_default-after_sign-2-clause-now c = made-declares c.enum_tag_of.result c.args.room (Specifier (EnumTag (symbol_of c.in-Some.tag.now))) (symbols_of c.in-Some.rest.now) c.args.names.now.now _ c.enum_tag_of.ensures.found refl

pub returns-clause-stands : goal.returns-clause-stands
returns-clause-stands c ts f p = c.read_enum_body-2.ensures.stands ts _ f p (tag-opens _ _ _ _ c.in-Some.ensures.kept c.in-Some-after_sign-2.ensures.passes)
