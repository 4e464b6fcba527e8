use Rattle.std.proofs.Common.{◌∙◌, ap, false}
use Rattle.c_tree.specs.Symbol.{symbol_of}
use Rattle.c_grammar.specs.Names.{name_in, with_name}
use Rattle.c_grammar.specs.CPlaces.Stands.{OfNothing, OfBoth}
use Rattle.c_expr.proofs.Standing.{made, at_front, some_kept}
use Rattle.c_parser.proofs.DeclarationPlaces.{declares}
use Rattle.c_parser.proofs.tagged.read_enumerator.Goals as goal

pub returns-in_default-after_sign-clause-stands : goal.returns-in_default-after_sign-clause-stands
returns-in_default-after_sign-clause-stands c = made c.part.result _ _ _ _ _ _ _ c.part.ensures.node (at_front _ _ _ c.place_of-first.ensures (some_kept _ _ _ _ _ (c.in-Some.ensures.kept 0))) (OfBoth (c.in-Some.ensures.kept _) OfNothing)

pub returns-in_default-after_sign-clause-now : goal.returns-in_default-after_sign-clause-now
returns-in_default-after_sign-clause-now c = declares c.part.result _ _ _ _ _ _ _ c.part.ensures.node c.in_ok-declare_enumerator.ensures.now

pub returns-clause-stands : goal.returns-clause-stands
returns-clause-stands c = made c.part-2.result _ _ _ _ _ _ _ c.part-2.ensures.node (at_front _ _ _ c.place_of-first.ensures (some_kept _ _ _ _ _ (c.in-Some.ensures.kept 0))) (OfBoth (c.in-Some.ensures.kept _) (OfBoth (c.in-Some-after_sign.ensures.passes _) c.in_ok-value.ensures.stands))

pub returns-clause-now : goal.returns-clause-now
returns-clause-now c =
    declares c.part-2.result _ _ _ _ _ _ _ c.part-2.ensures.node
    (c.in_ok-declare_enumerator-2.ensures.now ∙ ap (with_name (name_in (symbol_of c.in-Some.name.now)) false) c.in_ok-value.ensures.names.0)
