use Rattle.c_grammar.specs.CPlaces.Stands.{OfNothing, OfBoth}
use Rattle.c_tree.specs.Views.{nodes_of}
use Rattle.c_expr.proofs.Standing.{made, at_passed, list-next, list-last, led-start}
use Rattle.c_expr.proofs.StandingParts.{list-done, list-start, height-start}
use Rattle.c_parser.proofs.DeclarationPlaces.{braces_behind}
use Rattle.std.proofs.Common.{◌-◌, ◌<◌, ◌∙◌, sym, arith, rules}
use Rattle.c_tree.specs.Symbol.{symbols_of}
use Rattle.c_grammar.specs.Reading.{read as read_expressions}
use Rattle.c_grammar.specs.Ways.DeclarationSteps.{read_initials}
use Rattle.c_grammar.specs.UnitGrammar.Reading.{read}
use Rattle.c_expr.proofs.Items.{height_pushed}
use Rattle.c_parser.proofs.ListSteps.{initials-next}
use Rattle.c_parser.proofs.InitialSteps.{commas-start}
use Rattle.c_parser.proofs.initials.+braces.Goals as goal

pub braces_in_front-returns-in-Some-after_sign-clause-stands : goal.braces_in_front-returns-in-Some-after_sign-clause-stands
braces_in_front-returns-in-Some-after_sign-clause-stands t c =
    made c.braces_of.result _ _ _ _ _ _ _ c.braces_of.ensures.node (at_passed _ _ _ _ _ c.place_of.ensures c.in-Some.ensures.passes)
    (OfBoth (OfBoth (OfBoth (c.in-Some.ensures.passes _) (list-done c.list_of.result c.new.result.items _ _ _ _ c.list_of.ensures.nodes (list-start c.new.result.items _ _ c.new.ensures.items))) OfNothing) (c.in-Some-after_sign.ensures.passes _))

pub braces_in_front-returns-clause-stands : goal.braces_in_front-returns-clause-stands
braces_in_front-returns-clause-stands t c =
    made c.braces_of-2.result _ _ _ _ _ _ _ c.braces_of-2.ensures.node (at_passed _ _ _ _ _ c.place_of-2.ensures c.in-Some.ensures.passes)
    (braces_behind (nodes_of c.in_ok-elements.elements.trees) c.in_ok-elements.elements.comma _ _ _ _ _ c.in-Some.ensures.passes c.in_ok-elements.ensures.stands)

pub read_initials-loop-fuel-preserved : goal.read_initials-loop-fuel-preserved
read_initials-loop-fuel-preserved t c =
    let positive : 0 < c.loop-fuel.fuel = omega arith in
    let item = c.in_ok-element.element in
    let highest = height_pushed c.loop-fuel.all.items c.push.new.self.items item.tree.now c.in_ok-push.ensures.items in
    record {
      found = initials-next (read_expressions (c.args.room - 1)) (read (c.args.room - 1)) c.args.names.now.now c.loop-fuel.names.now c.loop-fuel.fuel (symbols_of c.loop-fuel.rest.now) (symbols_of item.rest.now) (symbols_of c.in-Some.after.now) c.loop-fuel.all.items c.push.new.self.items item.tree.now _ positive c.loop-fuel.invariant.now c.in_ok-element.ensures.found.0 (sym c.in-Some.ensures.found) (sym c.in_default-after_sign-2.ensures.found) c.in_ok-push.ensures.items c.loop-fuel.invariant.found;
      height = omega (arith, c.in_ok-element.ensures.found.1, highest);
      now = c.in_ok-element.ensures.names.0 ∙ c.loop-fuel.invariant.now;
      saved = c.in_ok-element.ensures.names.1 ∙ c.loop-fuel.invariant.saved;
      rises = omega (arith, c.in_ok-element.ensures.ids.0, c.loop-fuel.invariant.rises);
      stands = list-next c.loop-fuel.all.items c.push.new.self.items item.tree.now _ _ _ _ _ _ _ c.in_ok-push.ensures.items c.loop-fuel.invariant.stands c.in_ok-element.ensures.stands c.in-Some.ensures.passes;
      spent = omega (arith, c.in_ok-element.ensures.ids.1, c.in-Some.ensures.shorter, c.loop-fuel.invariant.spent);
    }

pub read_initials-loop-fuel-init : goal.read_initials-loop-fuel-init
read_initials-loop-fuel-init t c = record {
  found = commas-start (λ n. read_initials (read_expressions (c.args.room - 1)) (read (c.args.room - 1)) c.args.names.now.now n (symbols_of c.args.tokens.now)) c.new-all.result.items c.args.tokens.now c.new-all.ensures.items;
  height = height-start c.new-all.result.items c.new-all.ensures.items;
  now = search rules;
  saved = search rules;
  rises = omega arith;
  stands = led-start c.new-all.result.items _ _ c.new-all.ensures.items;
  spent = omega arith;
}

pub read_initials-returns-in_default-clause-stands : goal.read_initials-returns-in_default-clause-stands
read_initials-returns-in_default-clause-stands t c =
    OfBoth (OfBoth (list-done c.list_of.result c.push.new.self.items _ _ _ _ c.list_of.ensures.nodes (list-last c.loop-fuel.all.items c.push.new.self.items c.in_ok-element.element.tree.now _ _ _ _ _ _ c.in_ok-push.ensures.items c.loop-fuel.invariant.stands c.in_ok-element.ensures.stands)) OfNothing) (c.in-Some-after_sign.ensures.passes _)

pub read_initials-returns-in-Some-after_sign-2-clause-stands : goal.read_initials-returns-in-Some-after_sign-2-clause-stands
read_initials-returns-in-Some-after_sign-2-clause-stands t c =
    OfBoth (OfBoth (list-done c.list_of-in-Some-after_sign-2.result c.push.new.self.items _ _ _ _ c.list_of-in-Some-after_sign-2.ensures.nodes (list-last c.loop-fuel.all.items c.push.new.self.items c.in_ok-element.element.tree.now _ _ _ _ _ _ c.in_ok-push.ensures.items c.loop-fuel.invariant.stands c.in_ok-element.ensures.stands)) (c.in-Some.ensures.passes _)) (c.in-Some-after_sign-2.ensures.passes _)
