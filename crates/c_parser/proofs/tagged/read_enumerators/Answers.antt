use Rattle.std.proofs.Common.{◌<◌, ◌∙◌, ◌-◌, sym, refl, arith}
use Rattle.c_tree.specs.Symbol.{symbols_of}
use Rattle.c_grammar.specs.CPlaces.Stands.{OfNothing, OfBoth}
use Rattle.c_grammar.specs.Reading.{read as read_expressions}
use Rattle.c_grammar.specs.Ways.TaggedSteps.{read_enumerators}
use Rattle.c_expr.proofs.Items.{height_pushed}
use Rattle.c_expr.proofs.Standing.{list-next, list-last, led-start}
use Rattle.c_expr.proofs.StandingParts.{list-done, height-start}
use Rattle.c_parser.proofs.ListSteps.{enumerators-next}
use Rattle.c_parser.proofs.TaggedSteps.{commas-start, declared-start, declared-next, declared-done}
use Rattle.c_parser.proofs.tagged.read_enumerators.Goals as goal

pub loop-fuel-preserved : goal.loop-fuel-preserved
loop-fuel-preserved c =
    let positive : 0 < c.loop-fuel.fuel = omega arith in
    let item = c.in_ok-enumerator.enumerator in
    let highest = height_pushed c.loop-fuel.all.items c.push.new.self.items item.tree.now c.in_ok-push.ensures.items in
    record {
      found = enumerators-next (read_expressions (c.args.room - 1)) c.loop-fuel.names.now c.read_enumerator.new.names.now c.loop-fuel.fuel (symbols_of c.loop-fuel.rest.now) (symbols_of item.rest.now) (symbols_of c.in-Some.others.now) c.loop-fuel.all.items c.push.new.self.items item.tree.now _ positive c.in_ok-enumerator.ensures.found.0 (sym c.in-Some.ensures.found) (sym c.in_default-after_sign-2.ensures.found) c.in_ok-enumerator.ensures.now c.in_ok-push.ensures.items c.loop-fuel.invariant.found;
      height = omega (arith, c.in_ok-enumerator.ensures.found.1, highest);
      now = declared-next c.loop-fuel.all.items c.push.new.self.items item.tree.now c.args.names.now.now c.loop-fuel.names.now c.read_enumerator.new.names.now c.in_ok-push.ensures.items c.loop-fuel.invariant.now c.in_ok-enumerator.ensures.now;
      saved = c.in_ok-enumerator.ensures.saved ∙ c.loop-fuel.invariant.saved;
      stands = list-next c.loop-fuel.all.items c.push.new.self.items item.tree.now _ _ _ _ _ _ _ c.in_ok-push.ensures.items c.loop-fuel.invariant.stands c.in_ok-enumerator.ensures.stands c.in-Some.ensures.passes;
      rises = omega (arith, c.in_ok-enumerator.ensures.ids.0, c.loop-fuel.invariant.rises);
      spent = omega (arith, c.in_ok-enumerator.ensures.ids.1, c.in-Some.ensures.shorter, c.loop-fuel.invariant.spent);
    }

pub loop-fuel-init : goal.loop-fuel-init
loop-fuel-init c = record {
  found = commas-start (λ n. read_enumerators (read_expressions (c.args.room - 1)) c.args.names.now.now n (symbols_of c.args.tokens.now)) c.new-all.result.items c.args.tokens.now c.new-all.ensures.items;
  height = height-start c.new-all.result.items c.new-all.ensures.items;
  now = declared-start c.new-all.result.items c.args.names.now.now c.new-all.ensures.items;
  saved = refl;
  stands = led-start c.new-all.result.items _ _ c.new-all.ensures.items;
  rises = omega arith;
  spent = omega arith;
}

pub returns-in_default-clause-stands : goal.returns-in_default-clause-stands
returns-in_default-clause-stands c =
    OfBoth (OfBoth (list-done c.list_of.result c.push.new.self.items _ _ _ _ c.list_of.ensures.nodes (list-last c.loop-fuel.all.items c.push.new.self.items c.in_ok-enumerator.enumerator.tree.now _ _ _ _ _ _ c.in_ok-push.ensures.items c.loop-fuel.invariant.stands c.in_ok-enumerator.ensures.stands)) OfNothing) (c.in-Some-after_sign.ensures.passes _)

pub returns-in_default-clause-now : goal.returns-in_default-clause-now
returns-in_default-clause-now c = declared-done c.list_of.result c.push.new.self.items c.args.names.now.now c.read_enumerator.new.names.now c.list_of.ensures.views (declared-next c.loop-fuel.all.items c.push.new.self.items c.in_ok-enumerator.enumerator.tree.now c.args.names.now.now c.loop-fuel.names.now c.read_enumerator.new.names.now c.in_ok-push.ensures.items c.loop-fuel.invariant.now c.in_ok-enumerator.ensures.now)

pub returns-in-Some-after_sign-2-clause-stands : goal.returns-in-Some-after_sign-2-clause-stands
returns-in-Some-after_sign-2-clause-stands c =
    OfBoth (OfBoth (list-done c.list_of-in-Some-after_sign-2.result c.push.new.self.items _ _ _ _ c.list_of-in-Some-after_sign-2.ensures.nodes (list-last c.loop-fuel.all.items c.push.new.self.items c.in_ok-enumerator.enumerator.tree.now _ _ _ _ _ _ c.in_ok-push.ensures.items c.loop-fuel.invariant.stands c.in_ok-enumerator.ensures.stands)) (c.in-Some.ensures.passes _)) (c.in-Some-after_sign-2.ensures.passes _)

pub returns-in-Some-after_sign-2-clause-now : goal.returns-in-Some-after_sign-2-clause-now
returns-in-Some-after_sign-2-clause-now c = declared-done c.list_of-in-Some-after_sign-2.result c.push.new.self.items c.args.names.now.now c.read_enumerator.new.names.now c.list_of-in-Some-after_sign-2.ensures.views (declared-next c.loop-fuel.all.items c.push.new.self.items c.in_ok-enumerator.enumerator.tree.now c.args.names.now.now c.loop-fuel.names.now c.read_enumerator.new.names.now c.in_ok-push.ensures.items c.loop-fuel.invariant.now c.in_ok-enumerator.ensures.now)
