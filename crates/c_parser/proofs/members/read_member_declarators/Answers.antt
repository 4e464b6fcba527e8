use Rattle.std.proofs.Common.{◌<◌, ◌∙◌, ◌-◌, sym, refl, arith}
use Rattle.c_tree.specs.Symbol.{symbols_of}
use Rattle.c_grammar.specs.CPlaces.Stands.{OfBoth}
use Rattle.c_grammar.specs.Reading.{read as read_expressions}
use Rattle.c_grammar.specs.Ways.TaggedSteps.{read_member_declarators}
use Rattle.c_expr.proofs.Items.{height_pushed}
use Rattle.c_expr.proofs.Standing.{list-next, list-last, led-start}
use Rattle.c_expr.proofs.StandingParts.{list-done, ending-start, height-start}
use Rattle.c_parser.proofs.ListSteps.{member_declarators-next}
use Rattle.c_parser.proofs.members.read_member_declarators.Goals as goal

pub loop-fuel-preserved : goal.loop-fuel-preserved
loop-fuel-preserved c =
    let positive : 0 < c.loop-fuel.fuel = omega arith in
    let item = c.in_ok-member.member in
    let highest = height_pushed c.loop-fuel.all.items c.push.new.self.items item.tree.now c.in_ok-push.ensures.items in
    record {
      found = member_declarators-next (read_expressions (c.args.room - 1)) c.args.names.now.now c.loop-fuel.names.now c.loop-fuel.fuel (symbols_of c.loop-fuel.rest.now) (symbols_of item.rest.now) (symbols_of c.in-Some.others.now) c.loop-fuel.all.items c.push.new.self.items item.tree.now _ positive c.loop-fuel.invariant.now c.in_ok-member.ensures.found.0 (sym c.in-Some.ensures.found) c.in_ok-push.ensures.items c.loop-fuel.invariant.found;
      height = omega (arith, c.in_ok-member.ensures.found.1, highest);
      now = c.in_ok-member.ensures.names.0 ∙ c.loop-fuel.invariant.now;
      saved = c.in_ok-member.ensures.names.1 ∙ c.loop-fuel.invariant.saved;
      stands = list-next c.loop-fuel.all.items c.push.new.self.items item.tree.now _ _ _ _ _ _ _ c.in_ok-push.ensures.items c.loop-fuel.invariant.stands c.in_ok-member.ensures.stands c.in-Some.ensures.passes;
      rises = omega (arith, c.in_ok-member.ensures.ids.0, c.loop-fuel.invariant.rises);
      spent = omega (arith, c.in_ok-member.ensures.ids.1, c.in-Some.ensures.shorter, c.loop-fuel.invariant.spent);
    }

pub loop-fuel-init : goal.loop-fuel-init
loop-fuel-init c = record {
  found = ending-start (λ n. read_member_declarators (read_expressions (c.args.room - 1)) c.args.names.now.now n (symbols_of c.args.tokens.now)) c.new-all.result.items c.args.tokens.now c.new-all.ensures.items;
  height = height-start c.new-all.result.items c.new-all.ensures.items;
  now = refl;
  saved = refl;
  stands = led-start c.new-all.result.items _ _ c.new-all.ensures.items;
  rises = omega arith;
  spent = omega arith;
}

pub returns-in_default-clause-stands : goal.returns-in_default-clause-stands
returns-in_default-clause-stands c =
    OfBoth (list-done c.list_of.result c.push.new.self.items _ _ _ _ c.list_of.ensures.nodes (list-last c.loop-fuel.all.items c.push.new.self.items c.in_ok-member.member.tree.now _ _ _ _ _ _ c.in_ok-push.ensures.items c.loop-fuel.invariant.stands c.in_ok-member.ensures.stands)) (c.in-Some-after_sign.ensures.passes _)
