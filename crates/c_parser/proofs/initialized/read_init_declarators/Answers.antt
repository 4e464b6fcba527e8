use Rattle.std.proofs.Common.{◌-◌, ◌<◌, ◌∙◌, ap, sym, arith, rules}
use Rattle.c_tree.specs.Symbol.{symbols_of}
use Rattle.c_tree.specs.Forget.{view}
use Rattle.c_grammar.specs.Nonterminal.{WithName}
use Rattle.c_grammar.specs.Reading.{read as read_expressions}
use Rattle.c_grammar.specs.UnitGrammar.Names.{with_declarators}
use Rattle.c_grammar.specs.Ways.DeclarationSteps.{read_init_declarators}
use Rattle.c_grammar.specs.UnitGrammar.Reading.{read}
use Rattle.c_expr.specs.Gives.{ending_with}
use Rattle.c_expr.proofs.Items.{height_pushed}
use Rattle.c_expr.proofs.StandingParts.{ending-start, height-start}
use Rattle.c_parser.proofs.ListSteps.{init_declarators-next}
use Rattle.c_parser.proofs.InitialSteps.{declared-start, declared-next, declarator-height}
use Rattle.c_parser.proofs.DeclarationPlaces.{led-first, led-next, led-last}
use Rattle.c_parser.proofs.initialized.read_init_declarators.Goals as goal

pub loop-fuel-preserved : goal.loop-fuel-preserved
loop-fuel-preserved c =
    let positive : 0 < c.loop-fuel.fuel = omega arith in
    let item = c.in_ok-item.item in
    let next = c.in_ok-declarator.declarator in
    let reader = read_expressions (c.args.room - 1) in
    let inner = read (c.args.room - 1) in
    let inside = c.read_initialized.new.names.now in
    let highest = height_pushed c.loop-fuel.all.items c.push.new.self.items item.tree.now c.in_ok-push.ensures.items in
    let below = declarator-height (c.args.room - 1) WithName inside (symbols_of c.in-Some.after.now) (view next.tree.now) (symbols_of next.rest.now) c.in_ok-declarator.ensures.found.0 in
    record {
      found =
          ap (λ x. ending_with c.push.new.self.items (read_init_declarators reader inner c.args.is_type x (c.loop-fuel.fuel - 1) (view next.tree.now) (symbols_of next.rest.now))) c.in_ok-declarator.ensures.names.0
          ∙ init_declarators-next reader inner c.args.is_type c.loop-fuel.names.now inside c.loop-fuel.fuel (view c.loop-fuel.declarator.tree.now) (view next.tree.now) (symbols_of c.loop-fuel.declarator.rest.now) (symbols_of item.rest.now) (symbols_of c.in-Some.after.now) (symbols_of next.rest.now) c.loop-fuel.all.items c.push.new.self.items item.tree.now _
          positive c.in_ok-item.ensures.found.0 (sym c.in-Some.ensures.found) c.in_ok-item.ensures.now c.in_ok-declarator.ensures.found.0 c.in_ok-push.ensures.items c.loop-fuel.invariant.found;
      height = omega (arith, c.in_ok-item.ensures.found.1, highest);
      read = c.in_ok-declarator.ensures.found.1;
      low = omega (arith, below, c.requires.positive, c.in_ok-declarator.ensures.found.1);
      now = c.in_ok-declarator.ensures.names.0 ∙ declared-next c.args.is_type c.loop-fuel.all.items c.push.new.self.items item.tree.now c.args.names.now.now c.loop-fuel.names.now inside c.in_ok-push.ensures.items c.loop-fuel.invariant.now c.in_ok-item.ensures.now;
      saved = c.in_ok-declarator.ensures.names.1 ∙ c.in_ok-item.ensures.saved ∙ c.loop-fuel.invariant.saved;
      rises = omega (arith, c.in_ok-item.ensures.ids.0, c.in_ok-declarator.ensures.ids.0, c.loop-fuel.invariant.rises);
      stands = λ low ts s. led-next c.loop-fuel.all.items c.push.new.self.items c.loop-fuel.declarator.tree.now item.tree.now next.tree.now low _ _ _ ts _ _ _ _ c.in_ok-push.ensures.items (c.loop-fuel.invariant.stands low ts s) c.in_ok-item.ensures.stands c.in-Some.ensures.passes c.in_ok-declarator.ensures.stands;
      spent = omega (arith, c.in_ok-item.ensures.ids.1, c.in_ok-declarator.ensures.ids.1, c.in-Some.ensures.shorter, c.loop-fuel.invariant.spent);
    }

pub loop-fuel-init : goal.loop-fuel-init
loop-fuel-init c = record {
  found = ending-start (λ n. read_init_declarators (read_expressions (c.args.room - 1)) (read (c.args.room - 1)) c.args.is_type c.args.names.now.now n (view c.args.first.tree.now) (symbols_of c.args.first.rest.now)) c.new-all.result.items c.args.first.rest.now c.new-all.ensures.items;
  height = height-start c.new-all.result.items c.new-all.ensures.items;
  read = c.requires.height;
  low = c.requires.low;
  now = declared-start c.args.is_type c.new-all.result.items c.args.names.now.now c.new-all.ensures.items;
  saved = search rules;
  rises = omega arith;
  stands = λ low ts s. led-first c.new-all.result.items c.args.first.tree.now low _ ts _ c.new-all.ensures.items s;
  spent = omega arith;
}

pub returns-in_default-clause-stands : goal.returns-in_default-clause-stands
returns-in_default-clause-stands c low ts s =
    led-last c.list_of.result c.loop-fuel.all.items c.push.new.self.items c.loop-fuel.declarator.tree.now c.in_ok-item.item.tree.now low _ _ ts _ _ _ c.list_of.ensures.nodes c.in_ok-push.ensures.items (c.loop-fuel.invariant.stands low ts s) c.in_ok-item.ensures.stands c.in-Some-after_sign.ensures.passes

pub returns-in_default-clause-now : goal.returns-in_default-clause-now
returns-in_default-clause-now c =
    declared-next c.args.is_type c.loop-fuel.all.items c.push.new.self.items c.in_ok-item.item.tree.now c.args.names.now.now c.loop-fuel.names.now c.read_initialized.new.names.now c.in_ok-push.ensures.items c.loop-fuel.invariant.now c.in_ok-item.ensures.now
    ∙ ap (λ es. with_declarators c.args.is_type es c.args.names.now.now) (sym c.list_of.ensures.views)
