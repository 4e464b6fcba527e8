use Rattle.std.proofs.Common.{false, ◌<◌, sym, arith}
use Rattle.c_tree.specs.Symbol.{symbol_of, symbols_of}
use Rattle.c_grammar.specs.Ways.SpecifierSteps.{read_tag, read_items}
use Rattle.c_tree.specs.Views.{node_of}
use Rattle.c_expr.proofs.Items.{items-next, height_pushed, count_pushed}
use Rattle.c_expr.proofs.Standing.{row-next, row-start}
use Rattle.c_expr.proofs.StandingParts.{row-done, over_same, ending-start, height-start, count-start}
use Rattle.c_expr.proofs.specifiers.read_items.Goals as goal

pub loop-front-preserved : goal.loop-front-preserved
loop-front-preserved c =
    let positive : 0 < c.loop-front.fuel = omega arith in
    let item = c.in_ok-item.item in
    let highest = height_pushed c.loop-front.all.items c.push.new.self.items item.tree.now c.in_ok-push.ensures.items in
    let counted = count_pushed c.loop-front.all.items c.push.new.self.items item.tree.now c.in_ok-push.ensures.items in
    record {
      found = items-next c.args.names.now.now c.loop-front.fuel c.loop-front.typed c.says_type-typed.result (symbols_of c.loop-front.rest.now) (symbol_of c.in-Some.front.now) (symbols_of c.in-Some.behind.now) (symbols_of item.rest.now) c.loop-front.all.items c.push.new.self.items item.tree.now _ positive (sym c.in-Some.ensures.found) c.in_ok-item.ensures.found.0 c.says_type-typed.ensures c.in_ok-push.ensures.items c.loop-front.invariant.found;
      height = omega (arith, c.in_ok-item.ensures.found.1, highest);
      stands = row-next _ _ item.tree.now _ _ _ _ _ _ c.in_ok-push.ensures.items c.loop-front.invariant.stands (over_same (node_of item.tree.now) _ _ _ _ _ c.in-Some.ensures.front c.in_ok-item.ensures.stands);
      rises = omega arith;
      spent = omega (arith, counted, c.in_ok-item.ensures.ids.1, c.in-Some.ensures.shorter, c.loop-front.invariant.spent);
    }

pub returns-clause-stands : goal.returns-clause-stands
returns-clause-stands c = row-done c.list_of.result c.loop-front.all.items _ _ _ _ c.list_of.ensures.nodes c.loop-front.invariant.stands

pub loop-front-init : goal.loop-front-init
loop-front-init c =
    let none = count-start c.new-all.result.items c.new-all.ensures.items in
    record {
      found = ending-start (λ n. read_items read_tag c.args.names.now.now n false (symbols_of c.args.tokens.now)) c.new-all.result.items c.args.tokens.now c.new-all.ensures.items;
      height = height-start c.new-all.result.items c.new-all.ensures.items;
      stands = row-start c.new-all.result.items _ _ c.new-all.ensures.items;
      rises = omega arith;
      spent = omega (arith, none);
    }
