use Rattle.std.proofs.Common.{refl, arith, ◌-◌, ◌<◌, ◌∙◌, sym}
use Rattle.std.proofs.lemmas.Grind.{common_steps}
use Rattle.c_expr.proofs.Standing.{front-kept, front-reserved, made, at_passed, then_both, row-next, row-start}
use Rattle.c_parser.proofs.StatementStanding.{passed-symbols, passes-as, then_three, at_kept}
use Rattle.c_grammar.specs.CPlaces.Stands.{OfNothing, OfBoth}
use Rattle.c_tree.specs.Symbol.{symbols_of}
use Rattle.c_grammar.specs.Ways.StatementSteps.{read_block_items}
use Rattle.c_grammar.specs.UnitGrammar.Reading.{read}
use Rattle.c_expr.proofs.Items.{height_pushed}
use Rattle.c_expr.proofs.StandingParts.{row-done, ending-start, height-start}
use Rattle.c_parser.proofs.ListSteps.{block_items-next}
use Rattle.c_parser.proofs.StatementSteps.{statements-on, statements-start}
use Rattle.c_parser.proofs.+statements.Goals as goal

pub statements::read_statement-returns-in-Some-clause-stands : goal.statements::read_statement-returns-in-Some-clause-stands
statements::read_statement-returns-in-Some-clause-stands t c =
    let some = c.in-len1-up.len_at_least in
    c.read_label.ensures.stands c.args.tokens.now _ (front-kept c.args.tokens.now _ (omega (arith, some))) c.in-Some.ensures.passes

pub statements::read_statement-read_by_keyword-requires : goal.statements::read_statement-read_by_keyword-requires
statements::read_statement-read_by_keyword-requires t c =
    let some = c.in-len1-up.len_at_least in (
      grind (arith, common_steps),
      (
        c.requires.positive,
        (
          passed-symbols _ c.args.tokens.now _ (front-reserved c.args.tokens.now _ _ _ (omega (arith, some)) c.in-Keyword.is refl),
          (front-reserved c.args.tokens.now _ _ _ (omega (arith, some)) c.in-Keyword.is refl, (grind (arith, common_steps, some), c.requires.ids)),
        ),
      ),
    )

pub statements::read_block_or_expression-returns-in-Some-clause-stands : goal.statements::read_block_or_expression-returns-in-Some-clause-stands
statements::read_block_or_expression-returns-in-Some-clause-stands t c = c.read_block_rest.ensures.stands c.args.tokens.now c.place_of.ensures c.in-Some.ensures.passes

pub statements::read_by_keyword-returns-in-If-clause-stands : goal.statements::read_by_keyword-returns-in-If-clause-stands
statements::read_by_keyword-returns-in-If-clause-stands t c = c.read_if.ensures.stands c.args.tokens.now c.place_of-first.ensures (passes-as _ _ _ _ c.in-If.is c.requires.passes)

pub statements::read_by_keyword-returns-in-Switch-clause-stands : goal.statements::read_by_keyword-returns-in-Switch-clause-stands
statements::read_by_keyword-returns-in-Switch-clause-stands t c = c.read_switch.ensures.stands c.args.tokens.now c.place_of-first.ensures (passes-as _ _ _ _ c.in-Switch.is c.requires.passes)

pub statements::read_by_keyword-returns-in-Case-clause-stands : goal.statements::read_by_keyword-returns-in-Case-clause-stands
statements::read_by_keyword-returns-in-Case-clause-stands t c = c.read_case.ensures.stands c.args.tokens.now c.place_of-first.ensures (passes-as _ _ _ _ c.in-Case.is c.requires.passes)

pub statements::read_by_keyword-returns-in-Default-clause-stands : goal.statements::read_by_keyword-returns-in-Default-clause-stands
statements::read_by_keyword-returns-in-Default-clause-stands t c = c.read_default.ensures.stands c.args.tokens.now c.place_of-first.ensures (passes-as _ _ _ _ c.in-Default.is c.requires.passes)

pub statements::read_by_keyword-returns-in-While-clause-stands : goal.statements::read_by_keyword-returns-in-While-clause-stands
statements::read_by_keyword-returns-in-While-clause-stands t c = c.read_while.ensures.stands c.args.tokens.now c.place_of-first.ensures (passes-as _ _ _ _ c.in-While.is c.requires.passes)

pub statements::read_by_keyword-returns-in-Do-clause-stands : goal.statements::read_by_keyword-returns-in-Do-clause-stands
statements::read_by_keyword-returns-in-Do-clause-stands t c = c.read_do.ensures.stands c.args.tokens.now c.place_of-first.ensures (passes-as _ _ _ _ c.in-Do.is c.requires.passes)

pub statements::read_by_keyword-returns-in-For-clause-stands : goal.statements::read_by_keyword-returns-in-For-clause-stands
statements::read_by_keyword-returns-in-For-clause-stands t c = c.read_for.ensures.stands c.args.tokens.now c.place_of-first.ensures (passes-as _ _ _ _ c.in-For.is c.requires.passes)

pub statements::read_by_keyword-returns-in-Goto-clause-stands : goal.statements::read_by_keyword-returns-in-Goto-clause-stands
statements::read_by_keyword-returns-in-Goto-clause-stands t c = c.read_goto.ensures.stands c.args.tokens.now c.place_of-first.ensures (passes-as _ _ _ _ c.in-Goto.is c.requires.passes)

pub statements::read_by_keyword-returns-in-Continue-clause-stands : goal.statements::read_by_keyword-returns-in-Continue-clause-stands
statements::read_by_keyword-returns-in-Continue-clause-stands t c = c.read_continue.ensures.stands c.args.tokens.now c.place_of-first.ensures (passes-as _ _ _ _ c.in-Continue.is c.requires.passes)

pub statements::read_by_keyword-returns-in-Break-clause-stands : goal.statements::read_by_keyword-returns-in-Break-clause-stands
statements::read_by_keyword-returns-in-Break-clause-stands t c = c.read_break.ensures.stands c.args.tokens.now c.place_of-first.ensures (passes-as _ _ _ _ c.in-Break.is c.requires.passes)

pub statements::read_by_keyword-returns-in-Return-clause-stands : goal.statements::read_by_keyword-returns-in-Return-clause-stands
statements::read_by_keyword-returns-in-Return-clause-stands t c = c.read_return.ensures.stands c.args.tokens.now c.place_of-first.ensures (passes-as _ _ _ _ c.in-Return.is c.requires.passes)

pub selections::read_if-returns-in_default-clause-stands : goal.selections::read_if-returns-in_default-clause-stands
selections::read_if-returns-in_default-clause-stands t c ts f p = made c.if_of.result _ _ _ _ _ _ _ c.if_of.ensures.node (at_passed _ _ _ _ _ f p) (OfBoth (OfBoth (then_three _ _ _ _ _ _ _ _ _ _ (p _) c.in_ok-condition.ensures.stands) c.in_ok-then.ensures.stands) OfNothing)

pub selections::read_if-returns-clause-stands : goal.selections::read_if-returns-clause-stands
selections::read_if-returns-clause-stands t c ts f p = made c.if_else_of.result _ _ _ _ _ _ _ c.if_else_of.ensures.node (at_passed _ _ _ _ _ f p) (OfBoth (OfBoth (then_three _ _ _ _ _ _ _ _ _ _ (p _) c.in_ok-condition.ensures.stands) c.in_ok-then.ensures.stands) (OfBoth (c.in-Some.ensures.passes _) c.in_ok-otherwise.ensures.stands))

pub selections::read_switch-returns-clause-stands : goal.selections::read_switch-returns-clause-stands
selections::read_switch-returns-clause-stands t c ts f p = made c.switch_of.result _ _ _ _ _ _ _ c.switch_of.ensures.node (at_passed _ _ _ _ _ f p) (OfBoth (then_three _ _ _ _ _ _ _ _ _ _ (p _) c.in_ok-value.ensures.stands) c.in_ok-body.ensures.stands)

pub selections::read_case-returns-clause-stands : goal.selections::read_case-returns-clause-stands
selections::read_case-returns-clause-stands t c ts f p = made c.case_of.result _ _ _ _ _ _ _ c.case_of.ensures.node (at_passed _ _ _ _ _ f p) (OfBoth (OfBoth (OfBoth (p _) c.in_ok-value.ensures.stands) (c.in-Some.ensures.passes _)) c.in_ok-body.ensures.stands)

pub selections::read_default-returns-clause-stands : goal.selections::read_default-returns-clause-stands
selections::read_default-returns-clause-stands t c ts f p = made c.default_of.result _ _ _ _ _ _ _ c.default_of.ensures.node (at_passed _ _ _ _ _ f p) (OfBoth (OfBoth (p _) (c.in-Some.ensures.passes _)) c.in_ok-body.ensures.stands)

pub selections::read_label-returns-clause-stands : goal.selections::read_label-returns-clause-stands
selections::read_label-returns-clause-stands t c ts us k p = made c.label_of.result _ _ _ _ _ _ _ c.label_of.ensures.node (at_kept _ _ _ _ k) (OfBoth (OfBoth (k _) (p _)) c.in_ok-body.ensures.stands)

pub loops::read_while-returns-clause-stands : goal.loops::read_while-returns-clause-stands
loops::read_while-returns-clause-stands t c ts f p = made c.while_of.result _ _ _ _ _ _ _ c.while_of.ensures.node (at_passed _ _ _ _ _ f p) (OfBoth (then_three _ _ _ _ _ _ _ _ _ _ (p _) c.in_ok-condition.ensures.stands) c.in_ok-body.ensures.stands)

pub loops::read_do-returns-clause-stands : goal.loops::read_do-returns-clause-stands
loops::read_do-returns-clause-stands t c ts f p = made c.do_of.result _ _ _ _ _ _ _ c.do_of.ensures.node (at_passed _ _ _ _ _ f p) (OfBoth (then_three _ _ _ _ _ _ _ _ _ _ (OfBoth (OfBoth (p _) c.in_ok-body.ensures.stands) (c.in-Some.ensures.passes _)) c.in_ok-condition.ensures.stands) (c.in-Some-after_sign.ensures.passes _))

pub loops::read_for-returns-clause-stands : goal.loops::read_for-returns-clause-stands
loops::read_for-returns-clause-stands t c ts f p = made c.for_of.result _ _ _ _ _ _ _ c.for_of.ensures.node (at_passed _ _ _ _ _ f p) (OfBoth (then_both _ _ _ _ _ _ _ _ _ (then_both _ _ _ _ _ _ _ _ _ (then_both _ _ _ _ _ _ _ _ _ (OfBoth (p _) (c.in-Some.ensures.passes _)) c.in_ok-start.ensures.stands) c.in_ok-condition.ensures.stands) c.in_ok-step.ensures.stands) c.in_ok-body.ensures.stands)

pub blocks::read_block_rest-returns-clause-stands : goal.blocks::read_block_rest-returns-clause-stands
blocks::read_block_rest-returns-clause-stands t c ts f p = made c.block_of.result _ _ _ _ _ _ _ c.block_of.ensures.node (at_passed _ _ _ _ _ f p) (then_both _ _ _ _ _ _ _ _ _ (p _) c.in_ok-items.ensures.stands)

pub blocks::read_block_items-loop-rest-init : goal.blocks::read_block_items-loop-rest-init
blocks::read_block_items-loop-rest-init t c = record {
  found = ending-start (λ n. read_block_items (read (c.args.room - 1)) c.args.names.now.now n (symbols_of c.args.tokens.now)) c.new-all.result.items c.args.tokens.now c.new-all.ensures.items;
  height = height-start c.new-all.result.items c.new-all.ensures.items;
  saved = refl;
  rises = omega arith;
  stands = row-start c.new-all.result.items _ _ c.new-all.ensures.items;
  spent = omega arith;
}

pub blocks::read_block_items-loop-rest-preserved : goal.blocks::read_block_items-loop-rest-preserved
blocks::read_block_items-loop-rest-preserved t c =
    let positive : 0 < c.loop-rest.fuel = omega arith in
    let item = c.in_ok-declaration.declaration in
    let highest = height_pushed c.loop-rest.all.items c.push.new.self.items item.tree.now c.in_ok-push.ensures.items in
    record {
      found = block_items-next (read (c.args.room - 1)) c.loop-rest.names.now c.declaration_in_front.new.names.now c.loop-rest.fuel (symbols_of c.loop-rest.rest.now) (symbols_of item.rest.now) c.loop-rest.all.items c.push.new.self.items item.tree.now _ positive (sym c.begins_declaration.ensures ∙ c.loop-rest-test.true) c.in_ok-declaration.ensures.found.0 c.in_ok-declaration.ensures.now c.in_ok-push.ensures.items c.loop-rest.invariant.found;
      height = omega (arith, c.in_ok-declaration.ensures.found.1, highest);
      saved = c.in_ok-declaration.ensures.saved ∙ c.loop-rest.invariant.saved;
      rises = omega (arith, c.in_ok-declaration.ensures.ids.0, c.loop-rest.invariant.rises);
      stands = row-next c.loop-rest.all.items c.push.new.self.items item.tree.now _ _ _ _ _ _ c.in_ok-push.ensures.items c.loop-rest.invariant.stands c.in_ok-declaration.ensures.stands;
      spent = omega (arith, c.in_ok-declaration.ensures.ids.1, c.loop-rest.invariant.spent);
    }

pub blocks::read_block_items-loop-fuel-init : goal.blocks::read_block_items-loop-fuel-init
blocks::read_block_items-loop-fuel-init t c = record {
  found = statements-start (read (c.args.room - 1)) c.loop-rest.names.now c.loop-rest.fuel (symbols_of c.loop-rest.rest.now) c.loop-rest.all.items _ (sym c.begins_declaration.ensures ∙ c.loop-rest-test.false) c.loop-rest.invariant.found;
  height = c.loop-rest.invariant.height;
  saved = c.loop-rest.invariant.saved;
  rises = c.loop-rest.invariant.rises;
  stands = c.loop-rest.invariant.stands;
  spent = c.loop-rest.invariant.spent;
}

pub blocks::read_block_items-loop-fuel-preserved : goal.blocks::read_block_items-loop-fuel-preserved
blocks::read_block_items-loop-fuel-preserved t c =
    let positive : 0 < c.loop-fuel.fuel = omega arith in
    let item = c.in_ok-statement.statement in
    let highest = height_pushed c.loop-fuel.all.items c.push-in-loop-fuel.new.self.items item.tree.now c.in_ok-push-2.ensures.items in
    record {
      found = statements-on (read (c.args.room - 1)) c.loop-fuel.names.now c.statement_in_front.new.names.now c.loop-fuel.fuel (symbols_of c.loop-fuel.rest.now) (symbols_of item.rest.now) c.loop-fuel.all.items c.push-in-loop-fuel.new.self.items item.tree.now _ positive c.in_ok-statement.ensures.names.0 (sym c.in_default.ensures.found) c.in_ok-statement.ensures.found.0 c.in_ok-push-2.ensures.items c.loop-fuel.invariant.found;
      height = omega (arith, c.in_ok-statement.ensures.found.1, highest);
      saved = c.in_ok-statement.ensures.names.1 ∙ c.loop-fuel.invariant.saved;
      rises = omega (arith, c.in_ok-statement.ensures.ids.0, c.loop-fuel.invariant.rises);
      stands = row-next c.loop-fuel.all.items c.push-in-loop-fuel.new.self.items item.tree.now _ _ _ _ _ _ c.in_ok-push-2.ensures.items c.loop-fuel.invariant.stands c.in_ok-statement.ensures.stands;
      spent = omega (arith, c.in_ok-statement.ensures.ids.1, c.loop-fuel.invariant.spent);
    }

pub blocks::read_block_items-returns-in-Some-clause-stands : goal.blocks::read_block_items-returns-in-Some-clause-stands
blocks::read_block_items-returns-in-Some-clause-stands t c = OfBoth (row-done c.list_of.result c.loop-fuel.all.items _ _ _ _ c.list_of.ensures.nodes c.loop-fuel.invariant.stands) (c.in-Some.ensures.passes _)
