use Rattle.std.proofs.Common.{◌-◌, ◌<◌, refl, ◌∙◌, sym, subst, arith, ap, length, rules}
use Rattle.c_tree.specs.Symbol.{symbols_of}
use Rattle.c_grammar.specs.Ways.ExpressionSteps.{read_more_arguments, read_path}
use Rattle.c_grammar.specs.Reading.{read}
use Rattle.c_expr.specs.Gives.{Gives}
use Rattle.c_grammar.specs.CPlaces.Stands.{OfBoth, OfNothing}
use Rattle.c_expr.proofs.Standing.{made, at_node, at_passed, made_part, at_shorter, then_both, none-closed, led-start, list-next, list-last, list-closed, at_front, front-first, front-kept, front-reserved, row-start, row-next, row-closed, some_behind, some_kept, some_passed}
use Rattle.c_tree.specs.Forget.{view, view_all, list_view}
use Rattle.c_tree.specs.Views.{nodes_in, nodes_of}
use Rattle.c_tree.specs.Height.{height_in}
use Rattle.c_expr.proofs.Items.{height_pushed, count_pushed}
use Rattle.c_expr.proofs.StandingParts.{ending-start, list-done, params-start, height-start, list-start, params_behind, kept_length, something, row-done, count-start}
use Rattle.c_expr.proofs.ListSteps.{arguments-next, path-next, params-next, suffixes-next}
use Rattle.c_grammar.specs.Ways.DeclaratorSteps.{read_params, read_suffixes}
use Rattle.c_tree.specs.declared.keyword.Keyword.TheVariants as words
use Rattle.c_expr.proofs.Levels.{at_conditional, at_unary, at_postfix, gives-fails, chain-next}
use Rattle.c_expr.proofs.+read.Goals as goal

pub expressions::expression_in_front-returns-then-level-ge-CONDITIONAL_LEVEL-clause-found : goal.expressions::expression_in_front-returns-then-level-ge-CONDITIONAL_LEVEL-clause-found
expressions::expression_in_front-returns-then-level-ge-CONDITIONAL_LEVEL-clause-found t c =
    subst (Gives c.read_conditional.result) (sym (at_conditional c.args.room c.args.level c.args.names.now.now (symbols_of c.args.tokens.now) (omega arith) (omega arith) (omega arith))) c.read_conditional.ensures.found

pub expressions::expression_in_front-returns-then-level-ge-UNARY_LEVEL-clause-found : goal.expressions::expression_in_front-returns-then-level-ge-UNARY_LEVEL-clause-found
expressions::expression_in_front-returns-then-level-ge-UNARY_LEVEL-clause-found t c =
    subst (Gives c.read_unary.result) (sym (at_unary c.args.room c.args.level c.args.names.now.now (symbols_of c.args.tokens.now) (omega arith) (omega arith) (omega arith))) c.read_unary.ensures.found

pub expressions::expression_in_front-returns-clause-found : goal.expressions::expression_in_front-returns-clause-found
expressions::expression_in_front-returns-clause-found t c =
    subst (Gives c.read_postfix.result) (sym (at_postfix c.args.room c.args.level c.args.names.now.now (symbols_of c.args.tokens.now) (omega arith) (omega arith))) c.read_postfix.ensures.found

pub expressions::read_assignment-returns-clause-stands : goal.expressions::read_assignment-returns-clause-stands
expressions::read_assignment-returns-clause-stands t c =
    let to = c.in_ok-to.ensures.stands in
    made c.assignment_of.result _ _ _ _ _ _ _ c.assignment_of.ensures.node (at_node c.in_ok-to.to.tree.now _ _ _ _ to) (OfBoth (OfBoth to (c.in-Some.ensures.passes _)) c.in_ok-value.ensures.stands)

pub expressions::read_conditional-returns-clause-stands : goal.expressions::read_conditional-returns-clause-stands
expressions::read_conditional-returns-clause-stands t c =
    let condition = c.in_ok-condition.ensures.stands in
    made c.conditional_of.result _ _ _ _ _ _ _ c.conditional_of.ensures.node (at_node c.in_ok-condition.condition.tree.now _ _ _ _ condition)
    (OfBoth (OfBoth (OfBoth (OfBoth condition (c.in-Some.ensures.passes _)) c.in_ok-then.ensures.stands) (c.in-Some-after_sign.ensures.passes _)) c.in_ok-otherwise.ensures.stands)

pub expressions::read_binary-returns-in_err-before-2-clause-found : goal.expressions::read_binary-returns-in_err-before-2-clause-found
expressions::read_binary-returns-in_err-before-2-clause-found t c =
    let before = c.loop-done.before in
    gives-fails c.from_residual-in_err-before-2.result c.in_err-before-2.field-0.0 (read (c.args.room - 1)) c.args.room c.args.names.now.now c.loop-done.names.now c.loop-done.done c.args.levels (symbols_of c.args.tokens.now) (symbols_of before.rest.now) (view before.tree.now) c.from_residual-in_err-before-2.ensures.1 c.loop-done-test.true c.loop-done.invariant.now c.loop-done.invariant.found c.in_err-before-2.ensures.found

pub expressions::read_cast-returns-clause-stands : goal.expressions::read_cast-returns-clause-stands
expressions::read_cast-returns-clause-stands t c =
    made c.cast_of.result _ _ _ _ _ _ _ c.cast_of.ensures.node (at_passed _ _ _ _ _ c.place_of.ensures c.in-Some.ensures.passes)
    (OfBoth (OfBoth (OfBoth (c.in-Some.ensures.passes _) c.in_ok-to.ensures.stands) (c.in-Some-after_sign.ensures.passes _)) c.in_ok-operand.ensures.stands)

pub expressions::read_chain-loop-op-preserved : goal.expressions::read_chain-loop-op-preserved
expressions::read_chain-loop-op-preserved t c =
    let l = c.loop-op in
    let before = c.in_ok-before.before in
    let right = c.in_ok-right in
    record {
      found = chain-next (read (c.args.room - 1)) c.args.room c.args.names.now.now l.names.now c.args.level l.fuel c.in-Some.op (view l.before.tree.now) (view right.right.tree.now) (view before.tree.now) (symbols_of l.before.rest.now) (symbols_of c.in-Some.rest.now) (symbols_of right.right.rest.now) (symbols_of before.rest.now) (omega arith) l.invariant.now (sym c.in-Some.ensures.found) right.ensures.found.0 c.in_ok-before.ensures.found.0 ∙ l.invariant.found;
      height = c.in_ok-before.ensures.found.1;
      now = right.ensures.names.0 ∙ l.invariant.now;
      saved = right.ensures.names.1 ∙ l.invariant.saved;
      rises = omega (arith, right.ensures.ids.0, c.in_ok-before.ensures.ids.0, l.invariant.rises);
      spent = omega (arith, right.ensures.ids.1, c.in_ok-before.ensures.ids.1, c.in_ok-before.ensures.ids.2, c.in-Some.ensures.shorter, l.invariant.spent);
      stands = λ low ts s.
          let left = l.invariant.stands low ts s in
          made_part before _ _ _ _ _ _ _ c.in_ok-before.ensures.node (at_node l.before.tree.now _ _ _ _ left) (OfBoth (OfBoth left (c.in-Some.ensures.passes _)) right.ensures.stands);
    }

pub expressions::read_unary-returns-in-Some-clause-stands : goal.expressions::read_unary-returns-in-Some-clause-stands
expressions::read_unary-returns-in-Some-clause-stands t c =
    made c.unary_of.result _ _ _ _ _ _ _ c.unary_of.ensures.node (at_shorter _ _ _ _ c.place_of-first.ensures c.in-Some.ensures.shorter) (c.in-Some.ensures.leads _ _ _ _ c.in_ok-operand.ensures.stands)

pub expressions::read_sizeof-returns-in_default-clause-stands : goal.expressions::read_sizeof-returns-in_default-clause-stands
expressions::read_sizeof-returns-in_default-clause-stands t c = λ ts first passes.
    made c.unary_of.result _ _ _ _ _ _ _ c.unary_of.ensures.node (at_passed _ _ _ _ _ first passes) (OfBoth (passes _) c.in_ok-operand.ensures.stands)

pub expressions::read_sizeof-returns-clause-stands : goal.expressions::read_sizeof-returns-clause-stands
expressions::read_sizeof-returns-clause-stands t c = λ ts first passes.
    made c.node.result _ _ _ _ _ _ _ c.node.ensures.node (at_passed _ _ _ _ _ first passes) (OfBoth (OfBoth (OfBoth (passes _) (c.in-Some.ensures.passes _)) c.in_ok-of.ensures.stands) (c.in-Some-after_sign.ensures.passes _))

pub postfix::read_postfix_operator-returns-in-Some-after_sign-clause-stands : goal.postfix::read_postfix_operator-returns-in-Some-after_sign-clause-stands
postfix::read_postfix_operator-returns-in-Some-after_sign-clause-stands t c = λ low ts s.
    made c.call_of.result _ _ _ _ _ _ _ c.call_of.ensures.node (at_node c.args.operand.tree.now _ _ _ _ s) (then_both _ _ _ _ _ _ _ _ _ (OfBoth (OfBoth s (at_passed _ _ _ _ _ c.place_of.ensures c.in-Some-after_sign.ensures.passes)) (c.in-Some-after_sign.ensures.passes _)) c.in_ok-arguments.ensures.stands)

pub postfix::read_postfix_operator-returns-in-Some-after_sign-4-clause-stands : goal.postfix::read_postfix_operator-returns-in-Some-after_sign-4-clause-stands
postfix::read_postfix_operator-returns-in-Some-after_sign-4-clause-stands t c = λ low ts s.
    made c.unary_of.result _ _ _ _ _ _ _ c.unary_of.ensures.node (at_node c.args.operand.tree.now _ _ _ _ s) (OfBoth s (c.in-Some-after_sign-4.ensures.passes _))

pub postfix::read_postfix_operator-returns-clause-stands : goal.postfix::read_postfix_operator-returns-clause-stands
postfix::read_postfix_operator-returns-clause-stands t c = λ low ts s.
    made c.unary_of-2.result _ _ _ _ _ _ _ c.unary_of-2.ensures.node (at_node c.args.operand.tree.now _ _ _ _ s) (OfBoth s (c.in-Some-after_sign-5.ensures.passes _))

pub postfix::read_index-returns-clause-stands : goal.postfix::read_index-returns-clause-stands
postfix::read_index-returns-clause-stands t c = λ before p low ts s.
    made c.index_of.result _ _ _ _ _ _ _ c.index_of.ensures.node (at_node c.args.operand.tree.now _ _ _ _ s) (OfBoth (OfBoth (OfBoth s (p _)) c.in_ok-index.ensures.stands) (c.in-Some.ensures.passes _))

pub postfix::read_arguments-returns-in-Some-clause-stands : goal.postfix::read_arguments-returns-in-Some-clause-stands
postfix::read_arguments-returns-in-Some-clause-stands t c = none-closed _ _ _ _ (c.list_of.ensures.nodes ∙ ap nodes_in c.new.ensures.items) c.in-Some.ensures.passes

pub postfix::read_more_arguments-loop-fuel-init : goal.postfix::read_more_arguments-loop-fuel-init
postfix::read_more_arguments-loop-fuel-init t c = record {
  found = ending-start (λ n. read_more_arguments (read (c.args.room - 1)) c.args.names.now.now n (symbols_of c.args.tokens.now)) c.new-all.result.items c.args.tokens.now c.new-all.ensures.items;
  height = ap (λ ts. height_in (view_all ts)) (sym c.new-all.ensures.items);
  now = refl;
  saved = refl;
  rises = omega arith;
  stands = led-start c.new-all.result.items _ _ c.new-all.ensures.items;
  spent = omega arith;
}

pub postfix::read_more_arguments-returns-in-None-clause-stands : goal.postfix::read_more_arguments-returns-in-None-clause-stands
postfix::read_more_arguments-returns-in-None-clause-stands t c =
    list-closed c.push.new.self.items _ _ _ _ _ _ c.list_of.ensures.nodes (list-last c.loop-fuel.all.items c.push.new.self.items c.in_ok-argument.argument.tree.now _ _ _ _ _ _ c.in_ok-push.ensures.items c.loop-fuel.invariant.stands c.in_ok-argument.ensures.stands) c.in-Some-after_sign.ensures.passes

pub postfix::read_more_arguments-loop-fuel-preserved : goal.postfix::read_more_arguments-loop-fuel-preserved
postfix::read_more_arguments-loop-fuel-preserved t c =
    let positive : 0 < c.loop-fuel.fuel = omega arith in
    let item = c.in_ok-argument.argument in
    let highest = height_pushed c.loop-fuel.all.items c.push.new.self.items item.tree.now c.in_ok-push.ensures.items in
    record {
      found = arguments-next (read (c.args.room - 1)) c.args.names.now.now c.loop-fuel.names.now c.loop-fuel.fuel (symbols_of c.loop-fuel.rest.now) (symbols_of item.rest.now) (symbols_of c.in-Some.after.now) c.loop-fuel.all.items c.push.new.self.items item.tree.now _ positive c.loop-fuel.invariant.now c.in_ok-argument.ensures.found.0 (sym c.in-Some.ensures.found) c.in_ok-push.ensures.items c.loop-fuel.invariant.found;
      height = omega (arith, c.in_ok-argument.ensures.found.1, highest);
      now = c.in_ok-argument.ensures.names.0 ∙ c.loop-fuel.invariant.now;
      saved = c.in_ok-argument.ensures.names.1 ∙ c.loop-fuel.invariant.saved;
      rises = omega (arith, c.in_ok-argument.ensures.ids.0, c.loop-fuel.invariant.rises);
      stands = list-next c.loop-fuel.all.items c.push.new.self.items item.tree.now _ _ _ _ _ _ _ c.in_ok-push.ensures.items c.loop-fuel.invariant.stands c.in_ok-argument.ensures.stands c.in-Some.ensures.passes;
      spent = omega (arith, c.in_ok-argument.ensures.ids.1, c.in-Some.ensures.shorter, c.loop-fuel.invariant.spent);
    }

pub primary::read_primary-returns-else-is_type-clause-stands : goal.primary::read_primary-returns-else-is_type-clause-stands
primary::read_primary-returns-else-is_type-clause-stands t c =
    let some : 0 < length c.args.tokens.now = omega (arith, c.in-len1-up.len_at_least) in
    made c.node.result _ _ _ _ _ _ _ c.node.ensures.node (at_front _ _ _ (front-first c.args.tokens.now _ some) some) (front-kept c.args.tokens.now _ some _)

pub primary::read_primary-returns-in-Int-clause-stands : goal.primary::read_primary-returns-in-Int-clause-stands
primary::read_primary-returns-in-Int-clause-stands t c =
    let some : 0 < length c.args.tokens.now = omega (arith, c.in-len1-up.len_at_least) in
    made c.node-in-Int.result _ _ _ _ _ _ _ c.node-in-Int.ensures.node (at_front _ _ _ (front-first c.args.tokens.now _ some) some) (front-kept c.args.tokens.now _ some _)

pub primary::read_primary-returns-in-BuiltinVaArg-clause-stands : goal.primary::read_primary-returns-in-BuiltinVaArg-clause-stands
primary::read_primary-returns-in-BuiltinVaArg-clause-stands t c =
    let some : 0 < length c.args.tokens.now = omega (arith, c.in-len1-up.len_at_least) in
    c.read_va_arg.ensures.stands c.args.tokens.now (front-first c.args.tokens.now _ some) (front-reserved c.args.tokens.now _ _ words.BuiltinVaArg some c.in-Keyword.is c.in-BuiltinVaArg.is)

pub primary::read_primary-returns-in-BuiltinOffsetof-clause-stands : goal.primary::read_primary-returns-in-BuiltinOffsetof-clause-stands
primary::read_primary-returns-in-BuiltinOffsetof-clause-stands t c =
    let some : 0 < length c.args.tokens.now = omega (arith, c.in-len1-up.len_at_least) in
    c.read_offsetof.ensures.stands c.args.tokens.now (front-first c.args.tokens.now _ some) (front-reserved c.args.tokens.now _ _ words.BuiltinOffsetof some c.in-Keyword.is c.in-BuiltinOffsetof.is)

pub primary::read_paren-returns-clause-stands : goal.primary::read_paren-returns-clause-stands
primary::read_paren-returns-clause-stands t c = made c.node.result _ _ _ _ _ _ _ c.node.ensures.node (at_passed _ _ _ _ _ c.place_of.ensures c.in-Some.ensures.passes) (OfBoth (OfBoth (c.in-Some.ensures.passes _) c.in_ok-inner.ensures.stands) (c.in-Some-after_sign.ensures.passes _))

pub primary::read_va_arg-returns-clause-stands : goal.primary::read_va_arg-returns-clause-stands
primary::read_va_arg-returns-clause-stands t c = λ ts f p.
    made c.va_arg_of.result _ _ _ _ _ _ _ c.va_arg_of.ensures.node (at_passed _ _ _ _ _ f p) (OfBoth (OfBoth (OfBoth (OfBoth (OfBoth (p _) (c.in-Some.ensures.passes _)) c.in_ok-list.ensures.stands) (c.in-Some-after_sign.ensures.passes _)) c.in_ok-of.ensures.stands) (c.in-Some-after_sign-2.ensures.passes _))

pub primary::read_offsetof-returns-clause-stands : goal.primary::read_offsetof-returns-clause-stands
primary::read_offsetof-returns-clause-stands t c = λ ts f p.
    made c.offsetof_of.result _ _ _ _ _ _ _ c.offsetof_of.ensures.node (at_passed _ _ _ _ _ f p) (then_both _ _ _ _ _ _ _ _ _ (OfBoth (OfBoth (OfBoth (OfBoth (p _) (c.in-Some.ensures.passes _)) c.in_ok-of.ensures.stands) (c.in-Some-after_sign.ensures.passes _)) (c.in-Some-take_word.ensures.kept _)) c.in_ok-path.ensures.stands)

pub primary::read_path-loop-fuel-init : goal.primary::read_path-loop-fuel-init
primary::read_path-loop-fuel-init t c = record {
  found = ending-start (λ n. read_path (read (c.args.room - 1)) c.args.names.now.now n (symbols_of c.args.tokens.now)) c.new-all.result.items c.args.tokens.now c.new-all.ensures.items;
  height = ap (λ ts. height_in (view_all ts)) (sym c.new-all.ensures.items);
  now = refl;
  saved = refl;
  rises = omega arith;
  stands = row-start c.new-all.result.items _ _ c.new-all.ensures.items;
  spent = omega arith;
}

pub primary::read_path-returns-in-Some-clause-stands : goal.primary::read_path-returns-in-Some-clause-stands
primary::read_path-returns-in-Some-clause-stands t c = row-closed c.loop-fuel.all.items _ _ _ _ _ _ c.list_of.ensures.nodes c.loop-fuel.invariant.stands c.in-Some.ensures.passes

pub primary::read_path-loop-fuel-preserved : goal.primary::read_path-loop-fuel-preserved
primary::read_path-loop-fuel-preserved t c =
    let positive : 0 < c.loop-fuel.fuel = omega arith in
    let item = c.in_ok-designator.designator in
    let highest = height_pushed c.loop-fuel.all.items c.push.new.self.items item.tree.now c.in_ok-push.ensures.items in
    record {
      found = path-next (read (c.args.room - 1)) c.args.names.now.now c.loop-fuel.names.now c.loop-fuel.fuel (symbols_of c.loop-fuel.rest.now) (symbols_of item.rest.now) c.loop-fuel.all.items c.push.new.self.items item.tree.now _ positive c.loop-fuel.invariant.now (sym c.in_default.ensures.found) c.in_ok-designator.ensures.found.0 c.in_ok-push.ensures.items c.loop-fuel.invariant.found;
      height = omega (arith, c.in_ok-designator.ensures.found.1, highest);
      now = c.in_ok-designator.ensures.names.0 ∙ c.loop-fuel.invariant.now;
      saved = c.in_ok-designator.ensures.names.1 ∙ c.loop-fuel.invariant.saved;
      rises = omega (arith, c.in_ok-designator.ensures.ids.0, c.loop-fuel.invariant.rises);
      stands = row-next c.loop-fuel.all.items c.push.new.self.items item.tree.now _ _ _ _ _ _ c.in_ok-push.ensures.items c.loop-fuel.invariant.stands c.in_ok-designator.ensures.stands;
      spent = omega (arith, c.in_ok-designator.ensures.ids.1, c.loop-fuel.invariant.spent);
    }

pub primary::read_designator-returns-in-Some-clause-stands : goal.primary::read_designator-returns-in-Some-clause-stands
primary::read_designator-returns-in-Some-clause-stands t c = made c.part.result _ _ _ _ _ _ _ c.part.ensures.node (at_passed _ _ _ _ _ c.place_of-first.ensures c.in-Some.ensures.passes) (OfBoth (c.in-Some.ensures.passes _) (c.in-Some-take_word.ensures.kept _))

pub primary::read_designator-returns-clause-stands : goal.primary::read_designator-returns-clause-stands
primary::read_designator-returns-clause-stands t c = made c.part-2.result _ _ _ _ _ _ _ c.part-2.ensures.node (at_passed _ _ _ _ _ c.place_of-first.ensures c.in-Some-after_sign.ensures.passes) (OfBoth (OfBoth (c.in-Some-after_sign.ensures.passes _) c.in_ok-index.ensures.stands) (c.in-Some-after_sign-2.ensures.passes _))

pub types::type_name_in_front-returns-then-not-begins_declarator-clause-stands : goal.types::type_name_in_front-returns-then-not-begins_declarator-clause-stands
types::type_name_in_front-returns-then-not-begins_declarator-clause-stands t c = made c.plain_of.result _ _ _ _ _ _ _ c.plain_of.ensures.node (at_node c.in_ok-specs.specs.tree.now _ _ _ _ c.in_ok-specs.ensures.stands) (OfBoth c.in_ok-specs.ensures.stands OfNothing)

pub types::type_name_in_front-returns-clause-stands : goal.types::type_name_in_front-returns-clause-stands
types::type_name_in_front-returns-clause-stands t c = made c.declared_of.result _ _ _ _ _ _ _ c.declared_of.ensures.node (at_node c.in_ok-specs.specs.tree.now _ _ _ _ c.in_ok-specs.ensures.stands) (OfBoth c.in_ok-specs.ensures.stands c.in_ok-declarator.ensures.stands)

pub params::param_in_front-returns-then-not-begins_declarator-clause-stands : goal.params::param_in_front-returns-then-not-begins_declarator-clause-stands
params::param_in_front-returns-then-not-begins_declarator-clause-stands t c = made c.plain_of.result _ _ _ _ _ _ _ c.plain_of.ensures.node (at_node c.in_ok-specs.specs.tree.now _ _ _ _ c.in_ok-specs.ensures.stands) (OfBoth c.in_ok-specs.ensures.stands OfNothing)

pub params::param_in_front-returns-clause-stands : goal.params::param_in_front-returns-clause-stands
params::param_in_front-returns-clause-stands t c = made c.declared_of.result _ _ _ _ _ _ _ c.declared_of.ensures.node (at_node c.in_ok-specs.specs.tree.now _ _ _ _ c.in_ok-specs.ensures.stands) (OfBoth c.in_ok-specs.ensures.stands c.in_ok-declarator.ensures.stands)

pub params::read_params-loop-fuel-preserved : goal.params::read_params-loop-fuel-preserved
params::read_params-loop-fuel-preserved t c =
    let positive : 0 < c.loop-fuel.fuel = omega arith in
    let item = c.in_ok-param.param in
    let highest = height_pushed c.loop-fuel.all.items c.push.new.self.items item.tree.now c.in_ok-push.ensures.items in
    record {
      found = params-next (read (c.args.room - 1)) c.loop-fuel.names.now c.param_in_front.new.names.now c.declare_param.new.names.now c.loop-fuel.fuel (symbols_of c.loop-fuel.rest.now) (symbols_of item.rest.now) (symbols_of c.in-Some.after.now) c.loop-fuel.all.items c.push.new.self.items item.tree.now _ positive c.in_ok-param.ensures.found.0 (sym c.in-Some.ensures.found) (sym c.in_default-after_sign-2.ensures.found) c.in_ok-param.ensures.names.0 c.in_ok-declare_param.ensures.now c.in_ok-push.ensures.items c.loop-fuel.invariant.found;
      height = omega (arith, c.in_ok-param.ensures.found.1, highest);
      saved = c.in_ok-declare_param.ensures.saved ∙ c.in_ok-param.ensures.names.1 ∙ c.loop-fuel.invariant.saved;
      stands = list-next c.loop-fuel.all.items c.push.new.self.items item.tree.now _ _ _ _ _ _ _ c.in_ok-push.ensures.items c.loop-fuel.invariant.stands c.in_ok-param.ensures.stands c.in-Some.ensures.passes;
      rises = omega (arith, c.in_ok-param.ensures.ids.0, c.loop-fuel.invariant.rises);
      spent = omega (arith, c.in_ok-param.ensures.ids.1, c.in-Some.ensures.shorter, c.loop-fuel.invariant.spent);
    }

pub params::read_params-loop-fuel-init : goal.params::read_params-loop-fuel-init
params::read_params-loop-fuel-init t c = record {
  found = params-start (λ n. read_params (read (c.args.room - 1)) c.args.names.now.now n (symbols_of c.args.tokens.now)) c.new-all.result.items c.args.tokens.now c.new-all.ensures.items;
  height = height-start c.new-all.result.items c.new-all.ensures.items;
  saved = search rules;
  stands = led-start c.new-all.result.items _ _ c.new-all.ensures.items;
  rises = omega arith;
  spent = omega arith;
}

pub params::read_params-returns-in_default-clause-stands : goal.params::read_params-returns-in_default-clause-stands
params::read_params-returns-in_default-clause-stands t c =
    OfBoth (OfBoth (list-done c.list_of.result c.push.new.self.items _ _ _ _ c.list_of.ensures.nodes (list-last c.loop-fuel.all.items c.push.new.self.items c.in_ok-param.param.tree.now _ _ _ _ _ _ c.in_ok-push.ensures.items c.loop-fuel.invariant.stands c.in_ok-param.ensures.stands)) OfNothing) (c.in-Some-after_sign.ensures.passes _)

pub params::read_params-returns-in-Some-after_sign-2-clause-stands : goal.params::read_params-returns-in-Some-after_sign-2-clause-stands
params::read_params-returns-in-Some-after_sign-2-clause-stands t c =
    OfBoth (OfBoth (list-done c.list_of-in-Some-after_sign-2.result c.push.new.self.items _ _ _ _ c.list_of-in-Some-after_sign-2.ensures.nodes (list-last c.loop-fuel.all.items c.push.new.self.items c.in_ok-param.param.tree.now _ _ _ _ _ _ c.in_ok-push.ensures.items c.loop-fuel.invariant.stands c.in_ok-param.ensures.stands)) (OfBoth (c.in-Some.ensures.passes _) (c.in-Some-after_sign-2.ensures.passes _))) (c.in-Some-after_sign-3.ensures.passes _)

pub params::read_param_list-returns-in-Some-clause-stands : goal.params::read_param_list-returns-in-Some-clause-stands
params::read_param_list-returns-in-Some-clause-stands t c ts f p = made c.part.result _ _ _ _ _ _ _ c.part.ensures.node (at_passed _ _ _ _ _ f p) (OfBoth (OfBoth (OfBoth (p _) (list-done c.list_of.result c.new.result.items _ _ _ _ c.list_of.ensures.nodes (list-start c.new.result.items _ _ c.new.ensures.items))) OfNothing) (c.in-Some.ensures.passes _))

pub params::read_param_list-returns-in-Some-after_void-clause-stands : goal.params::read_param_list-returns-in-Some-after_void-clause-stands
params::read_param_list-returns-in-Some-after_void-clause-stands t c ts f p = made c.part-in-Some-after_void.result _ _ _ _ _ _ _ c.part-in-Some-after_void.ensures.node (at_passed _ _ _ _ _ f p) (OfBoth (OfBoth (p _) (c.in-Some-after_void.ensures.passes.1 _)) (c.in-Some-after_void.ensures.passes.2 _))

pub params::read_param_list-returns-clause-stands : goal.params::read_param_list-returns-clause-stands
params::read_param_list-returns-clause-stands t c ts f p = made c.part-2.result _ _ _ _ _ _ _ c.part-2.ensures.node (at_passed _ _ _ _ _ f p) (params_behind (nodes_of c.in_ok-params.params.trees) c.in_ok-params.params.variadic _ _ _ _ _ p c.in_ok-params.ensures.stands)

pub declarators::read_direct-returns-in-Some-clause-stands : goal.declarators::read_direct-returns-in-Some-clause-stands
declarators::read_direct-returns-in-Some-clause-stands t c ts f k = c.read_named.ensures.stands ts _ f k c.in-Some.ensures.kept

pub declarators::read_direct-returns-in-Some-after_nesting-clause-stands : goal.declarators::read_direct-returns-in-Some-after_nesting-clause-stands
declarators::read_direct-returns-in-Some-after_nesting-clause-stands t c ts f k = c.read_nested.ensures.stands ts _ f k c.in-Some-after_nesting.ensures.passes

pub declarators::read_named-returns-clause-stands : goal.declarators::read_named-returns-clause-stands
declarators::read_named-returns-clause-stands t c ts us f k n =
    made c.node.result _ _ _ _ _ _ _ c.node.ensures.node
    (at_front _ _ _ f (some_behind _ _ _ _ _ (some_kept _ _ _ _ _ (n 0)) (k 0)))
    (OfBoth (OfBoth (k _) (n _)) c.in_ok-suffixes.ensures.stands)

pub declarators::read_nested-returns-clause-stands : goal.declarators::read_nested-returns-clause-stands
declarators::read_nested-returns-clause-stands t c ts us f k p =
    made c.nested_of.result _ _ _ _ _ _ _ c.nested_of.ensures.node
    (at_front _ _ _ f (some_behind _ _ _ _ _ (some_passed _ _ _ _ _ (p 0)) (k 0)))
    (OfBoth (OfBoth (OfBoth (OfBoth (k _) (p _)) c.in_ok-inner.ensures.stands) (c.in-Some.ensures.passes _)) c.in_ok-suffixes.ensures.stands)

pub declarators::read_unnamed-returns-clause-stands : goal.declarators::read_unnamed-returns-clause-stands
declarators::read_unnamed-returns-clause-stands t c ts f k =
    let some = something c.args.pointers.now (list_view c.in_ok-suffixes.suffixes.trees) (sym c.is_nothing.ensures ∙ c.if-is_nothing.false) in
    let long = kept_length _ _ _ _ _ (k 0) in
    made c.node.result _ _ _ _ _ _ _ c.node.ensures.node (at_front _ _ _ f (omega (arith, some, long, c.in_ok-suffixes.ensures.ids))) (OfBoth (k _) c.in_ok-suffixes.ensures.stands)

pub declarators::read_suffixes-loop-rest-preserved : goal.declarators::read_suffixes-loop-rest-preserved
declarators::read_suffixes-loop-rest-preserved t c =
    let positive : 0 < c.loop-rest.fuel = omega arith in
    let item = c.in_ok-suffix.suffix in
    let highest = height_pushed c.loop-rest.all.items c.push.new.self.items item.tree.now c.in_ok-push.ensures.items in
    let counted = count_pushed c.loop-rest.all.items c.push.new.self.items item.tree.now c.in_ok-push.ensures.items in
    record {
      found = suffixes-next (read (c.args.room - 1)) c.args.names.now.now c.loop-rest.names.now c.loop-rest.fuel (symbols_of c.loop-rest.rest.now) (symbols_of item.rest.now) c.loop-rest.all.items c.push.new.self.items item.tree.now _ positive c.loop-rest.invariant.now (sym c.begins_suffix.ensures ∙ c.loop-rest-test.true) c.in_ok-suffix.ensures.found.0 c.in_ok-push.ensures.items c.loop-rest.invariant.found;
      height = omega (arith, c.in_ok-suffix.ensures.found.1, highest);
      now = c.in_ok-suffix.ensures.names.0 ∙ c.loop-rest.invariant.now;
      saved = c.in_ok-suffix.ensures.names.1 ∙ c.loop-rest.invariant.saved;
      stands = row-next c.loop-rest.all.items c.push.new.self.items item.tree.now _ _ _ _ _ _ c.in_ok-push.ensures.items c.loop-rest.invariant.stands c.in_ok-suffix.ensures.stands;
      rises = omega (arith, c.in_ok-suffix.ensures.ids.0, c.loop-rest.invariant.rises);
      spent = omega (arith, c.in_ok-suffix.ensures.ids.1, counted, c.loop-rest.invariant.spent);
    }

pub declarators::read_suffixes-returns-clause-stands : goal.declarators::read_suffixes-returns-clause-stands
declarators::read_suffixes-returns-clause-stands t c = row-done c.list_of.result c.loop-rest.all.items _ _ _ _ c.list_of.ensures.nodes c.loop-rest.invariant.stands

pub declarators::read_suffixes-loop-rest-init : goal.declarators::read_suffixes-loop-rest-init
declarators::read_suffixes-loop-rest-init t c =
    let none = count-start c.new-all.result.items c.new-all.ensures.items in
    record {
      found = ending-start (λ n. read_suffixes (read (c.args.room - 1)) c.args.names.now.now n (symbols_of c.args.tokens.now)) c.new-all.result.items c.args.tokens.now c.new-all.ensures.items;
      height = height-start c.new-all.result.items c.new-all.ensures.items;
      now = search rules;
      saved = search rules;
      stands = row-start c.new-all.result.items _ _ c.new-all.ensures.items;
      rises = omega arith;
      spent = omega (arith, none);
    }

pub declarators::read_suffix-returns-in-Some-clause-stands : goal.declarators::read_suffix-returns-in-Some-clause-stands
declarators::read_suffix-returns-in-Some-clause-stands t c = c.read_bound.ensures.stands _ _ c.place_of-first.ensures c.in-Some.ensures.passes c.split_run.ensures.kept

pub declarators::read_bound-returns-in-Some-clause-stands : goal.declarators::read_bound-returns-in-Some-clause-stands
declarators::read_bound-returns-in-Some-clause-stands t c ts us f p k = made c.part.result _ _ _ _ _ _ _ c.part.ensures.node (at_passed _ _ _ _ _ f p) (OfBoth (OfBoth (OfBoth (p _) (k _)) OfNothing) (c.in-Some.ensures.passes _))

pub declarators::read_bound-returns-clause-stands : goal.declarators::read_bound-returns-clause-stands
declarators::read_bound-returns-clause-stands t c ts us f p k =
    made c.part-2.result _ _ _ _ _ _ _ c.part-2.ensures.node (at_passed _ _ _ _ _ f p)
    (OfBoth (OfBoth (OfBoth (p _) (k _)) c.in_ok-bound.ensures.stands) (c.in-Some-after_sign.ensures.passes _))
