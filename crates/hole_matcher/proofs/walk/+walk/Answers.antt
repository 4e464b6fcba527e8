use Rattle.std.proofs.Common.{◌∙◌, ◌+◌, ◌<◌, length, sym, ap, None, cond, drop, refl, arith}
use Rattle.c_tree.specs.declared.operator.UnaryOp.TheVariants as unary
use Rattle.c_tree.proofs.Rows.{nodes_out}
use Rattle.c_tree.specs.declared.tree.Trees.{out-Trees}
use Rattle.c_tree.specs.Forget.{view, list_view, view_all}
use Rattle.c_tree.specs.Views.{node_of, nodes_of, nodes_in}
use Rattle.type_rules.specs.Options.{◌>?◌}
use Rattle.hole_matcher.specs.HoleBindings.Bindings.{behind, binding_of}
use Rattle.hole_matcher.specs.HoleBindings.Settings.{setting_in}
use Rattle.hole_matcher.proofs.HeadSteps.{one-step, two-step, front-step, then-true, then-false, cond-step, braces-step, designated-step, at-operation, at-initializer, at-primary}
use Rattle.hole_matcher.proofs.ListSteps.{list-takes, list-ends, list-goes, list-done, all-behind}
use Rattle.hole_matcher.proofs.WalkSteps.{by_level, by_hole, by_likewise, last-matched, same-seat}
use Rattle.hole_matcher.proofs.walk.+walk.Goals as goal
use Rattle.hole_matcher.specs.Ways.Walks.{matched_opened, seat_of}
use Rattle.hole_matching.specs.Holes.{may_take}
use Rattle.hole_matching.specs.Matched.{bound, matched, matched_all}
use Rattle.hole_matching.specs.Matching.{One, Many, Elsewhere}
use Rattle.hole_matching.specs.Pattern.{Identifier, Member, Offsetof, Unary, likewise, more, no_more}
use Rattle.hole_matching.specs.Subjects.{trees}
use Rattle.hole_matching.specs.Written.{pattern_of, patterns_of, patterns_then, one_part, two_parts}
use Rattle.c_tree.specs.PathSubjects.Subjects.{Tree}
use Rattle.c_tree.specs.PathSubjects.Values.{subject_of}
use Rattle.tree_comparison.specs.declared.tree_levels.heads.One.TheVariants as one
use Rattle.tree_comparison.specs.TreeLevels.Levels.{level_opened}

pub match_tree-returns-in-Some : goal.match_tree-returns-in-Some
match_tree-returns-in-Some t c =
    let g = setting_in c.args.setting.now in
    let b = binding_of c.args.into.now in
    c.take.ensures
    ∙ ap (λ s. cond (may_take g c.in-Some.hole s) (bound g.facts c.in-Some.hole (One s) b) None) c.inner.ensures
    ∙ by_hole g (pattern_of (view c.args.pattern.now)) (subject_of c.args.subject) b c.in-Some.hole (sym c.hole_of.ensures ∙ c.in-Some.is)

pub match_tree-returns-in-None : goal.match_tree-returns-in-None
match_tree-returns-in-None t c =
    c.match_kind.ensures
    ∙ by_level (setting_in c.args.setting.now) (pattern_of (view c.args.pattern.now)) (subject_of c.args.subject) (binding_of c.args.into.now) _ (sym c.hole_of.ensures ∙ c.in-None.is) c.level_of.ensures

pub match_pointed-returns : goal.match_pointed-returns
match_pointed-returns t c =
    c.match_one.ensures
    ∙ by_likewise (setting_in c.args.setting.now) (Unary unary.Deref) (one_part (pattern_of (view c.args.pointer.now))) (subject_of c.args.subject) (binding_of c.args.into.now) _ c.level_of-other.ensures

pub match_one-returns-then-same_one : goal.match_one-returns-then-same_one
match_one-returns-then-same_one t c =
    one-step (setting_in c.args.setting.now) c.args.head c.in-One.other (pattern_of (view c.args.part.now)) c.in-One.other_part c.args.level (binding_of c.args.into.now) _
    c.in-One.is (sym c.same_one.ensures ∙ c.if-same_one.true) c.match_tree.ensures

pub match_two-returns-then-same_two : goal.match_two-returns-then-same_two
match_two-returns-then-same_two t c =
    two-step (setting_in c.args.setting.now) c.args.head c.in-Two.other (pattern_of (view c.args.left.now)) (pattern_of (view c.args.right.now)) c.in-Two.other_left c.in-Two.other_right c.args.level (binding_of c.args.into.now) _
    c.in-Two.is (sym c.same_two.ensures ∙ c.if-same_two.true) c.match_both.ensures

pub match_front-returns-then-same_front : goal.match_front-returns-then-same_front
match_front-returns-then-same_front t c =
    front-step (setting_in c.args.setting.now) c.args.head c.in-Front.other (pattern_of (view c.args.first.now)) (patterns_of (list_view c.args.list.now)) c.in-Front.other_first c.in-Front.other_list c.args.level (binding_of c.args.into.now) _ c.seat_behind.result
    c.in-Front.is (sym c.same_front.ensures ∙ c.if-same_front.true) c.seat_behind.ensures c.match_first.ensures

pub match_member-returns-then-same_one : goal.match_member-returns-then-same_one
match_member-returns-then-same_one t c =
    one-step (setting_in c.args.setting.now) (one.Member c.args.member) c.in-One.other (likewise (Unary unary.Deref) (one_part (pattern_of (view c.args.pointer.now)))) c.in-One.other_part c.args.level (binding_of c.args.into.now) _
    c.in-One.is (sym c.same_one.ensures ∙ c.if-same_one.true) c.match_pointed.ensures

pub match_first-returns-then-match_tree : goal.match_first-returns-then-match_tree
match_first-returns-then-match_tree t c =
    let g = setting_in c.args.setting.now in
    then-true _ _ _ (matched_all g (seat_of c.args.seat) (patterns_of (list_view c.args.list.now)) (trees (nodes_of c.args.other_list.now))) _ c.match_tree.ensures c.if-match_tree.true c.match_list.ensures

pub match_first-returns-else-match_tree : goal.match_first-returns-else-match_tree
match_first-returns-else-match_tree t c =
    let g = setting_in c.args.setting.now in
    then-false _ _ _ (matched_all g (seat_of c.args.seat) (patterns_of (list_view c.args.list.now)) (trees (nodes_of c.args.other_list.now))) c.match_tree.ensures c.if-match_tree.false

pub match_condition-returns-then-match_tree : goal.match_condition-returns-then-match_tree
match_condition-returns-then-match_tree t c =
    let g = setting_in c.args.setting.now in
    let p = pattern_of (view c.args.condition.now) in
    let q = pattern_of (view c.args.then.now) in
    let r = pattern_of (view c.args.otherwise.now) in
    cond-step g p q r c.in-Cond.first c.in-Cond.second c.in-Cond.third c.args.level (binding_of c.args.into.now) _ c.in-Cond.is
    (then-true _ _ _ (λ b. (matched g q (Tree (node_of c.in-Cond.second.now)) b >? matched g r (Tree (node_of c.in-Cond.third.now)))) _ c.match_tree.ensures c.if-match_tree.true c.match_both.ensures)

pub match_condition-returns-else-match_tree : goal.match_condition-returns-else-match_tree
match_condition-returns-else-match_tree t c =
    let g = setting_in c.args.setting.now in
    let p = pattern_of (view c.args.condition.now) in
    let q = pattern_of (view c.args.then.now) in
    let r = pattern_of (view c.args.otherwise.now) in
    cond-step g p q r c.in-Cond.first c.in-Cond.second c.in-Cond.third c.args.level (binding_of c.args.into.now) _ c.in-Cond.is
    (then-false _ _ _ (λ b. (matched g q (Tree (node_of c.in-Cond.second.now)) b >? matched g r (Tree (node_of c.in-Cond.third.now)))) c.match_tree.ensures c.if-match_tree.false)

pub match_braces-returns-in-Braces : goal.match_braces-returns-in-Braces
match_braces-returns-in-Braces t c =
    braces-step (setting_in c.args.setting.now) (patterns_of (list_view c.args.elements.now)) c.in-Braces.others c.args.level (binding_of c.args.into.now) _ c.in-Braces.is c.match_list.ensures

pub match_designated-returns-in-Designated : goal.match_designated-returns-in-Designated
match_designated-returns-in-Designated t c =
    designated-step (setting_in c.args.setting.now) (patterns_then (list_view c.args.designators.now) (one_part (pattern_of (view c.args.initial.now)))) c.in-Designated.others c.in-Designated.other_initial c.args.level (binding_of c.args.into.now) _
    c.in-Designated.is c.match_list_and_last.ensures

pub match_list_and_last-returns-then-match_list : goal.match_list_and_last-returns-then-match_list
match_list_and_last-returns-then-match_list t c =
    let g = setting_in c.args.setting.now in
    let q = pattern_of (view c.args.last.now) in
    let x = Tree (node_of c.args.other_last.now) in
    then-true _ _ _ (matched g q x) _ c.match_list.ensures c.if-match_list.true c.match_tree.ensures
    ∙ last-matched g (list_view c.args.patterns.now) (nodes_of c.args.others.now) q x (binding_of c.args.into.now)

pub match_list_and_last-returns-else-match_list : goal.match_list_and_last-returns-else-match_list
match_list_and_last-returns-else-match_list t c =
    let g = setting_in c.args.setting.now in
    let q = pattern_of (view c.args.last.now) in
    let x = Tree (node_of c.args.other_last.now) in
    then-false _ _ _ (matched g q x) c.match_list.ensures c.if-match_list.false
    ∙ last-matched g (list_view c.args.patterns.now) (nodes_of c.args.others.now) q x (binding_of c.args.into.now)

pub match_operation-returns-in-Index : goal.match_operation-returns-in-Index
match_operation-returns-in-Index t c = at-operation (setting_in c.args.setting.now) (level_opened (setting_in c.args.setting.now).facts c.args.level) c.args.kind.now _ (binding_of c.args.into.now) _ c.in-Index.is c.match_two.ensures

pub match_operation-returns-in-Call : goal.match_operation-returns-in-Call
match_operation-returns-in-Call t c = at-operation (setting_in c.args.setting.now) (level_opened (setting_in c.args.setting.now).facts c.args.level) c.args.kind.now _ (binding_of c.args.into.now) _ c.in-Call.is c.match_front.ensures

pub match_operation-returns-in-Member : goal.match_operation-returns-in-Member
match_operation-returns-in-Member t c =
    let g = setting_in c.args.setting.now in
    let b = binding_of c.args.into.now in
    at-operation g (level_opened g.facts c.args.level) c.args.kind.now _ b _ c.in-Member.is
    (c.match_one.ensures ∙ ap (λ n. matched_opened g (likewise (Member n) (one_part (pattern_of (view c.in-Member.operand.now)))) (level_opened g.facts c.args.level) b) c.spelling.ensures)

pub match_operation-returns-in-Arrow : goal.match_operation-returns-in-Arrow
match_operation-returns-in-Arrow t c =
    let g = setting_in c.args.setting.now in
    let b = binding_of c.args.into.now in
    at-operation g (level_opened g.facts c.args.level) c.args.kind.now _ b _ c.in-Arrow.is
    (c.match_member.ensures ∙ ap (λ n. matched_opened g (likewise (Member n) (one_part (likewise (Unary unary.Deref) (one_part (pattern_of (view c.in-Arrow.operand.now)))))) (level_opened g.facts c.args.level) b) c.spelling-in-Arrow.ensures)

pub match_operation-returns-in-CompoundLit : goal.match_operation-returns-in-CompoundLit
match_operation-returns-in-CompoundLit t c = at-operation (setting_in c.args.setting.now) (level_opened (setting_in c.args.setting.now).facts c.args.level) c.args.kind.now _ (binding_of c.args.into.now) _ c.in-CompoundLit.is c.match_two-in-CompoundLit.ensures

pub match_operation-returns-in-Unary : goal.match_operation-returns-in-Unary
match_operation-returns-in-Unary t c = at-operation (setting_in c.args.setting.now) (level_opened (setting_in c.args.setting.now).facts c.args.level) c.args.kind.now _ (binding_of c.args.into.now) _ c.in-Unary.is c.match_one-in-Unary.ensures

pub match_operation-returns-in-SizeofType : goal.match_operation-returns-in-SizeofType
match_operation-returns-in-SizeofType t c = at-operation (setting_in c.args.setting.now) (level_opened (setting_in c.args.setting.now).facts c.args.level) c.args.kind.now _ (binding_of c.args.into.now) _ c.in-SizeofType.is c.match_one-in-SizeofType.ensures

pub match_operation-returns-in-Cast : goal.match_operation-returns-in-Cast
match_operation-returns-in-Cast t c = at-operation (setting_in c.args.setting.now) (level_opened (setting_in c.args.setting.now).facts c.args.level) c.args.kind.now _ (binding_of c.args.into.now) _ c.in-Cast.is c.match_two-in-Cast.ensures

pub match_operation-returns-in-Binary : goal.match_operation-returns-in-Binary
match_operation-returns-in-Binary t c = at-operation (setting_in c.args.setting.now) (level_opened (setting_in c.args.setting.now).facts c.args.level) c.args.kind.now _ (binding_of c.args.into.now) _ c.in-Binary.is c.match_two-in-Binary.ensures

pub match_operation-returns-in-Cond : goal.match_operation-returns-in-Cond
match_operation-returns-in-Cond t c = at-operation (setting_in c.args.setting.now) (level_opened (setting_in c.args.setting.now).facts c.args.level) c.args.kind.now _ (binding_of c.args.into.now) _ c.in-Cond.is c.match_condition.ensures

pub match_operation-returns-in-Assign : goal.match_operation-returns-in-Assign
match_operation-returns-in-Assign t c = at-operation (setting_in c.args.setting.now) (level_opened (setting_in c.args.setting.now).facts c.args.level) c.args.kind.now _ (binding_of c.args.into.now) _ c.in-Assign.is c.match_two-in-Assign.ensures

pub match_initializer-returns-in-Braces : goal.match_initializer-returns-in-Braces
match_initializer-returns-in-Braces t c = at-initializer (setting_in c.args.setting.now) (level_opened (setting_in c.args.setting.now).facts c.args.level) c.args.kind.now _ (binding_of c.args.into.now) _ c.in-Braces.is c.match_braces.ensures

pub match_initializer-returns-in-Designated : goal.match_initializer-returns-in-Designated
match_initializer-returns-in-Designated t c = at-initializer (setting_in c.args.setting.now) (level_opened (setting_in c.args.setting.now).facts c.args.level) c.args.kind.now _ (binding_of c.args.into.now) _ c.in-Designated.is c.match_designated.ensures

pub match_primary-returns-in-Ident : goal.match_primary-returns-in-Ident
match_primary-returns-in-Ident t c =
    let g = setting_in c.args.setting.now in
    let b = binding_of c.args.into.now in
    at-primary g (level_opened g.facts c.args.level) c.args.kind.now _ b _ c.in-Ident.is
    (c.match_leaf.ensures b ∙ ap (λ n. matched_opened g (likewise (Identifier n) (no_more)) (level_opened g.facts c.args.level) b) c.spelling.ensures)

pub match_primary-returns-in-StrConst : goal.match_primary-returns-in-StrConst
match_primary-returns-in-StrConst t c = at-primary (setting_in c.args.setting.now) (level_opened (setting_in c.args.setting.now).facts c.args.level) c.args.kind.now _ (binding_of c.args.into.now) _ c.in-StrConst.is (c.match_strings.ensures (binding_of c.args.into.now))

pub match_primary-returns-in-Paren : goal.match_primary-returns-in-Paren
match_primary-returns-in-Paren t c = at-primary (setting_in c.args.setting.now) (level_opened (setting_in c.args.setting.now).facts c.args.level) c.args.kind.now _ (binding_of c.args.into.now) _ c.in-Paren.is c.match_kind.ensures

pub match_primary-returns-in-VaArg : goal.match_primary-returns-in-VaArg
match_primary-returns-in-VaArg t c = at-primary (setting_in c.args.setting.now) (level_opened (setting_in c.args.setting.now).facts c.args.level) c.args.kind.now _ (binding_of c.args.into.now) _ c.in-VaArg.is c.match_two.ensures

pub match_primary-returns-in-Offsetof : goal.match_primary-returns-in-Offsetof
match_primary-returns-in-Offsetof t c =
    let g = setting_in c.args.setting.now in
    let b = binding_of c.args.into.now in
    at-primary g (level_opened g.facts c.args.level) c.args.kind.now _ b _ c.in-Offsetof.is
    (c.match_front.ensures ∙ ap (λ n. matched_opened g (likewise (Offsetof n) (more (pattern_of (view c.in-Offsetof.of.now)) (patterns_of (list_view c.in-Offsetof.path)))) (level_opened g.facts c.args.level) b) c.spelling-in-Offsetof.ensures)

pub match_list-returns-in-Some : goal.match_list-returns-in-Some
match_list-returns-in-Some t c =
    let g = setting_in c.args.setting.now in
    let s = seat_of c.args.seat in
    let all = (out-Trees c.args.patterns.now).all.now in
    let given = (out-Trees c.args.others.now).all.now in
    let i = c.loop-i.i in
    let b = binding_of c.loop-i.into in
    c.bind.ensures
    ∙ ap (λ ts. bound g.facts c.in-Some.hole (Many (trees (nodes_in ts))) b) (all-behind given i)
    ∙ list-takes g s all given i _ b c.in-Some.hole _ c.loop-i-test.true refl (sym c.rest_hole.ensures ∙ c.in-Some.is)
    ∙ c.loop-i.invariant.1

pub match_list-returns-then-i-given : goal.match_list-returns-then-i-given
match_list-returns-then-i-given t c =
    let g = setting_in c.args.setting.now in
    let s = seat_of c.args.seat in
    let all = (out-Trees c.args.patterns.now).all.now in
    let given = (out-Trees c.args.others.now).all.now in
    let i = c.loop-i.i in
    let b = binding_of c.loop-i.into in
    list-ends g s all given i _ b _ c.loop-i-test.true refl (sym c.rest_hole.ensures ∙ c.in_default.is) c.if-i-given.true
    ∙ c.loop-i.invariant.1

pub match_list-returns : goal.match_list-returns
match_list-returns t c =
    let g = setting_in c.args.setting.now in
    let s = seat_of c.args.seat in
    let all = (out-Trees c.args.patterns.now).all.now in
    let given = (out-Trees c.args.others.now).all.now in
    let i = c.loop-i.i in
    let b = binding_of c.loop-i.into in
    list-done g s all given i b _ c.loop-i-test.false c.loop-i.auto.i-end c.loop-i.invariant.0 refl
    ∙ c.loop-i.invariant.1

pub match_list-returns-then-not-match_tree : goal.match_list-returns-then-not-match_tree
match_list-returns-then-not-match_tree t c =
    let g = setting_in c.args.setting.now in
    let s = seat_of c.args.seat in
    let all = (out-Trees c.args.patterns.now).all.now in
    let given = (out-Trees c.args.others.now).all.now in
    let i = c.loop-i.i in
    let b = binding_of c.loop-i.into in
    ap (λ o. o >? matched_all g s (patterns_of (view_all (drop (i + 1) all))) (trees (nodes_in (drop (i + 1) given)))) (sym (ap (λ y. behind y (binding_of c.match_tree.new.into)) c.if-not-match_tree.true) ∙ c.match_tree.ensures)
    ∙ list-goes g s all given i _ _ b _ (same-seat c.args.seat) c.loop-i-test.true refl (sym c.rest_hole.ensures ∙ c.in_default.is) c.if-i-given.false
    ∙ c.loop-i.invariant.1

pub match_list-loop-i-preserved : goal.match_list-loop-i-preserved
match_list-loop-i-preserved t c =
    let g = setting_in c.args.setting.now in
    let s = seat_of c.args.seat in
    let all = (out-Trees c.args.patterns.now).all.now in
    let given = (out-Trees c.args.others.now).all.now in
    let i = c.loop-i.i in
    let b = binding_of c.loop-i.into in
    let h : i < length given = c.if-i-given.false in (
      omega (arith, h),
      ap (λ o. o >? matched_all g s (patterns_of (view_all (drop (i + 1) all))) (trees (nodes_in (drop (i + 1) given)))) (sym (ap (λ y. behind y (binding_of c.match_tree.new.into)) c.if-not-match_tree.false) ∙ c.match_tree.ensures)
          ∙ list-goes g s all given i _ _ b _ (same-seat c.args.seat) c.loop-i-test.true refl (sym c.rest_hole.ensures ∙ c.in_default.is) c.if-i-given.false
          ∙ c.loop-i.invariant.1,
    )
