use Rattle.std.proofs.Common.{◌∙◌, sym, ap, cond, ◌&&◌}
use Rattle.c_tree.specs.declared.operator.AssignOp.TheVariants as assign
use Rattle.c_tree.specs.Views.{node_of, nodes_of}
use Rattle.hole_matching.specs.ComparedSubjects.{compared, compared_node, compared_nodes, compared_then}
use Rattle.hole_matching.specs.Pattern.{Assign, likewise, other, same_pattern}
use Rattle.hole_matching.specs.Written.{one_part, two_parts}
use Rattle.objects.specs.Units.{facts_in}
use Rattle.c_tree.specs.PathSubjects.Values.{subject_of}
use Rattle.tree_comparison.proofs.ComparedLevels.{front-same, braces-same, designated-same, at-operation, at-initializer, at-primary}
use Rattle.tree_comparison.proofs.Sames.{lists-differ, last_compared}
use Rattle.tree_comparison.proofs.comparison.+same.Goals as goal
use Rattle.tree_comparison.specs.TreeLevels.Levels.{level_pattern}

pub same_list-returns-then-all-others : goal.same_list-returns-then-all-others
same_list-returns-then-all-others t c = sym (lists-differ (facts_in c.args.unit.now) c.args.left.now c.args.right.now c.if-all-others.true)

pub has_front-returns-then-same_front : goal.has_front-returns-then-same_front
has_front-returns-then-same_front t c =
    let u = facts_in c.args.unit.now in
    c.are_front.ensures
    ∙ front-same u c.args.head c.in-Front.other (compared_node u (node_of c.args.first.now)) (compared_nodes u (nodes_of c.args.list.now)) c.in-Front.other_first c.in-Front.other_list c.args.level c.in-Front.is (sym c.same_front.ensures ∙ c.if-same_front.true)

pub has_braces-returns-in-Braces : goal.has_braces-returns-in-Braces
has_braces-returns-in-Braces t c =
    let u = facts_in c.args.unit.now in
    c.same_list.ensures ∙ braces-same u (compared_nodes u (nodes_of c.args.elements.now)) c.in-Braces.others c.args.level c.in-Braces.is

pub is_designated-returns-in-Designated : goal.is_designated-returns-in-Designated
is_designated-returns-in-Designated t c =
    let u = facts_in c.args.unit.now in
    c.same_list_and_last.ensures
    ∙ designated-same u (compared_then u (nodes_of c.args.designators.now) (one_part (compared_node u (node_of c.args.initial.now)))) c.in-Designated.others c.in-Designated.other_initial c.args.level c.in-Designated.is

pub same_list_and_last-returns-then-same_list : goal.same_list_and_last-returns-then-same_list
same_list_and_last-returns-then-same_list t c =
    let u = facts_in c.args.unit.now in
    let p = compared_node u (node_of c.args.last.now) in
    let q = compared_node u (node_of c.args.other_last.now) in
    c.same_tree.ensures
    ∙ ap (λ b. b && same_pattern p q) (sym c.if-same_list.true ∙ c.same_list.ensures)
    ∙ last_compared u (nodes_of c.args.left.now) (nodes_of c.args.right.now) p q

pub same_list_and_last-returns-else-same_list : goal.same_list_and_last-returns-else-same_list
same_list_and_last-returns-else-same_list t c =
    let u = facts_in c.args.unit.now in
    let p = compared_node u (node_of c.args.last.now) in
    let q = compared_node u (node_of c.args.other_last.now) in
    c.if-same_list.false
    ∙ ap (λ b. b && same_pattern p q) (sym c.if-same_list.false ∙ c.same_list.ensures)
    ∙ last_compared u (nodes_of c.args.left.now) (nodes_of c.args.right.now) p q

pub same_initializer-returns-else-is_braced : goal.same_initializer-returns-else-is_braced
same_initializer-returns-else-is_braced t c =
    let u = facts_in c.args.unit.now in
    let l = level_pattern u c.args.level in
    let ps = two_parts (compared_node u (node_of c.in-Init.name.now)) (compared_node u (node_of c.in-Init.initial.now)) in
    at-initializer u l c.args.kind.now _ _ c.in-Init.is
    (c.have_two.ensures ∙ ap (λ b. same_pattern (cond b other (likewise (Assign assign.Plain) ps)) l) (sym c.if-is_braced.false ∙ c.is_braced.ensures))

pub same_initializer-returns-in-Braces : goal.same_initializer-returns-in-Braces
same_initializer-returns-in-Braces t c = at-initializer (facts_in c.args.unit.now) (level_pattern (facts_in c.args.unit.now) c.args.level) c.args.kind.now _ _ c.in-Braces.is c.has_braces.ensures

pub same_initializer-returns-in-Designated : goal.same_initializer-returns-in-Designated
same_initializer-returns-in-Designated t c = at-initializer (facts_in c.args.unit.now) (level_pattern (facts_in c.args.unit.now) c.args.level) c.args.kind.now _ _ c.in-Designated.is c.is_designated.ensures

pub same_operation-returns-in-Index : goal.same_operation-returns-in-Index
same_operation-returns-in-Index t c = at-operation (facts_in c.args.unit.now) (level_pattern (facts_in c.args.unit.now) c.args.level) c.args.kind.now _ _ c.in-Index.is c.have_two.ensures

pub same_operation-returns-in-Call : goal.same_operation-returns-in-Call
same_operation-returns-in-Call t c = at-operation (facts_in c.args.unit.now) (level_pattern (facts_in c.args.unit.now) c.args.level) c.args.kind.now _ _ c.in-Call.is c.has_front.ensures

pub same_operation-returns-in-Member : goal.same_operation-returns-in-Member
same_operation-returns-in-Member t c = at-operation (facts_in c.args.unit.now) (level_pattern (facts_in c.args.unit.now) c.args.level) c.args.kind.now _ _ c.in-Member.is c.has_one.ensures

pub same_operation-returns-in-Arrow : goal.same_operation-returns-in-Arrow
same_operation-returns-in-Arrow t c = at-operation (facts_in c.args.unit.now) (level_pattern (facts_in c.args.unit.now) c.args.level) c.args.kind.now _ _ c.in-Arrow.is c.has_pointed.ensures

pub same_operation-returns-in-CompoundLit : goal.same_operation-returns-in-CompoundLit
same_operation-returns-in-CompoundLit t c = at-operation (facts_in c.args.unit.now) (level_pattern (facts_in c.args.unit.now) c.args.level) c.args.kind.now _ _ c.in-CompoundLit.is c.have_two-in-CompoundLit.ensures

pub same_operation-returns-in-Unary : goal.same_operation-returns-in-Unary
same_operation-returns-in-Unary t c = at-operation (facts_in c.args.unit.now) (level_pattern (facts_in c.args.unit.now) c.args.level) c.args.kind.now _ _ c.in-Unary.is c.has_one-in-Unary.ensures

pub same_operation-returns-in-SizeofType : goal.same_operation-returns-in-SizeofType
same_operation-returns-in-SizeofType t c = at-operation (facts_in c.args.unit.now) (level_pattern (facts_in c.args.unit.now) c.args.level) c.args.kind.now _ _ c.in-SizeofType.is c.has_one-in-SizeofType.ensures

pub same_operation-returns-in-Cast : goal.same_operation-returns-in-Cast
same_operation-returns-in-Cast t c = at-operation (facts_in c.args.unit.now) (level_pattern (facts_in c.args.unit.now) c.args.level) c.args.kind.now _ _ c.in-Cast.is c.have_two-in-Cast.ensures

pub same_operation-returns-in-Binary : goal.same_operation-returns-in-Binary
same_operation-returns-in-Binary t c = at-operation (facts_in c.args.unit.now) (level_pattern (facts_in c.args.unit.now) c.args.level) c.args.kind.now _ _ c.in-Binary.is c.have_two-in-Binary.ensures

pub same_operation-returns-in-Cond : goal.same_operation-returns-in-Cond
same_operation-returns-in-Cond t c = at-operation (facts_in c.args.unit.now) (level_pattern (facts_in c.args.unit.now) c.args.level) c.args.kind.now _ _ c.in-Cond.is c.has_three.ensures

pub same_operation-returns-in-Assign : goal.same_operation-returns-in-Assign
same_operation-returns-in-Assign t c = at-operation (facts_in c.args.unit.now) (level_pattern (facts_in c.args.unit.now) c.args.level) c.args.kind.now _ _ c.in-Assign.is c.have_two-in-Assign.ensures

pub same_primary-returns-in-VaArg : goal.same_primary-returns-in-VaArg
same_primary-returns-in-VaArg t c = at-primary (facts_in c.args.unit.now) (compared (facts_in c.args.unit.now) (subject_of c.args.subject)) _ c.args.kind.now _ _ c.in-VaArg.is c.seen-in-VaArg.ensures c.have_two.ensures

pub same_primary-returns-in-Offsetof : goal.same_primary-returns-in-Offsetof
same_primary-returns-in-Offsetof t c = at-primary (facts_in c.args.unit.now) (compared (facts_in c.args.unit.now) (subject_of c.args.subject)) _ c.args.kind.now _ _ c.in-Offsetof.is c.seen-in-Offsetof.ensures c.has_front.ensures
