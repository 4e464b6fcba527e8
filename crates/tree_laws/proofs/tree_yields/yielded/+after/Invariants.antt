use Rattle.std.proofs.Common.{◌≡◌, ℕ, ◌+◌, ◌*◌, cond, drop, Option, None, Some}
use Rattle.std.specs.Borrow.{Bor}
use Rattle.c_tree.specs.declared.tree.Tree.{Tree, size-Tree}
use Rattle.c_tree.specs.Forget.{view_all, list_view}
use Rattle.c_tree.specs.Tokens.{row_phrase, list_phrase, more_phrase}
use Rattle.tree_laws.specs.Ways.After.{after_phrase, rest_of}
use Rattle.tree_laws.proofs.tree_yields.yielded.+after.Given as goal

-- taking off what is left gives what taking off the whole gives
abbrev pub invariant-after_row-loop-tree : goal.invariant-after_row-loop-tree
invariant-after_row-loop-tree l =
    let left = view_all (drop l.tree-index l.tree-items) in
    after_phrase (row_phrase left) (rest_of l.rest) ≡ after_phrase (row_phrase (list_view l.trees)) (rest_of l.fn.tokens)

abbrev pub invariant-after_list-loop-tree : goal.invariant-after_list-loop-tree
invariant-after_list-loop-tree l =
    let left = view_all (drop l.tree-index l.tree-items) in
    after_phrase (cond l.is_first (list_phrase left) (more_phrase left)) (rest_of l.rest) ≡ after_phrase (list_phrase (list_view l.trees)) (rest_of l.fn.tokens)

abbrev maybe_size : Option (Bor Tree) → ℕ
maybe_size None = 0
maybe_size (Some t) = 2 * size-Tree t.now + 1

abbrev pub decreases-after_assigned : goal.decreases-after_assigned
decreases-after_assigned l = maybe_size l.tree

abbrev pub decreases-after_declarator : goal.decreases-after_declarator
decreases-after_declarator l = 2 * goal.size-after_declarator l

abbrev pub decreases-after_else : goal.decreases-after_else
decreases-after_else l = maybe_size l.tree

abbrev pub decreases-after_ended : goal.decreases-after_ended
decreases-after_ended l = maybe_size l.tree

abbrev pub decreases-after_initializer : goal.decreases-after_initializer
decreases-after_initializer l = 2 * goal.size-after_initializer l

abbrev pub decreases-after_iteration : goal.decreases-after_iteration
decreases-after_iteration l = 2 * goal.size-after_iteration l

abbrev pub decreases-after_jump : goal.decreases-after_jump
decreases-after_jump l = 2 * goal.size-after_jump l

abbrev pub decreases-after_list : goal.decreases-after_list
decreases-after_list l = 2 * goal.size-after_list l

abbrev pub decreases-after_operation : goal.decreases-after_operation
decreases-after_operation l = 2 * goal.size-after_operation l

abbrev pub decreases-after_optional : goal.decreases-after_optional
decreases-after_optional l = maybe_size l.tree

abbrev pub decreases-after_outer : goal.decreases-after_outer
decreases-after_outer l = 2 * goal.size-after_outer l

abbrev pub decreases-after_parenthesized : goal.decreases-after_parenthesized
decreases-after_parenthesized l = 2 * goal.size-after_parenthesized l + 1

abbrev pub decreases-after_part : goal.decreases-after_part
decreases-after_part l = 2 * goal.size-after_part l

abbrev pub decreases-after_primary : goal.decreases-after_primary
decreases-after_primary l = 2 * goal.size-after_primary l

abbrev pub decreases-after_row : goal.decreases-after_row
decreases-after_row l = 2 * goal.size-after_row l

abbrev pub decreases-after_specifier : goal.decreases-after_specifier
decreases-after_specifier l = 2 * goal.size-after_specifier l

abbrev pub decreases-after_statement : goal.decreases-after_statement
decreases-after_statement l = 2 * goal.size-after_statement l

abbrev pub decreases-after_tree : goal.decreases-after_tree
decreases-after_tree l = 2 * goal.size-after_tree l

abbrev pub decreases-after_unary : goal.decreases-after_unary
decreases-after_unary l = 2 * goal.size-after_unary l + 1
