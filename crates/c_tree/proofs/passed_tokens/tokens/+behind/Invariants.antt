use Rattle.std.proofs.Common.{◌≡◌, ℕ, ◌+◌, ◌*◌, cond, drop, Option, None, Some}
use Rattle.std.specs.Borrow.{Bor}
use Rattle.c_tree.specs.declared.tree.Tree.{Tree, size-Tree}
use Rattle.c_tree.specs.Forget.{view_all, list_view}
use Rattle.c_tree.specs.Tokens.{row_phrase, list_phrase, more_phrase}
use Rattle.c_tree.specs.PassedTokens.Behind.{behind}
use Rattle.c_tree.proofs.passed_tokens.tokens.+behind.Given as goal

-- passing what is left gives what passing the whole gives
abbrev pub invariant-behind_row-loop-tree : goal.invariant-behind_row-loop-tree
invariant-behind_row-loop-tree l =
    let left = view_all (drop l.tree-index l.tree-items) in
    behind (row_phrase left) l.rest ≡ behind (row_phrase (list_view l.trees)) l.fn.tokens

abbrev pub invariant-behind_list-loop-tree : goal.invariant-behind_list-loop-tree
invariant-behind_list-loop-tree l =
    let left = view_all (drop l.tree-index l.tree-items) in
    behind (cond l.is_first (list_phrase left) (more_phrase left)) l.rest ≡ behind (list_phrase (list_view l.trees)) l.fn.tokens

abbrev maybe_size : Option (Bor Tree) → ℕ
maybe_size None = 0
maybe_size (Some t) = 2 * size-Tree t.now + 1

abbrev pub decreases-behind_assigned : goal.decreases-behind_assigned
decreases-behind_assigned l = maybe_size l.tree

abbrev pub decreases-behind_declarator : goal.decreases-behind_declarator
decreases-behind_declarator l = 2 * goal.size-behind_declarator l

abbrev pub decreases-behind_else : goal.decreases-behind_else
decreases-behind_else l = maybe_size l.tree

abbrev pub decreases-behind_initializer : goal.decreases-behind_initializer
decreases-behind_initializer l = 2 * goal.size-behind_initializer l

abbrev pub decreases-behind_iteration : goal.decreases-behind_iteration
decreases-behind_iteration l = 2 * goal.size-behind_iteration l

abbrev pub decreases-behind_jump : goal.decreases-behind_jump
decreases-behind_jump l = 2 * goal.size-behind_jump l

abbrev pub decreases-behind_list : goal.decreases-behind_list
decreases-behind_list l = 2 * goal.size-behind_list l

abbrev pub decreases-behind_operation : goal.decreases-behind_operation
decreases-behind_operation l = 2 * goal.size-behind_operation l

abbrev pub decreases-behind_optional : goal.decreases-behind_optional
decreases-behind_optional l = maybe_size l.tree

abbrev pub decreases-behind_outer : goal.decreases-behind_outer
decreases-behind_outer l = 2 * goal.size-behind_outer l

abbrev pub decreases-behind_parenthesized : goal.decreases-behind_parenthesized
decreases-behind_parenthesized l = 2 * goal.size-behind_parenthesized l + 1

abbrev pub decreases-behind_part : goal.decreases-behind_part
decreases-behind_part l = 2 * goal.size-behind_part l

abbrev pub decreases-behind_primary : goal.decreases-behind_primary
decreases-behind_primary l = 2 * goal.size-behind_primary l

abbrev pub decreases-behind_row : goal.decreases-behind_row
decreases-behind_row l = 2 * goal.size-behind_row l

abbrev pub decreases-behind_specifier : goal.decreases-behind_specifier
decreases-behind_specifier l = 2 * goal.size-behind_specifier l

abbrev pub decreases-behind_statement : goal.decreases-behind_statement
decreases-behind_statement l = 2 * goal.size-behind_statement l

abbrev pub decreases-behind_tree : goal.decreases-behind_tree
decreases-behind_tree l = 2 * goal.size-behind_tree l

abbrev pub decreases-behind_unary : goal.decreases-behind_unary
decreases-behind_unary l = 2 * goal.size-behind_unary l + 1
