use Rattle.std.proofs.Common.{◌≡◌, ℕ, ◌+◌, ◌*◌, max, drop, Option, None, Some}
use Rattle.std.specs.Borrow.{Bor}
use Rattle.c_tree.specs.declared.tree.Tree.{Tree, size-Tree}
use Rattle.c_tree.specs.declared.tree.Trees.{size-Trees}
use Rattle.c_tree.specs.declared.expression.Primary.{size-Primary}
use Rattle.c_tree.specs.declared.expression.Operation.{size-Operation}
use Rattle.c_tree.specs.declared.declaration.Initializer.{size-Initializer}
use Rattle.c_tree.specs.declared.declaration.Specifier.{size-Specifier}
use Rattle.c_tree.specs.declared.declaration.Declarator.{size-Declarator}
use Rattle.c_tree.specs.declared.declaration.Part.{size-Part}
use Rattle.c_tree.specs.declared.declaration.Outer.{size-Outer}
use Rattle.c_tree.specs.declared.statement.Statement.{size-Statement}
use Rattle.c_tree.specs.declared.statement.Iteration.{size-Iteration}
use Rattle.c_tree.specs.declared.statement.Jump.{size-Jump}
use Rattle.c_tree.specs.Views.{nodes_of, nodes_in}
use Rattle.type_rules.specs.Ways.ScopesByCase.{scoped_each, scoped_beside}
use Rattle.type_rules.specs.Ways.TablesByCase.{filled_each, filled_beside}
use Rattle.type_rules.specs.Ways.TypesByCase.{typed_each, typed_beside}
use Rattle.typed_unit.specs.Tables.{table_of}
use Rattle.unit_typing.specs.Roles.{role_of}
use Rattle.unit_typing.specs.Scopes.{scopes_of}
use Rattle.unit_typing.proofs.visit.+typing.Given as goal

-- the size of a tree is its depth
abbrev maybe_size : Option (Bor Tree) → ℕ
maybe_size None = 0
maybe_size (Some t) = 8 * size-Tree t.now + 1

abbrev pub decreases-initializers::type_initializer : goal.decreases-initializers::type_initializer
decreases-initializers::type_initializer l = 8 * size-Initializer l.kind.now

abbrev pub decreases-iterations::type_for : goal.decreases-iterations::type_for
decreases-iterations::type_for l = max (8 * size-Tree l.body.now) (max (maybe_size l.first) (max (maybe_size l.condition) (maybe_size l.step))) + 1

abbrev pub decreases-iterations::type_for_declaration : goal.decreases-iterations::type_for_declaration
decreases-iterations::type_for_declaration l = max (8 * size-Tree l.declaration.now) (max (8 * size-Tree l.body.now) (max (maybe_size l.condition) (maybe_size l.step))) + 1

abbrev pub decreases-iterations::type_iteration : goal.decreases-iterations::type_iteration
decreases-iterations::type_iteration l = 8 * size-Iteration l.kind.now

abbrev pub decreases-jumps::type_jump : goal.decreases-jumps::type_jump
decreases-jumps::type_jump l = 8 * size-Jump l.kind.now

abbrev pub decreases-operations::type_assign : goal.decreases-operations::type_assign
decreases-operations::type_assign l = max (8 * size-Tree l.left.now) (8 * size-Tree l.right.now) + 1

abbrev pub decreases-operations::type_binary : goal.decreases-operations::type_binary
decreases-operations::type_binary l = max (8 * size-Tree l.left.now) (8 * size-Tree l.right.now) + 1

abbrev pub decreases-operations::type_cast : goal.decreases-operations::type_cast
decreases-operations::type_cast l = max (8 * size-Tree l.to.now) (8 * size-Tree l.operand.now) + 1

abbrev pub decreases-operations::type_cond : goal.decreases-operations::type_cond
decreases-operations::type_cond l = max (8 * size-Tree l.condition.now) (max (8 * size-Tree l.second.now) (8 * size-Tree l.third.now)) + 1

abbrev pub decreases-operations::type_operation : goal.decreases-operations::type_operation
decreases-operations::type_operation l = 8 * size-Operation l.kind.now

abbrev pub decreases-operations::type_unary : goal.decreases-operations::type_unary
decreases-operations::type_unary l = 8 * size-Tree l.operand.now + 1

abbrev pub decreases-parts::type_enumerator : goal.decreases-parts::type_enumerator
decreases-parts::type_enumerator l = maybe_size l.value + 1

abbrev pub decreases-parts::type_params : goal.decreases-parts::type_params
decreases-parts::type_params l = 8 * size-Trees l.params.now + 1

abbrev pub decreases-parts::type_part : goal.decreases-parts::type_part
decreases-parts::type_part l = 8 * size-Part l.kind.now

abbrev pub decreases-postfixes::type_arrow : goal.decreases-postfixes::type_arrow
decreases-postfixes::type_arrow l = 8 * size-Tree l.operand.now + 1

abbrev pub decreases-postfixes::type_call : goal.decreases-postfixes::type_call
decreases-postfixes::type_call l = max (8 * size-Tree l.callee.now) (8 * size-Trees l.arguments.now) + 1

abbrev pub decreases-postfixes::type_index : goal.decreases-postfixes::type_index
decreases-postfixes::type_index l = max (8 * size-Tree l.array.now) (8 * size-Tree l.index.now) + 1

abbrev pub decreases-postfixes::type_member : goal.decreases-postfixes::type_member
decreases-postfixes::type_member l = 8 * size-Tree l.operand.now + 1

abbrev pub decreases-primaries::type_primary : goal.decreases-primaries::type_primary
decreases-primaries::type_primary l = 8 * size-Primary l.kind.now

abbrev pub decreases-statements::type_block : goal.decreases-statements::type_block
decreases-statements::type_block l = 8 * size-Trees l.items.now + 1

abbrev pub decreases-statements::type_if : goal.decreases-statements::type_if
decreases-statements::type_if l = max (8 * size-Tree l.condition.now) (max (8 * size-Tree l.body.now) (maybe_size l.otherwise)) + 1

abbrev pub decreases-statements::type_statement : goal.decreases-statements::type_statement
decreases-statements::type_statement l = 8 * size-Statement l.kind.now

abbrev pub decreases-type_both : goal.decreases-type_both
decreases-type_both l = max (8 * size-Tree l.first.now) (8 * size-Tree l.second.now) + 1

abbrev pub decreases-type_each : goal.decreases-type_each
decreases-type_each l = 8 * size-Trees l.trees.now

abbrev pub decreases-type_maybe : goal.decreases-type_maybe
decreases-type_maybe l = maybe_size l.tree

abbrev pub decreases-type_tree : goal.decreases-type_tree
decreases-type_tree l = 8 * size-Tree l.tree.now

abbrev pub decreases-type_beside : goal.decreases-type_beside
decreases-type_beside l = 8 * size-Trees l.trees.now

abbrev pub decreases-declarators::type_declarator : goal.decreases-declarators::type_declarator
decreases-declarators::type_declarator l = 8 * size-Declarator l.kind.now

abbrev pub decreases-specifiers::type_specifier : goal.decreases-specifiers::type_specifier
decreases-specifiers::type_specifier l = 8 * size-Specifier l.kind.now

abbrev pub decreases-specifiers::type_body : goal.decreases-specifiers::type_body
decreases-specifiers::type_body l = 8 * size-Trees l.members.now + 1

abbrev pub decreases-specifiers::type_members : goal.decreases-specifiers::type_members
decreases-specifiers::type_members l = max (8 * size-Tree l.specs.now) (8 * size-Trees l.declarators.now) + 1

abbrev pub decreases-specifiers::type_type_name : goal.decreases-specifiers::type_type_name
decreases-specifiers::type_type_name l = max (8 * size-Tree l.specs.now) (maybe_size l.declarator) + 1

abbrev pub decreases-specifiers::type_param : goal.decreases-specifiers::type_param
decreases-specifiers::type_param l = max (8 * size-Tree l.specs.now) (maybe_size l.declarator) + 1

abbrev pub decreases-specifiers::type_enumeration : goal.decreases-specifiers::type_enumeration
decreases-specifiers::type_enumeration l = 8 * size-Trees l.enumerators.now + 1

abbrev pub decreases-outer::type_outer : goal.decreases-outer::type_outer
decreases-outer::type_outer l = 8 * size-Outer l.kind.now

-- what is left, from here, is what all are, from the beginning
abbrev pub invariant-type_each-loop-tree : goal.invariant-type_each-loop-tree
invariant-type_each-loop-tree l =
    let r = role_of l.role in
    let rest = nodes_in (drop l.tree-index l.tree-items) in
    record {
      gives : typed_each (scopes_of l.scopes) r rest ≡ typed_each (scopes_of l.fn.scopes) r (nodes_of l.trees);
      scopes : scoped_each (scopes_of l.scopes) r rest ≡ scoped_each (scopes_of l.fn.scopes) r (nodes_of l.trees);
      table : filled_each (scopes_of l.scopes) r rest (table_of l.table) ≡ filled_each (scopes_of l.fn.scopes) r (nodes_of l.trees) (table_of l.fn.table);
    }

-- the same, where the first has a role of its own
abbrev pub invariant-type_beside-loop-tree : goal.invariant-type_beside-loop-tree
invariant-type_beside-loop-tree l =
    let rest = nodes_in (drop l.tree-index l.tree-items) in
    record {
      gives : typed_beside (scopes_of l.scopes) (role_of l.next) rest ≡ typed_beside (scopes_of l.fn.scopes) (role_of l.role) (nodes_of l.trees);
      scopes : scoped_beside (scopes_of l.scopes) (role_of l.next) rest ≡ scoped_beside (scopes_of l.fn.scopes) (role_of l.role) (nodes_of l.trees);
      table : filled_beside (scopes_of l.scopes) (role_of l.next) rest (table_of l.table) ≡ filled_beside (scopes_of l.fn.scopes) (role_of l.role) (nodes_of l.trees) (table_of l.fn.table);
    }
