use Rattle.std.proofs.Common.{ap, ◌≡◌, rules}
use Rattle.std.specs.Option.{option_map}
use Rattle.c_tree.specs.Views.{shape_of, primary_shape, nodes_of, statement_shape, node_of, option_node, iteration_shape, specifier_shape}
use Rattle.type_values.specs.Types.{ctype_of}
use Rattle.type_values.specs.Vars.{cvar_of}
use Rattle.typed_unit.specs.Tables.{table_of}
use Rattle.unit_typing.specs.Roles.{role_of}
use Rattle.unit_typing.specs.Scopes.{scopes_of}
use Rattle.unit_typing.proofs.Kept.{primary-kept}
use Rattle.unit_typing.proofs.Marks.{block_end, for_end, params_end}
use Rattle.c_tree.specs.Node.{If, For, ForDeclaration, TypeName, Param}
use Rattle.unit_typing.proofs.visit.+typing.Goals as goal

pub type_tree-returns-in_ok-keep-in-Primary-clause-table : goal.type_tree-returns-in_ok-keep-in-Primary-clause-table
type_tree-returns-in_ok-keep-in-Primary-clause-table t c =
    primary-kept (scopes_of c.args.scopes.now) (role_of c.args.role) c.args.tree.now.id c.args.tree.now.first (shape_of c.args.tree.now.kind) (primary_shape c.in-Primary.kind) (table_of c.args.table.now) _ _
    (ctype_of c.in_ok-ty-in-Primary.ty) (option_map cvar_of c.primary_var-var.result) (ap shape_of c.in-Primary.is) c.primary_var-var.ensures
    c.in_ok-ty-in-Primary.ensures.gives c.in_ok-ty-in-Primary.ensures.table c.in_ok-keep-in-Primary.ensures

pub statements::type_block-returns-clause-scopes : goal.statements::type_block-returns-clause-scopes
statements::type_block-returns-clause-scopes t c =
    block_end c.scopes_stay.ensures _ (scopes_of c.args.scopes.now) (role_of c.args.role) (nodes_of c.args.items.now) _ _ _
    c.in_ok-mark.ensures.mark c.in_ok-mark.ensures.scopes c.in_ok-type_each.ensures.scopes c.leave.ensures

pub statements::type_statement-returns-in-If-clause-gives : goal.statements::type_statement-returns-in-If-clause-gives
statements::type_statement-returns-in-If-clause-gives t c p =
    let e : statement_shape c.args.kind.now ≡ If (node_of c.in-If.condition.now) (node_of c.in-If.then.now) (option_node c.in-If.otherwise) = search rules in
    rw e c.type_if.ensures.gives

pub iterations::type_for_declaration-returns-clause-scopes : goal.iterations::type_for_declaration-returns-clause-scopes
iterations::type_for_declaration-returns-clause-scopes t c =
    for_end c.scopes_stay.ensures _ (scopes_of c.args.scopes.now) (node_of c.args.declaration.now) (option_node c.args.condition) (option_node c.args.step) (node_of c.args.body.now) _ _ _ _ _ _
    c.in_ok-mark.ensures.mark c.in_ok-mark.ensures.scopes c.in_ok-type_tree.ensures.scopes c.in_ok-type_maybe.ensures.scopes c.in_ok-type_maybe-2.ensures.scopes c.in_ok-type_tree-2.ensures.scopes c.leave.ensures

pub iterations::type_iteration-returns-in-For-clause-gives : goal.iterations::type_iteration-returns-in-For-clause-gives
iterations::type_iteration-returns-in-For-clause-gives t c p =
    let e : iteration_shape c.args.kind.now ≡ For (option_node c.in-For.first) (option_node c.in-For.condition) (option_node c.in-For.step) (node_of c.in-For.body.now) = search rules in
    rw e c.type_for.ensures.gives

pub iterations::type_iteration-returns-in-ForDeclaration-clause-gives : goal.iterations::type_iteration-returns-in-ForDeclaration-clause-gives
iterations::type_iteration-returns-in-ForDeclaration-clause-gives t c p =
    let e : iteration_shape c.args.kind.now ≡ ForDeclaration (node_of c.in-ForDeclaration.declaration.now) (option_node c.in-ForDeclaration.condition) (option_node c.in-ForDeclaration.step) (node_of c.in-ForDeclaration.body.now) = search rules in
    rw e c.type_for_declaration.ensures.gives

pub parts::type_params-returns-clause-scopes : goal.parts::type_params-returns-clause-scopes
parts::type_params-returns-clause-scopes t c =
    params_end c.scopes_stay.ensures _ (scopes_of c.args.scopes.now) (role_of c.args.role) (nodes_of c.args.params.now) _ _ _
    c.in_ok-mark.ensures.mark c.in_ok-mark.ensures.scopes c.in_ok-type_each.ensures.scopes c.in_ok-leave_params.ensures

pub operations::type_operation-returns-in-Call-clause-gives : goal.operations::type_operation-returns-in-Call-clause-gives
operations::type_operation-returns-in-Call-clause-gives t c = rw c.in-Call.is c.type_call.ensures.gives

pub operations::type_operation-returns-in-Binary-clause-gives : goal.operations::type_operation-returns-in-Binary-clause-gives
operations::type_operation-returns-in-Binary-clause-gives t c = rw c.in-Binary.is c.type_binary.ensures.gives

pub operations::type_operation-returns-in-Cond-clause-gives : goal.operations::type_operation-returns-in-Cond-clause-gives
operations::type_operation-returns-in-Cond-clause-gives t c = rw c.in-Cond.is c.type_cond.ensures.gives

pub operations::type_operation-returns-in-Assign-clause-gives : goal.operations::type_operation-returns-in-Assign-clause-gives
operations::type_operation-returns-in-Assign-clause-gives t c = rw c.in-Assign.is c.type_assign.ensures.gives

pub specifiers::type_specifier-returns-in-TypeName-clause-gives : goal.specifiers::type_specifier-returns-in-TypeName-clause-gives
specifiers::type_specifier-returns-in-TypeName-clause-gives t c p =
    let e : specifier_shape c.args.kind.now ≡ TypeName (node_of c.in-TypeName.specs.now) (option_node c.in-TypeName.declarator) = search rules in
    rw e c.type_type_name.ensures.gives

pub specifiers::type_specifier-returns-in-Param-clause-gives : goal.specifiers::type_specifier-returns-in-Param-clause-gives
specifiers::type_specifier-returns-in-Param-clause-gives t c p =
    let e : specifier_shape c.args.kind.now ≡ Param (node_of c.in-Param.specs.now) (option_node c.in-Param.declarator) = search rules in
    rw e c.type_param.ensures.gives

pub specifiers::type_specifier-returns-in-StructBody-clause-gives : goal.specifiers::type_specifier-returns-in-StructBody-clause-gives
specifiers::type_specifier-returns-in-StructBody-clause-gives t c p = rw c.in-StructBody.is c.type_body.ensures.gives

pub specifiers::type_specifier-returns-in-EnumBody-clause-gives : goal.specifiers::type_specifier-returns-in-EnumBody-clause-gives
specifiers::type_specifier-returns-in-EnumBody-clause-gives t c p = rw c.in-EnumBody.is c.type_enumeration.ensures.gives

pub specifiers::type_specifier-returns-in-StructDeclaration-clause-gives : goal.specifiers::type_specifier-returns-in-StructDeclaration-clause-gives
specifiers::type_specifier-returns-in-StructDeclaration-clause-gives t c p = rw c.in-StructDeclaration.is (c.type_members.ensures.gives p)
