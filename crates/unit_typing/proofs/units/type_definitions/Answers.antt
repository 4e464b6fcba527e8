use Rattle.std.proofs.Common.{◌≡◌, sym, map}
use Rattle.c_tree.proofs.Rows.{nodes_out}
use Rattle.c_tree.specs.declared.tree.Trees.{out-Trees}
use Rattle.c_tree.specs.Views.{nodes_in, nodes_of}
use Rattle.typed_unit.specs.Functions.{function_of}
use Rattle.typed_unit.specs.Tables.{table_of}
use Rattle.unit_typing.specs.Scopes.{scopes_of}
use Rattle.unit_typing.proofs.UnitSteps.{all-defined, begins, ends, fails-there, one-further, still-faulty}
use Rattle.unit_typing.proofs.units.type_definitions.Goals as goal

pub loop-tree-init : goal.loop-tree-init
loop-tree-init c = record {
  statics = c.requires.statics;
  left = begins (scopes_of c.args.scopes.now) (nodes_of c.args.chunks.now) (nodes_in (out-Trees c.args.chunks.now).all.now) (table_of c.args.table.now) (map function_of c.args.functions.now.items) (nodes_out c.args.chunks.now);
}

pub loop-tree-preserved : goal.loop-tree-preserved
loop-tree-preserved c = record {
  statics = c.in_ok-type_definition.ensures.statics;
  left = one-further _ _ _ _ _ (out-Trees c.args.chunks.now).all.now c.loop-tree.tree-index _ _ _ _ _ _ _ c.loop-tree-test.true c.loop-tree.invariant.left c.in_ok-type_definition.ensures.gives c.in_ok-type_definition.ensures.scopes c.in_ok-type_definition.ensures.table c.in_ok-type_definition.ensures.functions;
}

pub returns-in_err-type_definition-clause-gives : goal.returns-in_err-type_definition-clause-gives
returns-in_err-type_definition-clause-gives c =
    still-faulty c.from_residual.result _ _ _ c.from_residual.ensures.1 c.in_err-type_definition.ensures.gives
    (λ f k. fails-there (scopes_of c.args.scopes.now) (nodes_of c.args.chunks.now) _ _ _ (out-Trees c.args.chunks.now).all.now c.loop-tree.tree-index _ _ _ f c.loop-tree-test.true c.loop-tree.invariant.left k)

pub returns-clause-gives : goal.returns-clause-gives
returns-clause-gives c = sym (ends _ _ _ _ _ (out-Trees c.args.chunks.now).all.now c.loop-tree.tree-index _ _ c.loop-tree-test.false c.loop-tree.invariant.left).gives

pub returns-clause-scopes : goal.returns-clause-scopes
returns-clause-scopes c = (ends _ _ _ _ _ (out-Trees c.args.chunks.now).all.now c.loop-tree.tree-index _ _ c.loop-tree-test.false c.loop-tree.invariant.left).scopes

pub returns-clause-table : goal.returns-clause-table
returns-clause-table c = (ends _ _ _ _ _ (out-Trees c.args.chunks.now).all.now c.loop-tree.tree-index _ _ c.loop-tree-test.false c.loop-tree.invariant.left).cells

pub returns-clause-functions : goal.returns-clause-functions
returns-clause-functions c = all-defined _ _ _ _ _ _ _ (ends _ _ _ _ _ (out-Trees c.args.chunks.now).all.now c.loop-tree.tree-index _ _ c.loop-tree-test.false c.loop-tree.invariant.left)
