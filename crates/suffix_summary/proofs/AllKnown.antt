-- What the tables, the followed objects and the roots are known to be is what an engine has to know of them.
use Rattle.std.proofs.Common.{◌≡◌, ℕ, List, length, map, slice_get, Some, sym, subst}
use Rattle.std.proofs.Math.Logic.{∥∥₁_map₂}
use Rattle.block_flows.specs.TupleFlows.Moved.{AreObjects}
use Rattle.c_objects.specs.Objects.{Object}
use Rattle.function_tables.specs.EngineTables.Known.{AreKnown, texts_in, objects_in}
use Rattle.function_tables.specs.declared.engine_tables.tables.Tables.{Tables}
use Rattle.function_tables.specs.Tables.{AreTables}
use Rattle.function_tables.specs.declared.table.FunctionTable.{FunctionTable}
use Rattle.metal_tree.specs.Whole.{machine_view}
use Rattle.call_graph.specs.declared.programs.functions.FnId.{FnId}
use Rattle.path_model.specs.CheckerPrograms.Texts.{functions_in}
use Rattle.root_functions.specs.Roots.{AreRoots}

module _ (t : Tables) where
  abbrev Tabled : List FunctionTable → Type 0
  Tabled functions = AreTables (machine_view t.machine.now) t.depth (texts_in t) functions

  abbrev Rooted : List FnId → Type 0
  Rooted roots = AreRoots (machine_view t.machine.now) (texts_in t) (map (λ (f : FnId). f.number) roots)

  -- the tables and the roots are lent
  pub all-known : (functions : List FunctionTable) (roots : List FnId) → t.functions.now ≡ functions → t.roots.now ≡ roots → ∥ Tabled functions ∥₁ → ∥ Rooted roots ∥₁
      → length (objects_in t) ≡ length (functions_in (texts_in t)) → ((n : ℕ) (os : List Object) → slice_get (objects_in t) n ≡ Some os → AreObjects t.depth os) → ∥ AreKnown t ∥₁
  all-known functions roots fs rs tables found count plain =
      ∥∥₁_map₂ tables found (λ a b.
      let r = subst Rooted (sym rs) b in record {
        tables = subst Tabled (sym fs) a;
        count = count;
        plain = plain;
        roots = λ n. (λ h. ((r.exact n (r.within n h)).0 h, r.within n h), λ h. (r.exact n h.1).1 h.0);
      })
