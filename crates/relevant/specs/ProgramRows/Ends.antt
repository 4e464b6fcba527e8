-- THE FOLLOWED CALLS at the ends of blocks, by the tables of functions.
use Rattle.std.specs.Prelude.{◌≡◌, ◌<◌, ℕ, List, Option, Some, slice_get}
use Rattle.std.specs.Borrow.{Bor}
use Rattle.std.specs.Option.{option_map}
use Rattle.c_tree.specs.Node.{Node}
use Rattle.c_tree.specs.Views.{node_of}
use Rattle.type_rules.specs.Functions.{Defined}
use Rattle.type_rules.specs.Options.{◌>?◌}
use Rattle.flow_graph.specs.Seen.{graph_in}
use Rattle.function_tables.specs.declared.table.FunctionTable.{FunctionTable}
use Rattle.path_model.specs.CheckerGraphs.Ends.{call_at}
use Rattle.call_graph.specs.OfPrograms.Definitions.{definitions, trees_in}
use Rattle.flow_graph.specs.ReachedBlocks.Reached.{Reaches}
use Rattle.refine_restore.specs.Sites.{formals_of}
use Rattle.relevant.specs.declared.relevant_objects.rows.FollowedCall.{FollowedCall}
use Rattle.typed_unit.specs.declared.typed_unit.TypedUnit.{TypedUnit}

-- the number of the function into which it is followed
abbrev pub callee_at : FunctionTable → ℕ → Option ℕ
callee_at t b = slice_get t.blocks.items b >? λ s. s.callee

-- a followed call: the numbers of the functions from which it comes and into which it leads, and the call itself
pub record Followed : Type 0 where
  pub caller : ℕ
  pub callee : ℕ
  pub call : Node

abbrev pub followed_in : FollowedCall → Followed
followed_in k = record { caller = k.caller; callee = k.callee; call = node_of k.site.call.now }

-- the one at the end of a block of the function with this number, which has this table
abbrev pub followed_at : FunctionTable → ℕ → ℕ → Option Followed
followed_at t caller b = callee_at t b >? λ m. option_map (λ n. record { caller = caller; callee = m; call = n }) (call_at (graph_in t.graph.now) b)

-- the function with this number has the followed call at the end of a block that control reaches
pub record HasFollowed (tables : List FunctionTable) (caller : ℕ) (f : Followed) : Type 0 where
  pub table : FunctionTable
  pub is : slice_get tables caller ≡ Some table
  pub block : ℕ
  pub reached : Reaches (graph_in table.graph.now) block
  pub ends : followed_at table caller block ≡ Some f

-- one of the first functions, so many, has it
abbrev pub SomeHasFollowed : List FunctionTable → ℕ → Followed → Type 0
SomeHasFollowed tables count f = (caller : ℕ) × (caller < count) × HasFollowed tables caller f

-- the unit in which the function with this number stands
abbrev pub IsUnitOf : List (Bor TypedUnit) → ℕ → Bor TypedUnit → Type 0
IsUnitOf units n u = (d : Defined) → slice_get (definitions (trees_in units)) n ≡ Some d → slice_get units d.file ≡ Some u

-- the call passes what the program says: it stands in the unit of its caller, and has the formals of its callee
pub record IsSite (units : List (Bor TypedUnit)) (k : FollowedCall) : Type 0 where
  pub unit : IsUnitOf units k.caller k.site.unit
  pub formals : (d : Defined) → slice_get (definitions (trees_in units)) k.callee ≡ Some d → formals_of k.site.formals.now ≡ d.formals
