-- WHAT RULES BIND that begin in some states, at an event, in a block and in a function: objects with the number of the function.
use Rattle.std.specs.Prelude.{◌≡◌, ◌<◌, ℕ, List, slice_get}
use Rattle.flow_graph.specs.CPaths.BlockGraphs.{events_at}
use Rattle.flow_graph.specs.CPaths.Building.{Graph}
use Rattle.flow_graph.specs.CPaths.Events.{Event}
use Rattle.flow_graph.specs.CPaths.Graphs.{Block}
use Rattle.flow_graph.specs.CPaths.Membership.{Among}
use Rattle.type_rules.specs.Functions.{Defined}
use Rattle.state_tuples.specs.AppliedRules.Bound.{BindsFrom}
use Rattle.state_tuples.specs.declared.applied_rules.sources.RuleSources.{RuleSources}
use Rattle.path_model.specs.CheckerModel.Happenings.{Function, Happening}
use Rattle.path_model.specs.CheckerModel.Reports.{Checker}
use Rattle.path_model.specs.CheckerPrograms.Texts.{function_of, happening}
use Rattle.typed_unit.specs.Texts.{Text}
use Rattle.metal_tree.specs.MetalMachines.Machine.{Machine}
use Rattle.flow_graph.specs.ReachedBlocks.Reached.{Happens}
use Rattle.relevant.specs.RelevantSteps.Steps.{Base}
use Rattle.path_model.specs.CheckerGraphs.Members.{Member}

module _ (w : RuleSources) (m : Machine) (depth n : ℕ) where
  -- at an event of this function, whose number is n
  abbrev pub BoundAt : Function → Happening → Member → Type 0
  BoundAt f h y = (n ≡ y.0) × BindsFrom w m depth f h y.1

  -- at an event of the block with a number
  abbrev pub BoundIn : List Text → Defined → List Block → ℕ → Member → Type 0
  BoundIn ts d bs b y = (e : Event) × Among e (events_at (slice_get bs b)) × BoundAt (function_of d) (happening ts (function_of d) e) y

  -- at an event of a block that control reaches
  abbrev pub BoundOf : List Text → Defined → Graph → Member → Type 0
  BoundOf ts d g y = (e : Event) × Happens g e × BoundAt (function_of d) (happening ts (function_of d) e) y

module _ (w : RuleSources) (c : Checker) (ts : List Text) (gs : List Graph) (n : ℕ) where
  -- in the function with number n
  abbrev pub BoundWith : Member → Type 0
  BoundWith y = (n ≡ y.0) × Base c ts gs w y

  -- in the functions before it
  abbrev pub BoundBefore : Member → Type 0
  BoundBefore y = (y.0 < n) × Base c ts gs w y
