-- THE STEPS TO RELEVANT OBJECTS over flow graphs, by the numbers of functions: what rules bind there, and from where objects take their
-- states.
use Rattle.std.specs.Prelude.{◌≡◌, ◌⊎◌, ℕ, List, Some, slice_get}
use Rattle.c_objects.specs.Objects.{Object}
use Rattle.flow_graph.specs.CPaths.Building.{Graph}
use Rattle.flow_graph.specs.CPaths.Events.{Event}
use Rattle.c_tree.specs.Node.{Node}
use Rattle.call_graph.specs.Followed.{followed}
use Rattle.path_model.specs.CheckerGraphs.Graphs.{function_at}
use Rattle.path_model.specs.CheckerGraphs.Members.{Member}
use Rattle.path_model.specs.CheckerModel.Calls.{into, out}
use Rattle.path_model.specs.CheckerModel.Checkers.{source_at}
use Rattle.state_tuples.specs.AppliedRules.Bound.{BindsFrom}
use Rattle.state_tuples.specs.declared.applied_rules.sources.RuleSources.{RuleSources}
use Rattle.path_model.specs.CheckerModel.Happenings.{Function, Site}
use Rattle.path_model.specs.CheckerModel.Reports.{Checker}
use Rattle.path_model.specs.CheckerPrograms.Texts.{functions_in, happening, site, type_table}
use Rattle.typed_unit.specs.Texts.{Text}
use Rattle.flow_graph.specs.ReachedBlocks.Reached.{Happens, Called}

module _ (c : Checker) (ts : List Text) (gs : List Graph) where
  -- the function with this number, and its graph
  pub record IsNumbered (n : ℕ) (f : Function) (g : Graph) : Type 0 where
    pub named : function_at ts n ≡ Some f
    pub graph : slice_get gs n ≡ Some g

  -- a rule that begins there binds the object at an event of the function, in a block that control reaches
  pub record IsBound (w : RuleSources) (n : ℕ) (o : Object) : Type 0 where
    pub function : Function
    pub graph : Graph
    pub is : IsNumbered n function graph
    pub event : Event
    pub happens : Happens graph event
    pub binds : BindsFrom w c.machine c.depth function (happening ts function event) o

  -- the object takes its state from the other at such an event
  pub record Moves (n : ℕ) (o b : Object) : Type 0 where
    pub function : Function
    pub graph : Graph
    pub is : IsNumbered n function graph
    pub event : Event
    pub happens : Happens graph event
    pub source : source_at c.depth (happening ts function event) o ≡ Some b

  -- a call at the end of such a block, which is followed into the function with the other number
  pub record IsCall (n m : ℕ) (s : Site) : Type 0 where
    pub function : Function
    pub graph : Graph
    pub is : IsNumbered n function graph
    pub call : Node
    pub called : Called graph call
    pub same : s ≡ site c.depth ts function call
    pub follows : followed c.machine (type_table ts function.place.file) function.place.file (functions_in ts) call ≡ Some m
    pub callee : Function
    pub named : function_at ts m ≡ Some callee

  -- THE FIRST TAKES ITS STATE FROM THE SECOND: at an event, as a callee begins, or behind a call
  pub data Takes : ℕ → Object → ℕ → Object → Type 0 where
    AtEvent : {n : ℕ} {o b : Object} → Moves n o b → Takes n o n b
    AtEntry : {n m : ℕ} {o b : Object} (s : Site) → IsCall n m s → into c.depth s o ≡ Some b → Takes m o n b
    AtReturn : {n m : ℕ} {o b : Object} (s : Site) → IsCall n m s → out c.depth s o ≡ Some b → Takes n o m b

  -- what is there from the beginning, and what follows from a member
  abbrev pub Base : RuleSources → Member → Type 0
  Base w x = IsBound w x.0 x.1

  abbrev pub Goes : Member → Member → Type 0
  Goes x y = Takes x.0 x.1 y.0 y.1 ⊎ Takes y.0 y.1 x.0 x.1
