-- WHAT THE NUMBERS ARE NUMBERS OF: the objects that are followed in a function, and the states of objects that rules name.
use Rattle.std.specs.Prelude.{◌≡◌, ℕ, Bool, List, map, Contains}
use Rattle.block_flows.specs.FollowedLists.{is_followed}
use Rattle.block_flows.specs.TupleFlows.Facts.{is_in}
use Rattle.c_objects.specs.Objects.{Object}
use Rattle.hole_matching.specs.Callouts.{is_local}
use Rattle.least_set.specs.Logs.{IsOnce}
use Rattle.metal_tree.specs.MetalMachines.Machine.{Rule}
use Rattle.numbered_paths.specs.Views.{Views}
use Rattle.numbered_program.specs.NumberedTuples.ObjectStates.{states_of_rules}
use Rattle.block_flows.specs.Masks.{model_under}
use Rattle.path_model.specs.CheckerModel.Choices.{State}
use Rattle.path_model.specs.CheckerModel.Happenings.{Function}
use Rattle.path_model.specs.CheckerModel.Reports.{Checker}
use Rattle.path_theory.specs.FlowGraphs.{FlowGraphs}
use Rattle.row_flows.specs.Numbers.{item_numbered}
use Rattle.typed_unit.specs.Texts.{Text}

-- THE LISTS: the objects that are followed in the function, and all states of objects that the rules name, each once
pub record AreListed (rules : List Rule) (ts : List Text) (lists : List (List Object)) (f : Function) (followed : List Object) (states : List State) : Type 0 where
  pub follows : (o : Object) → is_followed ts lists f o ≡ is_in followed o
  pub objects_once : IsOnce followed
  pub named : (x : State) → Contains (states_of_rules rules) x → Contains states x
  pub states_once : IsOnce states

-- which of the objects are the function's own, those of its local variables, in turn
abbrev pub own_of : List Object → List Bool
own_of followed = map (λ (o : Object). is_local o.base) followed

-- THE NUMBERS STAND for what has them in the lists, in the function with this number; a global state has its own number
pub record AreViewsOf (c : Checker) (ts : List Text) (lists : List (List Object)) (G : FlowGraphs (model_under c ts lists)) (V : Views (model_under c ts lists) G)
    (n : ℕ) (followed : List Object) (states : List State) : Type 0 where
  pub object : (i : ℕ) → V.object n i ≡ item_numbered followed i
  pub state : (i : ℕ) → V.state i ≡ item_numbered states i
  pub global : (g : ℕ) → V.global g ≡ g
