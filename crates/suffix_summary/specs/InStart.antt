-- WHAT RULES BIND IN `start`, under a checker of which no rule leads to a global state: then each path stays in it.
use Rattle.std.specs.Prelude.{◌≡◌, ◌≤◌, ◌⊎◌, ℕ, suc, Bool, true, false, not, ◌||◌, List, map, Some, slice_get, Contains}
use Rattle.std.specs.List.{list_all}
use Rattle.c_objects.specs.Objects.{Object, IsObject}
use Rattle.flow_graph.specs.CPaths.Building.{Graph}
use Rattle.flow_graph.specs.CPaths.Graphs.{Block}
use Rattle.known_objects.specs.Followed.{AreKnownLists}
use Rattle.known_objects.specs.FollowedSets.{AreFollowable}
use Rattle.least_set.specs.Logs.{SomeGives}
use Rattle.metal_tree.specs.MetalMachines.Machine.{Always, ByTruth, Dest, Machine, Rule}
use Rattle.path_model.specs.CheckerGraphs.Members.{Member}
use Rattle.path_model.specs.CheckerModel.Choices.{leads_to_global}
use Rattle.path_model.specs.CheckerModel.Happenings.{Function, Happening}
use Rattle.path_model.specs.CheckerModel.Reports.{Checker}
use Rattle.path_model.specs.CheckerPrograms.Texts.{functions_in, function_of, happening}
use Rattle.suffix_summary.specs.MetStates.{TakesAmong}
use Rattle.type_rules.specs.Functions.{Defined}
use Rattle.typed_unit.specs.Texts.{Text}

-- by one way or the other to a global state
abbrev pub leads_globally : Dest → Bool
leads_globally (Always t) = leads_to_global t
leads_globally (ByTruth on_true on_false) = leads_to_global on_true || leads_to_global on_false

abbrev pub stays : Rule → Bool
stays r = not (leads_globally r.dest)

-- NO RULE of the machine leads to a global state
abbrev pub stays_in_start : Machine → Bool
stays_in_start m = list_all stays m.rules

module _ (c : Checker) where
  -- the object takes a rule while it is unknown, at one of these events, in frames of either kind
  abbrev pub TakesInStart : Function → List Happening → Object → Type 0
  TakesInStart f hs o = TakesAmong c f false hs 0 o ⊎ TakesAmong c f true hs 0 o

  -- in the function with this number
  abbrev pub GivesInStart : Function → List Happening → ℕ → Member → Type 0
  GivesInStart f hs n y = (n ≡ y.0) × TakesInStart f hs y.1

  abbrev pub GivesInBlock : List Text → Defined → ℕ → Block → Member → Type 0
  GivesInBlock ts d n b = GivesInStart (function_of d) (map (happening ts (function_of d)) b.events) n

  -- in some block of it
  pub record GivesInFunction (ts : List Text) (gs : List Graph) (n : ℕ) (y : Member) : Type 0 where
    pub defined : Defined
    pub is : slice_get (functions_in ts) n ≡ Some defined
    pub graph : Graph
    pub has : slice_get gs n ≡ Some graph
    pub gives : SomeGives (GivesInBlock ts defined n) graph.blocks y

  -- in one of the first functions, so many
  abbrev pub GivesBelow : List Text → List Graph → ℕ → Member → Type 0
  GivesBelow ts gs count y = (n : ℕ) × (suc n ≤ count) × GivesInFunction ts gs n y

-- ENOUGH IS LISTED of what rules bind: whatever can be known of these objects is enough to follow
pub record AreEnoughBound (c : Checker) (ts : List Text) (gs : List Graph) (bound : List Member) : Type 0 where
  pub objects : (n : ℕ) (o : Object) → Contains bound (n, o) → IsObject c.depth o
  pub enough : (sets : List (List Object)) → AreKnownLists c ts bound sets → AreFollowable c ts gs sets
