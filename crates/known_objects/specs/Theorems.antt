-- The theorem about known objects as a statement, which contracts can name.
use Rattle.std.specs.Prelude.{◌↔◌, Bool, IsTrue, List}
use Rattle.c_objects.specs.Objects.{Object}
use Rattle.flow_graph.specs.CPaths.Building.{Graph}
use Rattle.known_objects.specs.Followed.{AreKnownLists, IsBoundHere, IsFollowed}
use Rattle.masked_paths.specs.Enough.{IsEnough}
use Rattle.masked_paths.specs.Met.{CoversMet}
use Rattle.path_model.specs.CheckerGraphs.Graphs.{AreGraphs, flow_graphs}
use Rattle.path_model.specs.CheckerModel.Checkers.{model, origins}
use Rattle.path_model.specs.CheckerModel.Happenings.{Function}
use Rattle.path_model.specs.CheckerModel.Reports.{Checker}
use Rattle.path_theory.specs.FlowGraphs.{supergraph}
use Rattle.path_model.specs.CheckerGraphs.Members.{Member}
use Rattle.typed_unit.specs.Texts.{Text}

-- IT IS ENOUGH TO FOLLOW the objects of the lists, by any test that says which these are, where at each event of a path over the flow graphs rules
-- bind only what is listed as bound
abbrev pub KnownListsAreEnough : Type 0
KnownListsAreEnough = (c : Checker) (ts : List Text) (bound : List Member) (lists : List (List Object)) → AreKnownLists c ts bound lists
    → (gs : List Graph) → AreGraphs ts gs → CoversMet (model c) (supergraph (model c) (flow_graphs c ts gs)) (IsBoundHere c ts bound)
    → (follows : Function → Object → Bool) → ((f : Function) (o : Object) → IsTrue (follows f o) ↔ IsFollowed ts lists f o)
    → IsEnough (model c) (supergraph (model c) (flow_graphs c ts gs)) (origins c) (λ f o. IsTrue (follows f o))
