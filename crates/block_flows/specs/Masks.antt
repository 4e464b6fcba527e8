-- THE CHECKER THAT FOLLOWS SOME OBJECTS ALONE, those of a list for each function, and a program under it in blocks.
use Rattle.std.specs.Prelude.{List}
use Rattle.c_objects.specs.Objects.{Object}
use Rattle.block_flows.specs.FollowedLists.{mask_in}
use Rattle.flow_graph.specs.CPaths.Building.{Graph}
use Rattle.masked_paths.specs.Enough.{IsEnough}
use Rattle.masked_paths.specs.Masked.{SiteIn, kept, masked, masked_origins, masked_graphs}
use Rattle.path_model.specs.CheckerGraphs.Graphs.{flow_graphs}
use Rattle.path_model.specs.CheckerModel.Checkers.{model, origins}
use Rattle.path_model.specs.CheckerModel.Happenings.{Function, Site}
use Rattle.path_model.specs.CheckerModel.Reports.{Checker}
use Rattle.path_theory.specs.Facts.{Objects}
use Rattle.path_theory.specs.FlowGraphs.{FlowGraphs, supergraph}
use Rattle.path_theory.specs.Model.{Model}
use Rattle.path_theory.specs.Origins.{Origins}
use Rattle.typed_unit.specs.Texts.{Text}

abbrev pub model_under : Checker → List Text → List (List Object) → Model
model_under c ts lists = masked (model c) (origins c) (mask_in c ts lists)

abbrev pub origins_under : (c : Checker) (ts : List Text) (lists : List (List Object)) → Origins (model_under c ts lists)
origins_under c ts lists = masked_origins (model c) (origins c) (mask_in c ts lists)

-- the objects that are followed
abbrev pub objects_under : (c : Checker) (ts : List Text) (lists : List (List Object)) → Objects (model c)
objects_under c ts lists = kept (model c) (mask_in c ts lists)

abbrev pub graphs_under : (c : Checker) (ts : List Text) (gs : List Graph) (lists : List (List Object)) → FlowGraphs (model_under c ts lists)
graphs_under c ts gs lists = masked_graphs (model c) (origins c) (mask_in c ts lists) (flow_graphs c ts gs)

-- the site of a call with its two functions
abbrev pub between : Function → Site → Function → SiteIn Function Site
between f s h = record { caller = f; site = s; callee = h }

-- it is enough to follow the objects of these lists
abbrev pub AreEnough : Checker → List Text → List Graph → List (List Object) → Type 0
AreEnough c ts gs lists = IsEnough (model c) (supergraph (model c) (flow_graphs c ts gs)) (origins c) (objects_under c ts lists)
