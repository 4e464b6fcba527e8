-- THE PATHS OF A PROGRAM UNDER A CHECKER: those of the theory, over the steps of its functions' bodies.
use Rattle.std.specs.Prelude.{List}
use Rattle.flow_graph.specs.CPaths.Bodies.{step_bodies}
use Rattle.path_model.specs.CheckerModel.Checkers.{model}
use Rattle.path_model.specs.CheckerModel.Reports.{Checker}
use Rattle.path_model.specs.CheckerPrograms.Roots.{followed_into, IsRootFunction}
use Rattle.path_model.specs.CheckerPrograms.Texts.{definition_of, flow_facts, happening, site}
use Rattle.typed_unit.specs.Texts.{Text}
use Rattle.path_theory.specs.Marks.{Bodies, under}
use Rattle.path_theory.specs.Supergraph.{Supergraph}

abbrev pub bodies : (c : Checker) → List Text → Bodies (model c)
bodies c ts = step_bodies (model c) (flow_facts ts) (definition_of ts) (happening ts) (site c.depth ts)

-- a path goes on in the callee where the call is followed; the end of a root's own frame ends it
abbrev pub program : (c : Checker) → List Text → Supergraph (model c)
program c ts = under (model c) (IsRootFunction c.machine ts) (λ f s. followed_into c.machine s) (bodies c ts)
