-- Roots and the callees of followed calls have numbers.
use Rattle.std.proofs.Common.{◌≡◌, ℕ, List, Option, None, Some, refl, sym, ap, ◌∙◌, cond}
use Rattle.std.specs.Prelude.{slice_get}
use Rattle.std.specs.Option.{option_map}
use Rattle.flow_graph.specs.CPaths.Building.{Graph}
use Rattle.c_tree.specs.Node.{Node}
use Rattle.call_graph.specs.Followed.{machine_calls}
use Rattle.path_model.specs.CheckerGraphs.Graphs.{flow_graphs, function_at}
use Rattle.path_model.specs.CheckerModel.Checkers.{model}
use Rattle.path_model.specs.CheckerModel.Happenings.{Function, Site}
use Rattle.path_model.specs.CheckerModel.Reports.{Checker}
use Rattle.path_model.proofs.CheckerModel.Sources.{given, untested}
use Rattle.path_model.specs.CheckerPrograms.Roots.{followed_into}
use Rattle.path_model.specs.CheckerPrograms.Texts.{functions_in, function_of, callee_of, site, type_table}
use Rattle.typed_unit.specs.Texts.{Text}
use Rattle.metal_tree.specs.MetalMachines.Machine.{Machine}
use Rattle.call_graph.specs.OfPrograms.Calls.{body_called}
use Rattle.path_theory.specs.TabulationRules.LeastSets.{HasNumbers}

-- the function into which a call is followed is the one that it calls
pub followed-callee : (m : Machine) (s : Site) (h : Function) → followed_into m s ≡ Some h → s.callee ≡ Some h
followed-callee m s h e =
    let g = given s.callee (λ h. cond (machine_calls h.name m) None (Some h)) h e in
    g.1 ∙ (untested (machine_calls g.0.name m) (Some g.0) h g.2).1

mapped : {A B : Type 0} (f : A → B) (x : Option A) (b : B) → option_map f x ≡ Some b → (a : A) × (x ≡ Some a) × (f a ≡ b)
mapped f None b e = cc
mapped f (Some a) b e = (a, refl, cc)

-- which has a number
pub callee-number : (depth : ℕ) (ts : List Text) (f h : Function) (n : Node) → (site depth ts f n).callee ≡ Some h → (k : ℕ) × (function_at ts k ≡ Some h)
callee-number depth ts f h n e =
    let d = mapped function_of (callee_of ts f.place.file n) h e in
    let k = given (body_called (type_table ts f.place.file) f.place.file (functions_in ts) n) (slice_get (functions_in ts)) d.0 d.1 in
    (k.0, ap (option_map function_of) k.2 ∙ ap Some d.2)

pub have-numbers : (c : Checker) (ts : List Text) (gs : List Graph) → HasNumbers (model c) (flow_graphs c ts gs) (function_at ts)
have-numbers c ts gs = record {
  root = λ f r. (r.number, ap (option_map function_of) r.is ∙ ap Some (sym r.named));
  callee = λ f h m s b d named call.
      let same : s ≡ site c.depth ts f call.1 = call.3 in
      callee-number c.depth ts f h call.1 (sym (ap (λ z. z.callee) same) ∙ followed-callee c.machine s h call.4);
}
