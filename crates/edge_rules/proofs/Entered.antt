-- The edges with which a callee is entered, as lists.
use Rattle.std.proofs.Common.{◌≡◌, ℕ, false, List, map, Contains, sym, ap, subst, ◌∙◌}
use Rattle.c_objects.specs.Objects.{Object}
use Rattle.path_model.specs.CheckerModel.Happenings.{Function, Site}
use Rattle.path_model.specs.CheckerModel.Reports.{Checker}
use Rattle.edge_rules.specs.Entries.{IsEntry}
use Rattle.path_edges.proofs.EdgeSteps.Lists.{contains-map, map-contains}
use Rattle.path_edges.specs.EdgeSteps.Steps.{frame_edge}
use Rattle.least_set.specs.Logs.{IsExactly}
use Rattle.path_edges.specs.declared.edges.Edge.{Edge}
use Rattle.state_tuples.specs.declared.tuple.Tuple.{Tuple}
use Rattle.block_flows.specs.TupleFlows.Passed.{IsEntered}

-- one edge for each tuple with which it is entered
pub entries-exactly : (c : Checker) (s : Site) (h : Function) (here there : List Object) (k b : ℕ) (t : Tuple) (entries : List Tuple) (list : List Edge)
    → IsExactly entries (IsEntered c s h here there t) → list ≡ map (frame_edge false k b) entries → IsExactly list (IsEntry c s h here there k b t)
entries-exactly c s h here there k b t entries list exact e =
    subst (λ (l : List Edge). IsExactly l (IsEntry c s h here there k b t)) (sym e) (
      λ d m. let x = map-contains (frame_edge false k b) entries d m in record { entry = x.0; entered = exact.0 x.0 x.1; is = x.2 },
      λ d q. subst (λ (z : Edge). Contains (map (frame_edge false k b) entries) z) q.is (contains-map (frame_edge false k b) entries q.entry (exact.1 q.entry q.entered)),
    )

-- the same numbers and entries
pub of-entries : (k b first : ℕ) (entries seen : List Tuple) (list : List Edge) → b ≡ first → seen ≡ entries → list ≡ map (frame_edge false k b) seen → list ≡ map (frame_edge false k first) entries
of-entries k b first entries seen list e s is = is ∙ ap (λ (n : ℕ). map (frame_edge false k n) seen) e ∙ ap (map (frame_edge false k first)) s
