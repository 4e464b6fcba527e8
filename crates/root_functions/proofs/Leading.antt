-- The functions to which the calls of a function lead.
use Rattle.std.proofs.Common.{◌≡◌, ◌↔◌, ℕ, List, Bool, true, false, cond, Option, None, Some, Result, Ok, Err, IfOk, is_some, Contains, slice_get, Bor, refl, sym, ap, ◌∙◌, subst}
use Rattle.std.proofs.Math.Logic.{∥∥₁_map}
use Rattle.std.proofs.lemmas.Option.{same_Some}
use Rattle.flow_graph.specs.CPaths.Events.{called}
use Rattle.flow_graph.specs.CPaths.Facts.{Facts}
use Rattle.flow_graph.specs.CPaths.Occurrences.{InFlow}
use Rattle.flow_graph.specs.CPaths.TreeFlow.{flow_of}
use Rattle.c_tree.specs.declared.place.Place.{Place}
use Rattle.c_tree.specs.Node.{Node}
use Rattle.type_rules.specs.Definition.{Table}
use Rattle.type_rules.specs.Functions.{Defined}
use Rattle.type_rules.specs.Options.{◌>?◌}
use Rattle.call_graph.specs.Followed.{machine_calls, body_followed, followed}
use Rattle.path_model.specs.CheckerPrograms.Roots.{Leads}
use Rattle.path_model.specs.CheckerPrograms.Texts.{functions_in, flow_facts, function_of, type_table}
use Rattle.typed_unit.specs.Texts.{texts_of}
use Rattle.call_graph.specs.FunctionGraphs.Known.{facts_in}
use Rattle.root_functions.specs.declared.graph_roots.callees.Callees.{Callees}
use Rattle.least_set.specs.Logs.{IsExactly}
use Rattle.metal_tree.specs.MetalMachines.Machine.{Machine}
use Rattle.call_graph.specs.OfPrograms.Bodies.{body_of}
use Rattle.call_graph.specs.OfPrograms.Calls.{called_name, body_called, table_in}
use Rattle.call_graph.specs.OfPrograms.Definitions.{definitions, trees_in}
use Rattle.root_functions.specs.Callees.{FollowedBy}
use Rattle.root_functions.proofs.Texts.{same_functions, same_table, same_facts}
use Rattle.typed_unit.specs.declared.typed_unit.TypedUnit.{TypedUnit}

-- a call that is followed calls a function with a body
body_if_followed : (m : Machine) (table : Table) (file : ℕ) (fs : List Defined) (call : Node) (g : ℕ) → followed m table file fs call ≡ Some g → is_some (body_called table file fs call) ≡ true
body_if_followed m table file fs call g h = by (called_name table call) h
  where
    at : (b : Bool) (o : Option ℕ) → cond b None o ≡ Some g → is_some o ≡ true
    at true o h = cc
    at false (Some x) h = refl
    at false None h = cc

    by : (o : Option ℕ) → (o >? body_followed m file fs) ≡ Some g → is_some (o >? λ name. body_of file name fs) ≡ true
    by None h = cc
    by (Some name) h = at (machine_calls name m) (body_of file name fs) h

-- what the calls in a body lead to
leads_exactly : (m : Machine) (units : List (Bor TypedUnit)) (f : ℕ) (d : Defined) (calls : List Node) (callees : List ℕ)
    → slice_get (definitions (trees_in units)) f ≡ Some d
    → ((p : Place) (n : Node) → (facts_in units d.file).has_body n ≡ true → Contains calls n ↔ InFlow (called n) (flow_of (facts_in units d.file) p d.body))
    → IsExactly callees (FollowedBy m units d.file calls) → IsExactly callees (Leads m (texts_of units) f)
leads_exactly m units f d calls callees at inside exact = (to, back)
  where
    facts : flow_facts (texts_of units) (function_of d) ≡ facts_in units d.file
    facts = same_facts units f d at

    same_follow : (call : Node) → followed m (type_table (texts_of units) d.file) d.file (functions_in (texts_of units)) call ≡ followed m (table_in units d.file) d.file (definitions (trees_in units)) call
    same_follow call = ap (λ table. followed m table d.file (functions_in (texts_of units)) call) (same_table units d.file) ∙ ap (λ fs. followed m (table_in units d.file) d.file fs call) (same_functions units)

    to : (g : ℕ) → Contains callees g → Leads m (texts_of units) f g
    to g c =
        let s = exact.0 g c in
        let known = body_if_followed m (table_in units d.file) d.file (definitions (trees_in units)) s.0 g s.2 in
        record {
          defined = d;
          is = ap (λ fs. slice_get fs f) (same_functions units) ∙ at;
          call = s.0;
          stands = subst (λ (F : Facts). InFlow (called s.0) (flow_of F d.place d.body)) (sym facts) ((inside d.place s.0 known).0 s.1);
          follows = same_follow s.0 ∙ s.2;
        }

    by : (g : ℕ) (e : Defined) → e ≡ d → (call : Node) → InFlow (called call) (flow_of (flow_facts (texts_of units) (function_of e)) e.place e.body) → followed m (type_table (texts_of units) e.file) e.file (functions_in (texts_of units)) call ≡ Some g → Contains callees g
    by g e q call stands follows =
        let stands_in = subst (λ (x : Defined). InFlow (called call) (flow_of (flow_facts (texts_of units) (function_of x)) x.place x.body)) q stands in
        let follows_in = sym (same_follow call) ∙ subst (λ (x : Defined). followed m (type_table (texts_of units) x.file) x.file (functions_in (texts_of units)) call ≡ Some g) q follows in
        let known = body_if_followed m (table_in units d.file) d.file (definitions (trees_in units)) call g follows_in in
        exact.1 g (call, (inside d.place call known).1 (subst (λ (F : Facts). InFlow (called call) (flow_of F d.place d.body)) facts stands_in), follows_in)

    back : (g : ℕ) → Leads m (texts_of units) f g → Contains callees g
    back g l = by g l.defined (same_Some _ _ (sym l.is ∙ ap (λ fs. slice_get fs f) (same_functions units) ∙ at)) l.call l.stands l.follows

-- the same of a result, and of a function of which the program says which definition it is
pub all_lead : {E : Type 0} (m : Machine) (units : List (Bor TypedUnit)) (f : ℕ) (d : Defined) (calls : List Node) (F : Facts) (r : Result Callees E)
    → ∥ slice_get (definitions (trees_in units)) f ≡ Some d ∥₁ → F ≡ facts_in units d.file
    → ((p : Place) (n : Node) → F.has_body n ≡ true → Contains calls n ↔ InFlow (called n) (flow_of F p d.body))
    → IfOk r (λ callees. IsExactly callees.numbers.items (FollowedBy m units d.file calls))
    → IfOk r (λ callees. ∥ IsExactly callees.numbers.items (Leads m (texts_of units) f) ∥₁)
all_lead m units f d calls F (Ok callees) known same inside exact =
    let inside_file = subst (λ (G : Facts). (p : Place) (n : Node) → G.has_body n ≡ true → Contains calls n ↔ InFlow (called n) (flow_of G p d.body)) same inside in
    ∥∥₁_map known (λ at. leads_exactly m units f d calls callees.numbers.items at inside_file exact)
all_lead m units f d calls F (Err x) known same inside exact = exact
