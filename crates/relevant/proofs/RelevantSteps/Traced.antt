-- What the traces of the program's functions meet, in words of their graphs: an event of a block that control reaches, or a followed call at
-- its end.
use Rattle.std.proofs.Common.{arith, ◌≡◌, ℕ, zero, suc, List, [], ◌∷◌, Option, None, Some, length, slice_get, refl, ◌∙◌, sym, ap, subst}
use Rattle.std.specs.Option.{option_map}
use Rattle.flow_graph.specs.CPaths.Building.{Graph}
use Rattle.flow_graph.specs.CPaths.Events.{Event}
use Rattle.type_rules.specs.Functions.{Defined}
use Rattle.type_rules.specs.Options.{◌>?◌}
use Rattle.call_graph.specs.Followed.{followed}
use Rattle.path_model.specs.CheckerGraphs.Graphs.{AreGraphs, AreApartPlaces, function_at, graph_at}
use Rattle.path_model.proofs.CheckerGraphs.Calls.{followed-number}
use Rattle.path_model.proofs.CheckerGraphs.GraphTraces.{in_blocks, graphs_have_traces}
use Rattle.path_model.proofs.CheckerGraphs.Numbers.{graph-at}
use Rattle.path_model.proofs.CheckerGraphs.SameTraces.{event_on, call_on}
use Rattle.path_model.specs.CheckerModel.Checkers.{model}
use Rattle.path_model.specs.CheckerModel.Happenings.{Function, Happening, Site}
use Rattle.path_model.specs.CheckerModel.Reports.{Checker}
use Rattle.path_model.specs.CheckerPrograms.Paths.{program}
use Rattle.path_model.specs.CheckerPrograms.Roots.{followed_into, IsRootFunction}
use Rattle.path_model.specs.CheckerPrograms.Texts.{functions_in, function_of, happening, site, type_table}
use Rattle.typed_unit.specs.Texts.{Text}
use Rattle.path_theory.specs.Relevant.{EventOf, CallOf}
use Rattle.flow_graph.specs.ReachedBlocks.Reached.{Happens, Called}
use Rattle.flow_graph.proofs.ReachedBlocks.ReachedWalks.{event-reached, event-met, call-reached, call-met}
use Rattle.relevant.specs.RelevantSteps.Steps.{IsNumbered, IsCall}
use Rattle.relevant.proofs.RelevantSteps.Empty.{caller-numbered}

pub one-some : {A : Type 0} (x y : A) → Some x ≡ Some y → x ≡ y
one-some x y e = cc

-- of lists of one length both have a value at a number, or none
there : {A B : Type 0} (xs : List A) (ys : List B) (n : ℕ) (x : A) → length ys ≡ length xs → slice_get xs n ≡ Some x → (y : B) × (slice_get ys n ≡ Some y)
there [] ys n x l e = cc
there (z ∷ xs) [] n x l e = cc
there (z ∷ xs) (y ∷ ys) zero x l e = (y, refl)
there (z ∷ xs) (y ∷ ys) (suc n) x l e = there xs ys n x (grind arith) e

-- the definition behind a function
of-number : (o : Option Defined) (f : Function) → option_map function_of o ≡ Some f → (d : Defined) × (o ≡ Some d) × (f ≡ function_of d)
of-number None f e = cc
of-number (Some d) f e = let s : function_of d ≡ f = cc in (d, refl, sym s)

-- the number to which a call is followed, by the function
pub by-number : {D F : Type 0} (f : D → F) (at : ℕ → Option D) (o : Option ℕ) (x : F) → option_map f (o >? at) ≡ Some x → (m : ℕ) × (o ≡ Some m) × (option_map f (at m) ≡ Some x)
by-number f at None x e = cc
by-number f at (Some m) x e = (m, refl, e)

module _ (c : Checker) (ts : List Text) (gs : List Graph) (A : AreGraphs ts gs) (apart : AreApartPlaces (functions_in ts)) where
  abbrev into : Function → Site → Option Function
  into f s = followed_into c.machine s

  -- the graph of a function with a number
  pub own-graph : (n : ℕ) (f : Function) → function_at ts n ≡ Some f → IsNumbered c ts gs n f (graph_at ts gs f)
  own-graph n f e =
      let x = of-number (slice_get (functions_in ts) n) f e in
      let g = there (functions_in ts) gs n x.0 A.count x.1 in
      let same : graph_at ts gs f ≡ g.0 = ap (graph_at ts gs) x.2 ∙ graph-at ts apart gs n x.0 g.0 x.1 g.1 in
      record { named = e; graph = g.1 ∙ ap Some (sym same) }

  pub graph-is : (n : ℕ) (f : Function) (g : Graph) → IsNumbered c ts gs n f g → g ≡ graph_at ts gs f
  graph-is n f g is =
      let x = of-number (slice_get (functions_in ts) n) f is.named in
      sym (ap (graph_at ts gs) x.2 ∙ graph-at ts apart gs n x.0 g x.1 is.graph)

  -- ---- events

  pub event-of : (n : ℕ) (f : Function) (g : Graph) (e : Event) → IsNumbered c ts gs n f g → Happens g e → EventOf (model c) (program c ts) f (happening ts f e)
  event-of n f g e is h =
      let met = event-met (model c) (happening ts) (site c.depth ts) (graph_at ts gs) (IsRootFunction c.machine ts) into f e (subst (λ x. Happens x e) (graph-is n f g is) h) in
      event_on (model c) (in_blocks ts gs A c) (program c ts) (graphs_have_traces ts gs A c).1 met

  pub of-event : (f : Function) (h : Happening) → EventOf (model c) (program c ts) f h → (e : Event) × Happens (graph_at ts gs f) e × (h ≡ happening ts f e)
  of-event f h w =
      event-reached (model c) (happening ts) (site c.depth ts) (graph_at ts gs) (IsRootFunction c.machine ts) into f h
      (event_on (model c) (program c ts) (in_blocks ts gs A c) (graphs_have_traces ts gs A c).0 w)

  -- ---- calls

  pub call-of : (n m : ℕ) (s : Site) (k : IsCall c ts gs n m s) → CallOf (model c) (program c ts) k.function s k.callee
  call-of n m s k =
      let f = k.function in
      let follows : followed_into c.machine (site c.depth ts f k.call) ≡ Some k.callee =
      followed-number c.machine c.depth ts f k.call ∙ ap (λ o. option_map function_of (o >? slice_get (functions_in ts))) k.follows ∙ k.named in
      let met = call-met (model c) (happening ts) (site c.depth ts) (graph_at ts gs) (IsRootFunction c.machine ts) into f k.call k.callee
      (subst (λ x. Called x k.call) (graph-is n f k.graph k.is) k.called) follows in
      subst (λ z. CallOf (model c) (program c ts) f z k.callee) (sym k.same)
      (call_on (model c) (in_blocks ts gs A c) (program c ts) (graphs_have_traces ts gs A c).1 met)

  -- a call between two functions, by their numbers
  pub record IsCallOf (f g : Function) (s : Site) : Type 0 where
    pub caller : ℕ
    pub callee : ℕ
    pub call : IsCall c ts gs caller callee s
    pub calls : function_at ts caller ≡ Some f
    pub called : function_at ts callee ≡ Some g

  pub of-call : (f g : Function) (s : Site) → CallOf (model c) (program c ts) f s g → IsCallOf f g s
  of-call f g s w =
      let r = call-reached (model c) (happening ts) (site c.depth ts) (graph_at ts gs) (IsRootFunction c.machine ts) into f s g
      (call_on (model c) (program c ts) (in_blocks ts gs A c) (graphs_have_traces ts gs A c).0 w) in
      let n = caller-numbered ts gs f r.0 r.1 in
      let follows : followed_into c.machine (site c.depth ts f r.0) ≡ Some g = ap (followed_into c.machine) (sym r.2) ∙ r.3 in
      let m = by-number function_of (slice_get (functions_in ts)) (followed c.machine (type_table ts f.place.file) f.place.file (functions_in ts) r.0) g (sym (followed-number c.machine c.depth ts f r.0) ∙ follows) in
      record {
        caller = n.0;
        callee = m.0;
        call = record { function = f; graph = graph_at ts gs f; is = own-graph n.0 f n.1; call = r.0; called = r.1; same = r.2; follows = m.1; callee = g; named = m.2 };
        calls = n.1;
        called = m.2;
      }
