-- What is no function of the program has an empty body, in which nothing is bound and nothing is called.
use Rattle.std.proofs.Common.{◌≡◌, ◌⊎◌, inl, inr, ℕ, zero, suc, List, [], ◌∷◌, Bool, true, false, Option, None, Some, slice_get, refl, ◌∙◌, sym, ap, subst, cond, ◌&&◌, replicate}
use Rattle.std.specs.Option.{option_map}
use Rattle.c_objects.specs.Objects.{Object}
use Rattle.flow_graph.specs.CPaths.BlockGraphs.{events_at}
use Rattle.flow_graph.specs.CPaths.Building.{Graph, graph_of}
use Rattle.flow_graph.specs.CPaths.Events.{Event, Exited}
use Rattle.flow_graph.specs.CPaths.Facts.{Facts}
use Rattle.flow_graph.specs.CPaths.Graphs.{Block, Ending, ToAny, Calls, Stops}
use Rattle.flow_graph.specs.CPaths.Membership.{Among}
use Rattle.c_tree.specs.Node.{Node}
use Rattle.c_tree.specs.declared.place.Place.{Place}
use Rattle.type_rules.specs.Functions.{Defined}
use Rattle.type_rules.specs.Options.{if_there, ◌>?◌}
use Rattle.path_model.specs.CheckerGraphs.Graphs.{number_of, function_at, graph_at}
use Rattle.path_model.proofs.CheckerGraphs.Numbers.{defines-is, found-at}
use Rattle.path_model.specs.CheckerModel.Choices.{applied}
use Rattle.path_model.specs.CheckerModel.Happenings.{Function}
use Rattle.path_model.proofs.CheckerModel.Sources.{tested}
use Rattle.path_model.specs.CheckerPrograms.Texts.{functions_in, function_of, defines, defined_as, empty, with_close, definition_of, flow_facts}
use Rattle.typed_unit.specs.Texts.{Text}
use Rattle.hole_matching.specs.Alternatives.{has_end_of_path, all_hold, object_taken, bound_object}
use Rattle.hole_matching.specs.Holes.{Setting}
use Rattle.hole_matching.specs.Matched.{nothing_taken}
use Rattle.hole_matching.specs.Matching.{Binding, slot}
use Rattle.metal_tree.specs.MetalMachines.Machine.{Item, Dest}
use Rattle.metal_tree.specs.MetalMachines.Limits.{most_holes}
use Rattle.flow_graph.specs.ReachedBlocks.Reached.{Happens, Called}

-- ---- the graph of an empty body

abbrev pub exit : Place → Event
exit p = Exited p p

-- nothing happens in it but the exit
abbrev pub alone : Place → Graph
alone p = record { blocks = record { events = []; ending = ToAny [] } ∷ record { events = exit p ∷ []; ending = Stops } ∷ []; entry = 1 }

empty-graph : (F : Facts) (p : Place) → graph_of F (empty p) ≡ alone p
empty-graph F p = refl

pub only-exit : (p : Place) (e : Event) → Happens (alone p) e → e ≡ exit p
only-exit p e h = by h.block h.among
  where
    by : (b : ℕ) → Among e (events_at (slice_get (alone p).blocks b)) → e ≡ exit p
    by zero m = absurd m
    by (suc zero) (inl k) = k
    by (suc zero) (inr m) = absurd m
    by (suc (suc b)) m = absurd m

-- how a block ends that is there
abbrev ending-at : Option Block → Ending
ending-at None = Stops
ending-at (Some s) = s.ending

no-call : (p : Place) (n : Node) → Called (alone p) n → ⊥
no-call p n k = by k.block k.has
  where
    by : (b : ℕ) → slice_get (alone p).blocks b ≡ Some (record { events = k.events; ending = Calls n k.next }) → ⊥
    by zero m = let e : ToAny [] ≡ Calls n k.next = ap ending-at m in cc
    by (suc zero) m = let e : Stops ≡ Calls n k.next = ap ending-at m in cc
    by (suc (suc b)) m = cc

-- ---- what is no function

unnumbered : (ds : List Defined) (f : Function) → number_of ds f ≡ None → defined_as ds f ≡ None
unnumbered [] f e = refl
unnumbered (d ∷ ds) f e = by (defines d f) (number_of ds f) refl refl e (unnumbered ds f)
  where
    by : (b : Bool) (o : Option ℕ) → defines d f ≡ b → number_of ds f ≡ o → cond b (Some 0) (option_map suc o) ≡ None → (number_of ds f ≡ None → defined_as ds f ≡ None) → cond (defines d f) (Some d) (defined_as ds f) ≡ None
    by true o s m k g = cc
    by false None s m k g = ap (λ b. cond b (Some d) (defined_as ds f)) s ∙ g m
    by false (Some i) s m k g = cc

module _ (ts : List Text) (gs : List Graph) where
  graph-alone : (f : Function) → number_of (functions_in ts) f ≡ None → graph_at ts gs f ≡ alone f.place
  graph-alone f e =
      ap (λ o. if_there (o >? slice_get gs) (graph_of (flow_facts ts f) (definition_of ts f)) (λ g. g)) e
      ∙ ap (λ o. graph_of (flow_facts ts f) (if_there o (empty f.place) (with_close ts))) (unnumbered (functions_in ts) f e)
      ∙ empty-graph (flow_facts ts f) f.place

  -- it has a number, or the graph of an empty body
  pub numbered : (f : Function) → ((n : ℕ) × (function_at ts n ≡ Some f)) ⊎ (graph_at ts gs f ≡ alone f.place)
  numbered f = by (number_of (functions_in ts) f) refl
    where
      by : (o : Option ℕ) → number_of (functions_in ts) f ≡ o → ((n : ℕ) × (function_at ts n ≡ Some f)) ⊎ (graph_at ts gs f ≡ alone f.place)
      by None e = inr (graph-alone f e)
      by (Some n) e =
          let x = found-at (functions_in ts) f n e in
          inl (n, ap (option_map function_of) x.numbered ∙ ap (λ (g : Function). Some g) (defines-is x.found f x.same))

  -- so a call stands in a function
  pub caller-numbered : (f : Function) (call : Node) → Called (graph_at ts gs f) call → (n : ℕ) × (function_at ts n ≡ Some f)
  caller-numbered f call k = by (numbered f)
    where
      by : ((n : ℕ) × (function_at ts n ≡ Some f)) ⊎ (graph_at ts gs f ≡ alone f.place) → (n : ℕ) × (function_at ts n ≡ Some f)
      by (inl x) = x
      by (inr e) = absurd (no-call f.place call (subst (λ g. Called g call) e k))

-- ---- nothing is bound at an exit

empty-slot : (n v : ℕ) → slot v (replicate n None) ≡ None
empty-slot zero v = refl
empty-slot (suc n) zero = refl
empty-slot (suc n) (suc v) = empty-slot n v

pub exit-binds : (g : Setting) (p q : Place) (d : Dest) (items : List Item) (b : Binding) (v : ℕ) (o : Object) → applied g (Exited p q) d items ≡ Some b → bound_object g v b ≡ Some o → ⊥
exit-binds g p q d items b v o a k =
    let t = (tested (has_end_of_path items && all_hold g items nothing_taken) (Some nothing_taken) b a).1 in
    let same : nothing_taken ≡ b = cc in
    let none : slot v b ≡ None = ap (slot v) (sym same) ∙ empty-slot most_holes v in
    let e : None ≡ Some o = ap (object_taken g) (sym none) ∙ k in
    cc
