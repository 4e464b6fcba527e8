-- The moves and the followed calls of a program describe it: they have what the rules of the search ask of its traces. And what is found over
-- them are objects.
use Rattle.std.proofs.Common.{arith, ◌≡◌, ◌⊎◌, inl, inr, ℕ, ◌<◌, List, Contains, length, map, Bool, true, false, true≢false, Option, None, Some, slice_get, refl, ◌∙◌, sym, ap, subst}
use Rattle.std.specs.Prelude.{is_some}
use Rattle.std.proofs.lemmas.Option.{slice_get_within}
use Rattle.c_objects.proofs.Plain.{object-if}
use Rattle.c_objects.specs.Objects.{Object, IsObject}
use Rattle.c_tree.specs.Views.{node_of}
use Rattle.flow_graph.specs.CPaths.Building.{Graph}
use Rattle.flow_graph.specs.CPaths.Events.{Event}
use Rattle.flow_graph.specs.ReachedBlocks.Reached.{Happens}
use Rattle.flow_graph.specs.Values.{event_of}
use Rattle.flow_graph.specs.declared.event.Event as code
use Rattle.known_objects.specs.Followed.{IsBoundHere}
use Rattle.known_objects.specs.Linked.{MovesIn, EntersIn, HandsIn}
use Rattle.known_objects.specs.Listed.{call_in, AreNumbered, SomeIsMoveIn, SomeIsCallIn}
use Rattle.known_objects.specs.declared.changes.Move.{Move}
use Rattle.known_objects.specs.declared.changes.Numbered.{Numbered}
use Rattle.known_search.proofs.Closing.{all_found}
use Rattle.known_search.specs.KnownEnough.Described as described
use Rattle.known_search.specs.Steps.{IsFound}
use Rattle.known_search.specs.declared.members.Known.{Known}
use Rattle.least_set.specs.Logs.{IsExactly}
use Rattle.objects.specs.Units.{facts_in}
use Rattle.path_model.proofs.CheckerGraphs.Numbers.{one-number}
use Rattle.path_model.proofs.CheckerModel.MovedObjects.{move-is, actuals-are}
use Rattle.path_model.proofs.CheckerModel.Sources.{source-object, into-object, out-object}
use Rattle.path_model.specs.CheckerGraphs.Graphs.{AreGraphs, AreApartPlaces, function_at, graph_at}
use Rattle.path_model.specs.CheckerModel.Calls.{into, out}
use Rattle.path_model.specs.CheckerModel.Checkers.{model, origins, source_at}
use Rattle.path_model.specs.CheckerModel.Happenings.{Function, Happening, Site}
use Rattle.path_model.specs.CheckerModel.Moves as moving
use Rattle.path_model.specs.CheckerModel.Reports.{Checker}
use Rattle.path_model.specs.CheckerPrograms.Paths.{program}
use Rattle.path_model.specs.CheckerPrograms.Texts.{functions_in, objects_in}
use Rattle.path_theory.specs.Relevant.{EventOf, CallOf}
use Rattle.refine_restore.specs.Sites.{site_of}
use Rattle.relevant.proofs.ProgramRows.Lists.{map-contains}
use Rattle.relevant.proofs.RelevantRows.Linking.{into-same, out-same, row-of}
use Rattle.relevant.proofs.RelevantSteps.Traced.{own-graph, of-event, of-call}
use Rattle.relevant.specs.LinkedObjects.Linked.{AreLinkedOver}
use Rattle.relevant.specs.RelevantRows.Rows.{Passes, AreRows}
use Rattle.relevant.specs.RelevantSteps.Steps.{IsNumbered}
use Rattle.path_model.specs.CheckerGraphs.Members.{Member}
use Rattle.relevant.specs.declared.relevant_objects.rows.FollowedCall.{FollowedCall}
use Rattle.relevant.specs.declared.relevant_objects.rows.FunctionRow.{FunctionRow}
use Rattle.typed_unit.specs.Texts.{Text}

-- behind an event that writes over nothing an object has its own state
keeps-own : (depth : ℕ) (m : Option moving.Move) (o b : Object) → is_some m ≡ false → moving.source depth m o ≡ Some b → b ≡ o
keeps-own depth None o b n s = sym (object-if depth o b s).0
keeps-own depth (Some m) o b n s = absurd (true≢false n)

module _ (c : Checker) (ts : List Text) (gs : List Graph) (A : AreGraphs ts gs) (apart : AreApartPlaces (functions_in ts)) (rows : List FunctionRow) (R : AreRows c ts gs rows) (count : ℕ) (all : length (functions_in ts) ≡ count)
    (bound : List Member) (B : (n : ℕ) (o : Object) → Contains bound (n, o) → IsObject c.depth o)
    (moves : List Move) (Ms : IsExactly moves (SomeIsMoveIn c.depth rows count))
    (calls : List Numbered) (Cs : IsExactly (map call_in calls) (SomeIsCallIn rows count)) (N : AreNumbered calls) where
  abbrev pub Binds : ℕ → Object → Type 0
  Binds n o = Contains bound (n, o)

  -- a row is one of the first, so many
  within : (n : ℕ) (row : FunctionRow) → slice_get rows n ≡ Some row → n < count
  within n row at = let k = slice_get_within rows n row at in let e = R.count in omega (arith, k, e, all)

  -- ---- moves

  in-row : (n : ℕ) (o b : Object) (row : FunctionRow) → slice_get rows n ≡ Some row → (e : code.Event) → Contains row.events.items e → moving.source c.depth (moving.move_of (facts_in row.unit.now) c.depth (event_of e)) o ≡ Some b
      → (b ≡ o) ⊎ MovesIn c.depth moves n b o
  in-row n o b row at e among s = by (is_some (moving.move_of (facts_in row.unit.now) c.depth (event_of e))) refl
    where
      by : (t : Bool) → is_some (moving.move_of (facts_in row.unit.now) c.depth (event_of e)) ≡ t → (b ≡ o) ⊎ MovesIn c.depth moves n b o
      by false none = inl (keeps-own c.depth (moving.move_of (facts_in row.unit.now) c.depth (event_of e)) o b none s)
      by true some =
          let x : Move = record { function = n; event = e; unit = row.unit } in
          inr (x, Ms.1 x (n, within n row at, (row, at, (e, among, (some, refl)))), (refl, s))

  at-event : (n : ℕ) (o b : Object) (f : Function) (e : Event) → IsNumbered c ts gs n f (graph_at ts gs f) → Happens (graph_at ts gs f) e → moving.source c.depth (moving.move_of (objects_in ts f.place.file) c.depth e) o ≡ Some b
      → (b ≡ o) ⊎ MovesIn c.depth moves n b o
  at-event n o b f e is h s =
      let r = row-of c ts gs rows A R n f is.named in
      let row : FunctionRow = r.0 in
      let own = R.each n row r.1 in
      let k = map-contains event_of row.events.items e (own.events f (graph_at ts gs f) e is h) in
      in-row n o b row r.1 k.0 k.1
      (subst (λ u. moving.source c.depth (moving.move_of u c.depth (event_of k.0)) o ≡ Some b) (sym (own.unit f (graph_at ts gs f) is))
      (subst (λ z. moving.source c.depth (moving.move_of (objects_in ts f.place.file) c.depth z) o ≡ Some b) (sym k.2) s))

  moved-there : (f : Function) (h : Happening) (n : ℕ) (o b : Object) → EventOf (model c) (program c ts) f h → function_at ts n ≡ Some f → source_at c.depth h o ≡ Some b → (b ≡ o) ⊎ MovesIn c.depth moves n b o
  moved-there f h n o b w named s =
      let v = of-event c ts gs A apart f h w in
      at-event n o b f v.0 (own-graph c ts gs A apart n f named) v.1 (subst (λ z. source_at c.depth z o ≡ Some b) v.2 s)

  -- ---- calls

  linked : (q : FollowedCall) (s : Site) (o d : Object) → Passes c.depth q s → (into c.depth s d ≡ Some o) ⊎ (out c.depth s o ≡ Some d) → AreLinkedOver c.depth (site_of c.depth q.site) o d
  linked q s o d p (inl i) = inl (into-same c.depth q s d p ∙ i)
  linked q s o d p (inr i) = inr (out-same c.depth q s o p ∙ i)

  called-there : (f g : Function) (s : Site) → CallOf (model c) (program c ts) f s g → described.IsCall (model c) (program c ts) (origins c) (function_at ts) Binds (MovesIn c.depth moves) (EntersIn c.depth calls) (HandsIn c.depth calls) f g s
  called-there f g s w =
      let k = of-call c ts gs A apart f g s w in
      let r = row-of c ts gs rows A R k.caller f k.calls in
      let own = R.each k.caller r.0 r.1 in
      let has = own.calls k.callee s k.call in
      let x = map-contains call_in calls has.call (Cs.1 has.call (k.caller, within k.caller r.0 r.1, (r.0, r.1, (has.call, has.among, (has.caller, refl))))) in
      let y : Numbered = x.0 in
      let caller : y.call.caller ≡ k.caller = ap (λ (q : FollowedCall). q.caller) x.2 ∙ has.caller in
      let callee : y.call.callee ≡ k.callee = ap (λ (q : FollowedCall). q.callee) x.2 ∙ has.callee in
      let passes : Passes c.depth y.call s = subst (λ q. Passes c.depth q s) (sym x.2) has.passes in
      record {
        call = y.number;
        caller = k.caller;
        callee = k.callee;
        calls = k.calls;
        called = k.called;
        enters = λ o d i. (y, x.1, (caller, refl, callee, linked y.call s o d passes i));
        hands = λ o d i. (y, N y x.1, (callee, caller, out-same c.depth y.call s o passes ∙ i));
      }

  -- THE LINKS DESCRIBE THE PROGRAM
  pub describes : described.Describes (model c) (program c ts) (origins c) (function_at ts) Binds (MovesIn c.depth moves) (EntersIn c.depth calls) (HandsIn c.depth calls) (IsBoundHere c ts bound)
  describes = record {
    one = λ m n f d e. one-number ts apart m n f d e;
    binds = λ k g o x w d. w.binds o x d;
    fires = λ k g o r w d. w.fires o r d;
    moves = λ {f = f} {e = h} n o b w named s. moved-there f h n o b w named s;
    calls = λ {f = f} {h = g} {s = s} w. called-there f g s w;
  }

  -- ---- what is found are objects

  moved-object : (n : ℕ) (b o : Object) → MovesIn c.depth moves n b o → IsObject c.depth b → IsObject c.depth o
  moved-object n b o m p =
      let x : Move = m.0 in
      (source-object c.depth (moving.move_of (facts_in x.unit.now) c.depth (event_of x.event)) o b (move-is (facts_in x.unit.now) c.depth (event_of x.event)) m.2.1).0

  entered-object : (k n m : ℕ) (b d : Object) → EntersIn c.depth calls k n b m d → IsObject c.depth b → IsObject c.depth d
  entered-object k n m b d e p = by e.2.3
    where
      q : FollowedCall
      q = e.0.call

      by : AreLinkedOver c.depth (site_of c.depth q.site) b d → IsObject c.depth d
      by (inl i) = (into-object c.depth (site_of c.depth q.site) d b (actuals-are (facts_in q.site.unit.now) c.depth (node_of q.site.call.now)) i).0
      by (inr i) = (out-object c.depth (site_of c.depth q.site) b d (actuals-are (facts_in q.site.unit.now) c.depth (node_of q.site.call.now)) i).0 p

  handed-object : (k n m : ℕ) (d o : Object) → HandsIn c.depth calls k m d n o → IsObject c.depth d → IsObject c.depth o
  handed-object k n m d o e p =
      let q : FollowedCall = e.0.call in
      (out-object c.depth (site_of c.depth q.site) o d (actuals-are (facts_in q.site.unit.now) c.depth (node_of q.site.call.now)) e.2.2).1 p

  pub found-object : (y : Known Object) → IsFound Binds (MovesIn c.depth moves) (EntersIn c.depth calls) (HandsIn c.depth calls) y → IsObject c.depth y.object
  found-object y l = all_found Binds (MovesIn c.depth moves) (EntersIn c.depth calls) (HandsIn c.depth calls) (λ n o. IsObject c.depth o) B moved-object entered-object handed-object l
