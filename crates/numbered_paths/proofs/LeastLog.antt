-- THE EDGES OF THE LOG ARE THE ENTRIES of the theory of paths: where the log has what follows by the rules of tabulation, and nothing else, the entries for which
-- its edges stand are the least set that the theory asks of an engine.
use Rattle.std.proofs.Common.{◌≡◌, ◌∙◌, refl, sym, ap, subst, subst₂, eq-eqb, ℕ, nat_eq, cond, List, [], ◌∷◌, map, Option, None, Some, Contains}
use Rattle.std.specs.Prelude.{option_and_then}
use Rattle.std.proofs.lemmas.List.Elements.{Contains-append_left, Contains-append_right}
use Rattle.least_set.specs.TwoPremises.{FollowsBase, FollowsOne, FollowsTwo}
use Rattle.numbered_engine.specs.Following.{at, context, first, led_from, passed}
use Rattle.numbered_engine.specs.Program.{block_at, block_of, call_at, ends_in}
use Rattle.numbered_engine.specs.Rules.{FollowsFrom, IsDerived, IsEndOf, IsWoken, WaitsAt}
use Rattle.numbered_engine.specs.Waiting.{ended_in, on, restored, tuples_behind, waiter, waiting_at, waits_for, waits_with, woken_at}
use Rattle.numbered_engine.specs.declared.edges.NumberedEdge.{NumberedEdge}
use Rattle.numbered_engine.specs.declared.program.Block.{Block}
use Rattle.numbered_engine.specs.declared.program.Call.{Call}
use Rattle.numbered_engine.specs.declared.program.Ending.TheVariants as ending
use Rattle.numbered_engine.specs.declared.program.FunctionRows.{FunctionRows}
use Rattle.numbered_engine.specs.declared.program.ProgramRows.{ProgramRows}
use Rattle.numbered_engine.proofs.AtEnds.{IsBlock, call_there, to_led, to_waiting}
use Rattle.numbered_paths.proofs.BlockTables.{end_of, tables_of}
use Rattle.numbered_paths.proofs.DerivedEdges.{Stands, derived_stands}
use Rattle.numbered_paths.proofs.Lists.{owned, present}
use Rattle.numbered_paths.proofs.SameNumbers.{bare_fact, bare_number, object_of, same_tuple}
use Rattle.numbered_paths.specs.Calls.{IsCall}
use Rattle.numbered_paths.specs.Tables.{AreTables, IsFunction, StandsIn, entry_of}
use Rattle.numbered_paths.specs.Views.{AreNumbers, IsBare, IsNumbered, Views, fact_at}
use Rattle.path_theory.proofs.SmallFacts.{some_some}
use Rattle.path_theory.specs.Entries.{Base, BaseRoot, EndsIn, Entry, IsLeastLog, Least, Step, StepCall, StepNext, StepReturn, StepSaved, entry_at}
use Rattle.path_theory.specs.Facts.{Fact, HasObject, NoObject, Objects}
use Rattle.path_theory.specs.Flows.{CallFlow, ReturnFlow}
use Rattle.path_theory.specs.FlowGraphs.{FlowGraphs}
use Rattle.path_theory.specs.Merged.{Kinds}
use Rattle.path_theory.specs.Model.{Model}
use Rattle.path_theory.specs.Origins.{Origins}
use Rattle.row_flows.specs.Choices.{bare}
use Rattle.row_flows.specs.declared.behind.Firing.{Firing}
use Rattle.row_flows.specs.declared.tuples.NumberedTuple.{NumberedTuple}
use Rattle.row_flows.proofs.Lists.{the_first, to_map, to_present}

module _ (M : Model) (L : Origins M) (A : Objects M) (G : FlowGraphs M) (C : Kinds M G) (V : Views M G) (N : AreNumbers M A G V) (report : ℕ → ℕ → Firing → M.Report → Type 0) (p : ProgramRows)
    (T : AreTables M L A G C V report p) (log : List NumberedEdge) (closed : (e : NumberedEdge) → FollowsFrom p log e → Contains log e) (only : (e : NumberedEdge) → Contains log e → IsDerived p e) where
  abbrev Among : Entry M G → Type 0
  Among = StandsIn M L A G C V log

  abbrev EntryOf : M.Fn → NumberedEdge → Entry M G
  EntryOf = entry_of M L A G C V

  has_base : (c : Entry M G) → Base M L A G C c → Among c
  has_base c (BaseRoot {f = f} {t = t} root starts) =
      let w = T.begun f t root starts in
      let b = T.begins w.0 w.1 in
      let block : V.block w.0.context.function w.0.block ≡ G.first f = ap (V.block w.0.context.function) b.3 ∙ (tables_of M L A G C V report p T w.0.context.function f w.2).stand.first in
      let entry : V.global w.0.context.entry.global ≡ M.start = ap (λ (y : NumberedTuple). V.global y.global) (sym b.4) ∙ b.5 in
      let fact = ap (fact_at M A G V w.0.context.function) (sym b.4) ∙ w.3 in
      record {
        edge = w.0;
        among = closed w.0 (FollowsBase w.1);
        fn = f;
        named = w.2;
        is = λ i. record { fn = f; global₀ = entry i; fact₀ = fact i; block = block i; global = b.5 i; fact = w.3 i };
      }

  -- an edge of the log, with its function
  record IsOf (a : NumberedEdge) (f : M.Fn) : Type 0 where
    among : Contains log a
    named : V.function a.context.function ≡ Some f

  module _ (a : NumberedEdge) (f : M.Fn) (of : IsOf a f) where
    stands : Stands M L A G C V N report p T a
    stands = derived_stands M L A G C V N report p T (only a of.among)

    -- its tables, with the tuple that stands for this end
    record AtEnd (i : M.Global) (u : Fact M) : Type 0 where
      rows : FunctionRows
      block : Block
      there : IsBlock p a rows block
      stand : IsFunction M L A G C V (report a.context.function) a.context.function f rows
      tuple : NumberedTuple
      ends : Contains (ends_in rows block a.context.entry a.tuple) tuple
      numbered : IsNumbered M A G V a.context.function tuple
      global : V.global tuple.global ≡ i
      fact : fact_at M A G V a.context.function tuple ≡ u

    at_end : (i : M.Global) (u : Fact M) → EndsIn M L A G C (EntryOf f a) i u
        → ((r : FunctionRows) → IsFunction M L A G C V (report a.context.function) a.context.function f r → block_of r a.block ≡ None → ⊥) → AtEnd i u
    at_end i u ends has =
        let t = tables_of M L A G C V report p T a.context.function f of.named in
        let b = present (block_of t.rows a.block) (has t.rows t.stand) in
        let w = end_of M L A G C V report p T a f t.rows b.0 t.stand b.1 stands.entered stands.numbered i u ends in
        record { rows = t.rows; block = b.0; there = record { function = t.there; block = b.1 }; stand = t.stand; tuple = w.0; ends = w.1; numbered = w.2; global = w.3; fact = w.4 }

    has_next : (i : M.Global) (u : Fact M) (c : G.Block) → EndsIn M L A G C (EntryOf f a) i u → G.Next f (V.block a.context.function a.block) c → Among (entry_at M G (EntryOf f a) c i u)
    has_next i u c ends next =
        let t = at_end i u ends (λ r stand none. stand.no_next a.block c none next) in
        let d = N.blocks a.context.function c in
        let k = (t.stand.endings a.block t.block t.there.block).next d.0 (subst (λ y. G.Next f (V.block a.context.function a.block) y) (sym d.1) next) in
        let edge = at a.context t.tuple d.0 in
        let leads = subst (λ e. Contains (led_from a.context e t.tuple) edge) (sym k.1) (to_map (at a.context t.tuple) k.0.items d.0 k.2) in
        record {
          edge = edge;
          among = closed edge (FollowsOne a of.among (to_led p a t.rows t.block t.there t.tuple t.ends edge leads));
          fn = f;
          named = of.named;
          is = λ j. record { fn = f; global₀ = V.global a.context.entry.global; fact₀ = fact_at M A G V a.context.function a.context.entry; block = d.1 j; global = t.global j; fact = t.fact j };
        }

    -- the call in which its block ends
    record AtCall (i : M.Global) (u : Fact M) (s : M.Site) (h : M.Fn) (c : G.Block) : Type 0 where
      end : AtEnd i u
      call : Call
      is : end.block.ending ≡ ending.Calls call
      behind : V.block a.context.function call.behind ≡ c
      named : V.function call.callee ≡ Some h
      tables : IsCall M L A G V a.context.function call.callee f h s call

    at_call : (i : M.Global) (u : Fact M) (s : M.Site) (h : M.Fn) (c : G.Block) → EndsIn M L A G C (EntryOf f a) i u → G.Call f (V.block a.context.function a.block) s h c → AtCall i u s h c
    at_call i u s h c ends call =
        let t = at_end i u ends (λ r stand none. stand.no_call a.block s h c none call) in
        let d = N.blocks a.context.function c in
        let k = (t.stand.endings a.block t.block t.there.block).call s h d.0 (subst (λ y. G.Call f (V.block a.context.function a.block) s h y) (sym d.1) call) in
        record { end = t; call = k.0; is = k.1; behind = ap (V.block a.context.function) k.2 ∙ d.1; named = k.3; tables = k.4 }

    has_call : (i : M.Global) (u v : Fact M) (s : M.Site) (h : M.Fn) (c : G.Block) → EndsIn M L A G C (EntryOf f a) i u → G.Call f (V.block a.context.function a.block) s h c → CallFlow M L A s h u v
        → Among (record { fn = h; global₀ = i; fact₀ = v; block = G.first h; global = i; fact = v })
    has_call i u v s h c ends call flow =
        let k = at_call i u s h c ends call in
        let t = k.end in
        let y = k.tables.entered t.tuple v t.numbered (subst (λ z. CallFlow M L A s h z v) (sym t.fact) flow) in
        let n = k.tables.enters t.tuple y.0 t.numbered y.1 in
        let edge = first k.call.callee y.0 in
        let leads = subst (λ e. Contains (led_from a.context e t.tuple) edge) (sym k.is) (to_map (first k.call.callee) (passed k.call.entered.items t.tuple) y.0 y.1) in
        let global : V.global y.0.global ≡ i = ap V.global n.1 ∙ t.global in
        let block : V.block k.call.callee 0 ≡ G.first h = (tables_of M L A G C V report p T k.call.callee h k.named).stand.first in
        record {
          edge = edge;
          among = closed edge (FollowsOne a of.among (to_led p a t.rows t.block t.there t.tuple t.ends edge leads));
          fn = h;
          named = k.named;
          is = λ j. record { fn = h; global₀ = global j; fact₀ = y.2 j; block = block j; global = global j; fact = y.2 j };
        }

    module _ (x : NumberedEdge) (h : M.Fn) (other : IsOf x h) where
      -- at the end of its frame it is an end of its own context
      is_end : G.Ends h (V.block x.context.function x.block) → IsEndOf p x x.context
      is_end ends =
          let t = tables_of M L A G C V report p T x.context.function h other.named in
          let b = present (block_of t.rows x.block) (λ none. t.stand.no_end x.block none ends) in
          let stop = (t.stand.endings x.block b.0 b.1).stop ends in
          let there : block_at p x.context.function x.block ≡ Some b.0 = ap (option_and_then (λ (g : FunctionRows). block_of g x.block)) t.there ∙ b.1 in
          ap (option_and_then (λ (y : Block). ended_in x y.ending)) there ∙ ap (ended_in x) stop

      other_stands : Stands M L A G C V N report p T x
      other_stands = derived_stands M L A G C V N report p T (only x other.among)

      module _ (u : Fact M) (s : M.Site) (c : G.Block) (ends : EndsIn M L A G C (EntryOf f a) (V.global x.context.entry.global) u) (call : G.Call f (V.block a.context.function a.block) s h c) (stops : G.Ends h (V.block x.context.function x.block)) where
        there : AtCall (V.global x.context.entry.global) u s h c
        there = at_call (V.global x.context.entry.global) u s h c ends call

        same_function : there.call.callee ≡ x.context.function
        same_function = N.functions there.call.callee x.context.function h there.named other.named

        tables : IsCall M L A G V a.context.function x.context.function f h s there.call
        tables = subst (λ m. IsCall M L A G V a.context.function m f h s there.call) same_function there.tables

        same_global : there.end.tuple.global ≡ x.context.entry.global
        same_global = N.globals there.end.tuple.global x.context.entry.global there.end.global

        -- a waiter for the context of the end is woken with what stands behind the call
        has_behind : (saved v w : NumberedTuple) → Contains (waiting_at a there.end.block.ending there.end.tuple) (on (context there.call.callee v) (waiter a saved)) → v ≡ x.context.entry
            → Contains (tuples_behind there.call saved x.tuple) w → Contains log (at a.context w there.call.behind)
        has_behind saved v w waits same behind =
            let t = there.end in
            let w₀ = waiter a saved in
            let edge = at a.context w there.call.behind in
            let k : context there.call.callee v ≡ x.context = λ j. record { function = same_function j; entry = same j } in
            let waits_there = subst (λ z. WaitsAt p a z w₀) k (to_waiting p a t.rows t.block t.there t.tuple t.ends (context there.call.callee v) w₀ waits) in
            let woken : IsWoken p w₀ x edge = to_present (woken_at w₀ x.tuple) (call_at p a.context.function a.block) there.call edge (call_there p a t.rows t.block t.there there.call there.is)
            (to_map (λ y. at a.context y there.call.behind) (tuples_behind there.call saved x.tuple) w behind) in
            closed edge (FollowsTwo a x x.context w₀ of.among waits_there other.among (is_end stops) woken)

        has_return : (y : Fact M) → CallFlow M L A s h u (fact_at M A G V x.context.function x.context.entry) → ReturnFlow M L A s f (fact_at M A G V x.context.function x.tuple) y
            → Among (entry_at M G (EntryOf f a) c (V.global x.tuple.global) y)
        has_return y enters returns =
            let t = there.end in
            let k = there.call in
            let entry = fact_at M A G V x.context.function x.context.entry in
            let v = tables.entered t.tuple entry t.numbered (subst (λ z. CallFlow M L A s h z entry) (sym t.fact) enters) in
            let n = tables.enters t.tuple v.0 t.numbered v.1 in
            let same = same_tuple M A G V N x.context.function v.0 x.context.entry n.0 other_stands.entered (n.1 ∙ same_global) v.2 in
            let w = tables.handed x.tuple y other_stands.numbered returns in
            let o = tables.hands x.tuple w.0 other_stands.numbered w.1 in
            let awaited = on (context k.callee v.0) (waiter a (bare 0)) in
            let waits = Contains-append_left (map (waits_for a k) (passed k.entered.items t.tuple)) (waits_with a k t.tuple) awaited (to_map (waits_for a k) (passed k.entered.items t.tuple) v.0 v.1) in
            let global = ap V.global o.1 in
            record {
              edge = at a.context w.0 k.behind;
              among = has_behind (bare 0) v.0 w.0 (subst (λ e. Contains (waiting_at a e t.tuple) awaited) (sym there.is) waits) same w.1;
              fn = f;
              named = of.named;
              is = λ j. record { fn = f; global₀ = V.global a.context.entry.global; fact₀ = fact_at M A G V a.context.function a.context.entry; block = there.behind j; global = global j; fact = w.2 j };
            }

        has_saved : (o : M.Obj) (z : Option M.State) → u ≡ HasObject o z → fact_at M A G V x.context.function x.context.entry ≡ NoObject → fact_at M A G V x.context.function x.tuple ≡ NoObject → L.out s o ≡ None
            → Among (entry_at M G (EntryOf f a) c (V.global x.tuple.global) u)
        has_saved o z is entry end out =
            let t = there.end in
            let k = there.call in
            let object = object_of M A G V (V.object a.context.function t.tuple.object) (V.state t.tuple.state) o z (t.fact ∙ is) in
            let saved = (tables.saves t.tuple.object o object).1 out in
            let v = bare t.tuple.global in
            let same = same_tuple M A G V N x.context.function v x.context.entry (IsBare refl refl) other_stands.entered same_global (bare_fact M A G V N x.context.function v refl ∙ sym entry) in
            let awaited = on (context k.callee v) (waiter a t.tuple) in
            let waits = Contains-append_right (map (waits_for a k) (passed k.entered.items t.tuple)) (waits_with a k t.tuple) awaited (subst (λ b. Contains (cond b (awaited ∷ []) []) awaited) (sym saved) (the_first awaited [])) in
            let w = restored t.tuple x.tuple in
            let ended = bare_number M A G V N x.context.function x.tuple other_stands.numbered end in
            let bare_end = subst (λ b. Contains (cond b (w ∷ []) []) w) (sym (eq-eqb x.tuple.object 0 ended)) (the_first w []) in
            let behind = subst (λ b. Contains (cond b (passed k.handed.items x.tuple) (cond (nat_eq x.tuple.object 0) (w ∷ []) [])) w) (sym (owned k.saved.items t.tuple.object saved)) bare_end in
            record {
              edge = at a.context w k.behind;
              among = has_behind t.tuple v w (subst (λ e. Contains (waiting_at a e t.tuple) awaited) (sym there.is) waits) same behind;
              fn = f;
              named = of.named;
              is = λ j. record { fn = f; global₀ = V.global a.context.entry.global; fact₀ = fact_at M A G V a.context.function a.context.entry; block = there.behind j; global = V.global x.tuple.global; fact = t.fact j };
            }

  of_edge : {e : Entry M G} (x : Among e) → IsOf x.edge x.fn
  of_edge x = record { among = x.among; named = x.named }

  has_step : (a b c : Entry M G) → Among a → Among b → Step M L A G C a b c → Among c
  has_step a b c x y (StepNext e z i u d ends next) =
      subst (λ (o : Entry M G). EndsIn M L A G C o i u → G.Next o.fn o.block d → Among (entry_at M G o d i u)) x.is (has_next x.edge x.fn (of_edge x) i u d) ends next
  has_step a b c x y (StepCall e z i u v s h d ends call flow) =
      subst (λ (o : Entry M G). EndsIn M L A G C o i u → G.Call o.fn o.block s h d → CallFlow M L A s h u v → Among (record { fn = h; global₀ = i; fact₀ = v; block = G.first h; global = i; fact = v })) x.is
      (has_call x.edge x.fn (of_edge x) i u v s h d) ends call flow
  has_step a b c x y (StepReturn e z u v s d ends call enters stops returns) =
      subst₂ (λ (o : Entry M G) (q : Entry M G). EndsIn M L A G C o q.global₀ u → G.Call o.fn o.block s q.fn d → G.Ends q.fn q.block → CallFlow M L A s q.fn u q.fact₀ → ReturnFlow M L A s o.fn q.fact v
      → Among (entry_at M G o d q.global v)) x.is y.is (λ f k l. has_return x.edge x.fn (of_edge x) y.edge y.fn (of_edge y) u s d f k l v) ends call stops enters returns
  has_step a b c x y (StepSaved e z o q s d ends call entry end stops out) =
      subst₂ (λ (n : Entry M G) (m : Entry M G). EndsIn M L A G C n m.global₀ (HasObject o q) → G.Call n.fn n.block s m.fn d → G.Ends m.fn m.block → m.fact₀ ≡ NoObject → m.fact ≡ NoObject → L.out s o ≡ None
      → Among (entry_at M G n d m.global (HasObject o q))) x.is y.is (λ f k l. has_saved x.edge x.fn (of_edge x) y.edge y.fn (of_edge y) (HasObject o q) s d f k l o q refl) ends call stops entry end out

  -- and no others
  has_only : (c : Entry M G) → Among c → Least M L A G C c
  has_only c x =
      let s = derived_stands M L A G C V N report p T (only x.edge x.among) in
      let least = subst (λ f. Least M L A G C (EntryOf f x.edge)) (some_some (V.function x.edge.context.function) x.fn s.fn x.named s.named) s.least in
      subst (Least M L A G C) x.is least

  -- THE EDGES ARE THE ENTRIES
  pub edges_are_entries : IsLeastLog M L A G C Among
  edges_are_entries = record { base = has_base; closed = has_step; only = has_only }
