-- EACH DERIVED EDGE STANDS for an entry that follows in the theory of paths.
-- A waiter carries no edge of its caller: the rule that left it has the caller's edge among its premises.
use Rattle.std.proofs.Common.{◌≡◌, ◌∙◌, inl, inr, refl, sym, ap, subst, eqb-true, ℕ, nat_eq, true, cond, [], ◌∷◌, map, Some, Contains}
use Rattle.std.specs.Option.{option_map_or}
use Rattle.std.proofs.lemmas.List.Elements.{Contains-append_cases}
use Rattle.least_set.proofs.Growing.{nothing}
use Rattle.least_set.specs.TwoPremises.{LeastBase, LeastOne, LeastTwo}
use Rattle.numbered_engine.specs.Following.{at, context, first, led_from, passed}
use Rattle.numbered_engine.specs.Program.{block_at, block_of, ends_in, function_at}
use Rattle.numbered_engine.specs.Rules.{Begins, IsDerived, IsEndOf, IsWoken, LeadsTo, WaitsAt}
use Rattle.numbered_engine.specs.Waiting.{Waits, ended_in, on, restored, tuples_behind, waiter, waiting_at, waits_for, waits_with, woken_at}
use Rattle.numbered_engine.specs.declared.edges.NumberedContext.{NumberedContext}
use Rattle.numbered_engine.specs.declared.edges.NumberedEdge.{NumberedEdge}
use Rattle.numbered_engine.specs.declared.edges.NumberedWaiter.{NumberedWaiter}
use Rattle.numbered_engine.specs.declared.program.Block.{Block}
use Rattle.numbered_engine.specs.declared.program.Call.{Call}
use Rattle.numbered_engine.specs.declared.program.Ending.{Ending}
use Rattle.numbered_engine.specs.declared.program.Ending.TheVariants as ending
use Rattle.numbered_engine.specs.declared.program.FunctionRows.{FunctionRows}
use Rattle.numbered_engine.specs.declared.program.ProgramRows.{ProgramRows}
use Rattle.numbered_engine.proofs.AtEnds.{call_there, exits, of_led, of_waiting}
use Rattle.numbered_paths.proofs.BlockTables.{ends_so, stand_for, tables_of}
use Rattle.numbered_paths.proofs.Lists.{of_condition, owned}
use Rattle.numbered_paths.proofs.SameNumbers.{bare_fact, fact_with, has_object, restored_numbered}
use Rattle.numbered_paths.specs.Calls.{IsCall}
use Rattle.numbered_paths.specs.Tables.{AreTables, IsFunction, entry_of}
use Rattle.numbered_paths.specs.Views.{AreNumbers, IsNumbered, Views, fact_at}
use Rattle.path_theory.proofs.SmallFacts.{some_some, then_known}
use Rattle.path_theory.specs.Entries.{BaseRoot, EndsIn, Entry, Least, OfBase, OfStep, StepCall, StepNext, StepReturn, StepSaved, entry_at}
use Rattle.path_theory.specs.Facts.{Fact, Objects}
use Rattle.path_theory.specs.FlowGraphs.{FlowGraphs}
use Rattle.path_theory.specs.Merged.{Kinds}
use Rattle.path_theory.specs.Model.{Model}
use Rattle.path_theory.specs.Origins.{Origins}
use Rattle.row_flows.specs.Choices.{bare}
use Rattle.row_flows.specs.Numbers.{is_own}
use Rattle.row_flows.specs.declared.behind.Firing.{Firing}
use Rattle.row_flows.specs.declared.tuples.NumberedTuple.{NumberedTuple}
use Rattle.row_flows.proofs.Lists.{of_map}

module _ (M : Model) (L : Origins M) (A : Objects M) (G : FlowGraphs M) (C : Kinds M G) (V : Views M G) (N : AreNumbers M A G V) (report : ℕ → ℕ → Firing → M.Report → Type 0) (p : ProgramRows)
    (T : AreTables M L A G C V report p) where
  -- the edge is of a known function, its numbers stand for something, and its entry follows
  pub record Stands (e : NumberedEdge) : Type 0 where
    pub fn : M.Fn
    pub named : V.function e.context.function ≡ Some fn
    pub entered : IsNumbered M A G V e.context.function e.context.entry
    pub numbered : IsNumbered M A G V e.context.function e.tuple
    pub least : Least M L A G C (entry_of M L A G C V fn e)

  -- with which a frame begins
  abbrev first_entry : M.Fn → M.Global → Fact M → Entry M G
  first_entry h g y = record { fn = h; global₀ = g; fact₀ = y; block = G.first h; global = g; fact = y }

  begins_so : (e : NumberedEdge) → Begins p e → Stands e
  begins_so e h =
      let w = T.begins e h in
      let f = w.0 in
      let y = fact_at M A G V e.context.function e.tuple in
      let k = tables_of M L A G C V report p T e.context.function f w.1 in
      let block : V.block e.context.function e.block ≡ G.first f = ap (V.block e.context.function) w.3 ∙ k.stand.first in
      let entry : V.global e.context.entry.global ≡ M.start = ap (λ (t : NumberedTuple). V.global t.global) (sym w.4) ∙ w.5 in
      let is : first_entry f M.start y ≡ entry_of M L A G C V f e = λ i. record {
        fn = f;
        global₀ = sym entry i;
        fact₀ = fact_at M A G V e.context.function (w.4 i);
        block = sym block i;
        global = sym w.5 i;
        fact = y;
      } in
      record {
        fn = f;
        named = w.1;
        entered = subst (IsNumbered M A G V e.context.function) w.4 w.6;
        numbered = w.6;
        least = subst (Least M L A G C) is (OfBase (BaseRoot w.2 w.7));
      }

  module _ (a : NumberedEdge) (s : Stands a) where
    -- at the end of its block, by its tables and by the theory
    record IsEnd (r : FunctionRows) (b : Block) (u : NumberedTuple) : Type 0 where
      stand : IsFunction M L A G C V (report a.context.function) a.context.function s.fn r
      there : block_of r a.block ≡ Some b
      numbered : IsNumbered M A G V a.context.function u
      ends : EndsIn M L A G C (entry_of M L A G C V s.fn a) (V.global u.global) (fact_at M A G V a.context.function u)

    is_end : (r : FunctionRows) (b : Block) (u : NumberedTuple) → function_at p a.context.function ≡ Some r → block_of r a.block ≡ Some b → Contains (ends_in r b a.context.entry a.tuple) u → IsEnd r b u
    is_end r b u function block h =
        let stand = stand_for M L A G C V report p T a.context.function r s.fn function s.named in
        let w = ends_so M L A G C V report p T a s.fn r b stand block s.entered s.numbered u h in
        record { stand = stand; there = block; numbered = w.0; ends = w.1 }

    module _ (r : FunctionRows) (b : Block) (u : NumberedTuple) (end : IsEnd r b u) where
      goes_on_so : (d : ℕ) → G.Next s.fn (V.block a.context.function a.block) (V.block a.context.function d) → Stands (at a.context u d)
      goes_on_so d next = record {
        fn = s.fn;
        named = s.named;
        entered = s.entered;
        numbered = end.numbered;
        least = let e = entry_of M L A G C V s.fn a in OfStep s.least s.least (StepNext e e (V.global u.global) (fact_at M A G V a.context.function u) (V.block a.context.function d) end.ends next);
      }

      calls_so : (c : Call) (v : NumberedTuple) → b.ending ≡ ending.Calls c → Contains (passed c.entered.items u) v → Stands (first c.callee v)
      calls_so c v is h =
          let k = (end.stand.endings a.block b end.there).calls c is in
          let w = k.4.enters u v end.numbered h in
          let e = entry_of M L A G C V s.fn a in
          let y = fact_at M A G V c.callee v in
          let block : V.block c.callee 0 ≡ G.first k.0 = (tables_of M L A G C V report p T c.callee k.0 k.2).stand.first in
          let global : V.global v.global ≡ V.global u.global = ap V.global w.1 in
          let is : first_entry k.0 (V.global u.global) y ≡ entry_of M L A G C V k.0 (first c.callee v) = λ i. record { fn = k.0; global₀ = sym global i; fact₀ = y; block = sym block i; global = sym global i; fact = y } in
          record {
            fn = k.0;
            named = k.2;
            entered = w.0;
            numbered = w.0;
            least = subst (Least M L A G C) is (OfStep s.least s.least (StepCall e e (V.global u.global) (fact_at M A G V a.context.function u) y k.1 k.0 (V.block a.context.function c.behind) end.ends k.3 w.2));
          }

      leads_so : (c : NumberedEdge) → Contains (led_from a.context b.ending u) c → Stands c
      leads_so c = by b.ending refl
        where
          by : (e : Ending) → b.ending ≡ e → Contains (led_from a.context e u) c → Stands c
          by (ending.Next bs) is h =
              let d = of_map (at a.context u) bs.items c h in
              subst Stands d.2 (goes_on_so d.0 ((end.stand.endings a.block b end.there).leads bs d.0 is d.1))
          by (ending.Calls k) is h = let v = of_map (first k.callee) (passed k.entered.items u) c h in subst Stands v.2 (calls_so k v.0 is v.1)
          by ending.Exit is h = absurd (nothing c h)

  -- an edge at the end of its frame
  record StandsAtEnd (b : NumberedEdge) : Type 0 where
    stands : Stands b
    ends : G.Ends stands.fn (V.block b.context.function b.block)

  record IsEndIn (b : NumberedEdge) (k : NumberedContext) : Type 0 where
    end : StandsAtEnd b
    is : b.context ≡ k

  ends_frame : (b : NumberedEdge) (k : NumberedContext) → Stands b → IsEndOf p b k → IsEndIn b k
  ends_frame b k s h =
      let c = then_known (block_at p b.context.function b.block) (λ (x : Block). ended_in b x.ending) k h in
      let r = then_known (function_at p b.context.function) (λ (f : FunctionRows). block_of f b.block) c.0 c.1 in
      let e = exits b c.0.ending k c.2 in
      let stand = stand_for M L A G C V report p T b.context.function r.0 s.fn r.1 s.named in
      record { end = record { stands = s; ends = (stand.endings b.block c.0 r.2).stops e.0 }; is = e.1 }

  module _ (a : NumberedEdge) (s : Stands a) (r : FunctionRows) (b : Block) (u : NumberedTuple) (end : IsEnd a s r b u) (c : Call) (is : b.ending ≡ ending.Calls c) (t : NumberedTuple) (d : ℕ) where
    -- the call, by the function of the callee's end
    record IsTheCall (h : M.Fn) : Type 0 where
      site : M.Site
      call : G.Call s.fn (V.block a.context.function a.block) site h (V.block a.context.function c.behind)
      tables : IsCall M L A G V a.context.function c.callee s.fn h site c

    the_call : (h : M.Fn) → V.function c.callee ≡ Some h → IsTheCall h
    the_call h named =
        let k = (end.stand.endings a.block b end.there).calls c is in
        subst IsTheCall (some_some (V.function c.callee) h k.0 named k.2) (record { site = k.1; call = k.3; tables = k.4 })

    -- what the callee hands back
    returns_so : (v w : NumberedTuple) → Contains (passed c.entered.items u) v → StandsAtEnd (at (context c.callee v) t d) → Contains (passed c.handed.items t) w → Stands (at a.context w c.behind)
    returns_so v w enters x hands =
        let h = x.stands.fn in
        let k = the_call h x.stands.named in
        let i = k.tables.enters u v end.numbered enters in
        let o = k.tables.hands t w x.stands.numbered hands in
        let e = entry_of M L A G C V s.fn a in
        let z = entry_of M L A G C V h (at (context c.callee v) t d) in
        let y = fact_at M A G V a.context.function u in
        let ends = subst (λ g. EndsIn M L A G C e g y) (ap V.global (sym i.1)) end.ends in
        let behind = fact_at M A G V a.context.function w in
        record {
          fn = s.fn;
          named = s.named;
          entered = s.entered;
          numbered = o.0;
          least = subst (λ g. Least M L A G C (entry_at M G e (V.block a.context.function c.behind) g behind)) (ap V.global (sym o.1))
              (OfStep s.least x.stands.least (StepReturn e z y behind k.site (V.block a.context.function c.behind) ends k.call i.2 x.ends o.2));
        }

    -- and what is saved
    saved_so : is_own c.saved.items u.object ≡ true → StandsAtEnd (at (context c.callee (bare u.global)) t d) → t.object ≡ 0 → Stands (at a.context (restored u t) c.behind)
    saved_so saved x without =
        let h = x.stands.fn in
        let k = the_call h x.stands.named in
        let o = has_object M A G V a.context.function u end.numbered (owned c.saved.items u.object saved) in
        let is_fact = fact_with M A G V a.context.function u o.0 o.1 in
        let e = entry_of M L A G C V s.fn a in
        let z = entry_of M L A G C V h (at (context c.callee (bare u.global)) t d) in
        let ends = subst (λ y. EndsIn M L A G C e (V.global u.global) y) is_fact end.ends in
        record {
          fn = s.fn;
          named = s.named;
          entered = s.entered;
          numbered = restored_numbered M A G V a.context.function u t end.numbered;
          least = subst (λ y. Least M L A G C (entry_at M G e (V.block a.context.function c.behind) (V.global t.global) y)) (sym is_fact)
              (OfStep s.least x.stands.least (StepSaved e z o.0 (V.state u.state) k.site (V.block a.context.function c.behind) ends k.call (bare_fact M A G V N c.callee (bare u.global) refl) (bare_fact M A G V N c.callee t without) x.ends
              ((k.tables.saves u.object o.0 o.1).0 saved)));
        }

    wakes_for : (v : NumberedTuple) (x : NumberedEdge) → Contains (passed c.entered.items u) v → StandsAtEnd (at (context c.callee v) t d) → Contains (woken_at (waiter a (bare 0)) t c) x → Stands x
    wakes_for v x enters at_end h =
        let w = of_map (λ y. at a.context y c.behind) (passed c.handed.items t) x h in
        subst Stands w.2 (returns_so v w.0 enters at_end w.1)

    wakes_with : (x : NumberedEdge) → is_own c.saved.items u.object ≡ true → StandsAtEnd (at (context c.callee (bare u.global)) t d) → Contains (woken_at (waiter a u) t c) x → Stands x
    wakes_with x saved at_end h =
        let w = of_map (λ y. at a.context y c.behind) (tuples_behind c u t) x h in
        let has = subst (λ q. Contains (cond q (passed c.handed.items t) (cond (nat_eq t.object 0) (restored u t ∷ []) [])) w.0) (owned c.saved.items u.object saved) w.1 in
        let k = of_condition (nat_eq t.object 0) (restored u t) w.0 has in
        subst Stands (ap (λ y. at a.context y c.behind) k.1 ∙ w.2) (saved_so saved at_end (eqb-true t.object 0 k.0))

  -- by what the waiter is
  module _ (a : NumberedEdge) (s : Stands a) (r : FunctionRows) (b : Block) (u : NumberedTuple) (end : IsEnd a s r b u) (function : function_at p a.context.function ≡ Some r) (x : NumberedEdge) (k : NumberedContext)
      (w : NumberedWaiter) (frame : IsEndIn x k) (c : NumberedEdge) (woken : IsWoken p w x c) where
    -- the end, of the context for which the frame waits
    at_end : (z : NumberedContext) → z ≡ k → StandsAtEnd (at z x.tuple x.block)
    at_end z e = subst (λ y. StandsAtEnd (at y x.tuple x.block)) (frame.is ∙ sym e) frame.end

    -- what it is woken with, by the tables of the call
    woken_there : (l : Call) (q : NumberedTuple) → b.ending ≡ ending.Calls l → waiter a q ≡ w → Contains (woken_at (waiter a q) x.tuple l) c
    woken_there l q is e =
        let here = subst (λ y. IsWoken p y x c) (sym e) woken in
        subst (λ o. Contains (option_map_or (woken_at (waiter a q) x.tuple) o []) c) (call_there p a r b (record { function = function; block = end.there }) l is) here

    wakes_so : Contains (waiting_at a b.ending u) (on k w) → Stands c
    wakes_so = by b.ending refl
      where
        by : (e : Ending) → b.ending ≡ e → Contains (waiting_at a e u) (on k w) → Stands c
        by (ending.Next bs) is h = absurd (nothing (on k w) h)
        by (ending.Calls l) is h = elim (Contains-append_cases (map (waits_for a l) (passed l.entered.items u)) (waits_with a l u) (on k w) h) [
          | inl m ↦
              let v = of_map (waits_for a l) (passed l.entered.items u) (on k w) m in
              wakes_for a s r b u end l is x.tuple x.block v.0 c v.1 (at_end (context l.callee v.0) (ap (λ (y : Waits). y.on) v.2)) (woken_there l (bare 0) is (ap (λ (y : Waits). y.waiter) v.2))
          | inr m ↦
              let v = of_condition (is_own l.saved.items u.object) (on (context l.callee (bare u.global)) (waiter a u)) (on k w) m in
              wakes_with a s r b u end l is x.tuple x.block c v.0 (at_end (context l.callee (bare u.global)) (ap (λ (y : Waits). y.on) v.1)) (woken_there l u is (ap (λ (y : Waits). y.waiter) v.1))
        ]
        by ending.Exit is h = absurd (nothing (on k w) h)

  follows_one : (a c : NumberedEdge) → Stands a → LeadsTo p a c → Stands c
  follows_one a c s h =
      let l = of_led p a c h in
      leads_so a s l.rows l.block l.end (is_end a s l.rows l.block l.end l.there.function l.there.block l.ends) c l.leads

  follows_two : (a x c : NumberedEdge) (k : NumberedContext) (w : NumberedWaiter) → Stands a → WaitsAt p a k w → Stands x → IsEndOf p x k → IsWoken p w x c → Stands c
  follows_two a x c k w s waits t ends woken =
      let l = of_waiting p a k w waits in
      wakes_so a s l.rows l.block l.end (is_end a s l.rows l.block l.end l.there.function l.there.block l.ends) l.there.function x k w (ends_frame x k t ends) c woken l.waits

  -- EACH DERIVED EDGE STANDS
  pub derived_stands : {e : NumberedEdge} → IsDerived p e → Stands e
  derived_stands {e = e} (LeastBase b) = begins_so e b
  derived_stands {e = e} (LeastOne {a = a} d l) = follows_one a e (derived_stands d) l
  derived_stands {e = e} (LeastTwo {a = a} {b = b} {k = k} {w = w} d waits f ends woken) = follows_two a b e k w (derived_stands d) waits (derived_stands f) ends woken
