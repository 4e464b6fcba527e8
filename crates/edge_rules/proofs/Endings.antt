-- Ends of called frames.
use Rattle.std.proofs.Common.{◌≡◌, ◌↔◌, ℕ, Bool, true, false, ◌&&◌, not, true≢false, List, slice_get, Option, None, Some, refl, sym, ap, subst, ◌∙◌}
use Rattle.std.specs.Option.{option_map}
use Rattle.c_objects.specs.Objects.{Object}
use Rattle.flow_graph.specs.CPaths.Building.{Graph}
use Rattle.flow_graph.specs.CPaths.Events.{Event}
use Rattle.flow_graph.specs.CPaths.Graphs.{Block, Ending, ToAny, Calls, Stops}
use Rattle.path_model.specs.CheckerGraphs.Graphs.{function_at, graph_at}
use Rattle.path_model.specs.CheckerModel.Happenings.{Function}
use Rattle.path_model.specs.CheckerModel.Reports.{Checker}
use Rattle.path_model.specs.CheckerPrograms.Texts.{function_of}
use Rattle.typed_unit.specs.Texts.{Text}
use Rattle.flow_graph.specs.Seen.{graph_in}
use Rattle.path_edges.specs.declared.edges.Context.{Context}
use Rattle.path_edges.specs.declared.edges.Edge.{Edge}
use Rattle.path_edges.specs.Edges.{context_in}
use Rattle.path_edges.specs.Relations.{IsEndOf}
use Rattle.function_tables.specs.declared.engine_tables.frames.Frame.{Frame}
use Rattle.function_tables.specs.declared.engine_tables.tables.Tables.{Tables}
use Rattle.function_tables.specs.EngineTables.Known.{checker_in, texts_in, graphs_in, objects_in, is_stop}
use Rattle.path_edges.specs.EdgeSteps.Steps.{IsLast}
use Rattle.function_tables.proofs.EngineTables.Places.{IsPlace, named}
use Rattle.path_edges.proofs.EdgeSteps.Views.{context-seen}

ending-of : (o : Option Block) (end : Ending) → option_map (λ b. b.ending) o ≡ Some end → (es : List Event) × (o ≡ Some (record { events = es; ending = end }))
ending-of None end e = cc
ending-of (Some b) end e = let s : b.ending ≡ end = cc in (b.events, ap (λ (z : Ending). Some (record { events = b.events; ending = z })) s)

-- a block that ends the function, by its ending
pub last-there : (bs : List Block) (b : ℕ) → option_map (λ x. x.ending) (slice_get bs b) ≡ Some Stops → IsLast bs b
last-there bs b e = ending-of (slice_get bs b) Stops e

pub last-ending : (bs : List Block) (b : ℕ) → IsLast bs b → option_map (λ x. x.ending) (slice_get bs b) ≡ Some Stops
last-ending bs b h = ap (option_map (λ x. x.ending)) h.1

-- a block behind which the function ends
stop-ending : (o : Option Ending) → is_stop o ≡ true → o ≡ Some Stops
stop-ending None h = cc
stop-ending (Some (ToAny bs)) h = cc
stop-ending (Some (Calls n b)) h = cc
stop-ending (Some Stops) h = refl

pub stops-last : (bs : List Block) (b : ℕ) → is_stop (option_map (λ x. x.ending) (slice_get bs b)) ≡ true → IsLast bs b
stops-last bs b h = last-there bs b (stop-ending _ h)

pub last-stops : (bs : List Block) (b : ℕ) → IsLast bs b → is_stop (option_map (λ x. x.ending) (slice_get bs b)) ≡ true
last-stops bs b h = ap is_stop (last-ending bs b h)

-- a called frame that ends behind a block
pub ends-called : (root : Bool) (bs : List Block) (b : ℕ) (r : Bool) → r ≡ (not root && is_stop (option_map (λ x. x.ending) (slice_get bs b))) → r ≡ true → (root ≡ false) × IsLast bs b
ends-called true bs b r e h = absurd (true≢false (sym h ∙ e))
ends-called false bs b r e h = (refl, stops-last bs b (sym e ∙ h))

pub never-called : (root : Bool) (bs : List Block) (b : ℕ) (r : Bool) → r ≡ (not root && is_stop (option_map (λ x. x.ending) (slice_get bs b))) → r ≡ false → IsLast bs b → root ≡ false → ⊥
never-called true bs b r e n last called = true≢false called
never-called false bs b r e n last called = true≢false (sym (last-stops bs b last) ∙ sym e ∙ n)

one-function : (f g : Function) → Some f ≡ Some g → f ≡ g
one-function f g e = cc

nowhere : (f : Function) → None ≡ Some f → ⊥
nowhere f h = cc

some-context : (k l : Context) → Some k ≡ Some l → k ≡ l
some-context k l e = cc

no-context : (k : Context) → None ≡ Some k → ⊥
no-context k e = cc

-- no frame ends in a function that isn't there
pub no-function : (c : Checker) (ts : List Text) (gs : List Graph) (lists : List (List Object)) (e : Edge) → function_at ts e.context.function ≡ None → (k : Context) → (None ≡ Some k) ↔ IsEndOf c ts gs lists e k
no-function c ts gs lists e none k = (λ h. absurd (no-context k h), λ h. absurd (nowhere h.fn (sym none ∙ h.named)))

module _ (t : Tables) (e : Edge) (f : Frame) (p : IsPlace t e.context.function f) where
  is-last : (k : Context) → IsEndOf (checker_in t) (texts_in t) (graphs_in t) (objects_in t) e k → IsLast (graph_in f.table.now.graph.now).blocks e.block
  is-last k h =
      let same : h.fn ≡ function_of p.defined = one-function h.fn (function_of p.defined) (sym h.named ∙ named t e.context.function p.defined p.is) in
      let there = subst (λ (z : Function). IsLast (graph_at (texts_in t) (graphs_in t) z).blocks e.block) same h.ends in
      subst (λ (g : Graph). IsLast g.blocks e.block) p.graph there

  -- it doesn't end here
  pub not-here : (IsLast (graph_in f.table.now.graph.now).blocks e.block → e.is_root ≡ false → ⊥) → (k : Context) → (None ≡ Some k) ↔ IsEndOf (checker_in t) (texts_in t) (graphs_in t) (objects_in t) e k
  not-here never k = (λ h. absurd (no-context k h), λ h. absurd (never (is-last k h) h.called))

  pub ends-here : IsLast (graph_in f.table.now.graph.now).blocks e.block → e.is_root ≡ false → (k : Context) → (Some e.context ≡ Some k) ↔ IsEndOf (checker_in t) (texts_in t) (graphs_in t) (objects_in t) e k
  ends-here last called k = (
    λ h. record {
      fn = function_of p.defined;
      named = named t e.context.function p.defined p.is;
      ends = subst (λ (g : Graph). IsLast g.blocks e.block) (sym p.graph) last;
      called = called;
      context = ap context_in (some-context e.context k h);
    },
    λ h. ap (λ (z : Context). Some z) (context-seen e.context k h.context),
  )
