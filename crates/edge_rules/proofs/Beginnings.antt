-- Roots and the edges with which they begin.
use Rattle.std.proofs.Common.{◌≡◌, inl, inr, ℕ, ◌<◌, ◌+◌, ◌++◌, take, get_or, true, List, [], map, length, slice_get, Contains, Option, None, Some, refl, sym, ap, subst, ◌∙◌}
use Rattle.std.proofs.lemmas.Option.{slice_get_within, slice_get-get_or, get_or_from_slice_get}
use Rattle.std.specs.Option.{option_map}
use Rattle.c_objects.specs.Objects.{Object}
use Rattle.flow_graph.specs.CPaths.Building.{Graph}
use Rattle.type_rules.specs.Functions.{Defined}
use Rattle.path_model.specs.CheckerGraphs.Graphs.{function_at, graph_at}
use Rattle.path_model.proofs.CheckerGraphs.Calls.{root-number}
use Rattle.path_model.specs.CheckerModel.Happenings.{Function}
use Rattle.path_model.specs.CheckerModel.Reports.{Checker}
use Rattle.path_model.specs.CheckerPrograms.Texts.{function_of, functions_in}
use Rattle.typed_unit.specs.Texts.{Text}
use Rattle.flow_graph.specs.Seen.{graph_in}
use Rattle.least_set.specs.Logs.{IsExactly, SomeGives}
use Rattle.path_edges.specs.declared.edges.Edge.{Edge}
use Rattle.path_edges.specs.Edges.{tuple_in}
use Rattle.block_flows.specs.Masks.{model_under, origins_under, objects_under}
use Rattle.block_flows.proofs.TupleFlows.Followed.{contains-in, in-contains}
use Rattle.path_edges.specs.Relations.{Begins}
use Rattle.path_theory.specs.Facts.{FactOf}
use Rattle.path_theory.specs.Flows.{Starts, StartsNone, StartsUnknown}
use Rattle.call_graph.specs.declared.programs.functions.FnId.{FnId}
use Rattle.function_tables.specs.declared.engine_tables.frames.Frame.{Frame}
use Rattle.function_tables.specs.declared.engine_tables.tables.Tables.{Tables}
use Rattle.function_tables.specs.EngineTables.Known.{AreKnown, checker_in, texts_in, graphs_in, objects_in}
use Rattle.path_edges.specs.EdgeSteps.Steps.{BeginsIn, first_edge, first_edges, start_tuple, unknown_at}
use Rattle.path_edges.proofs.EdgeSteps.Lists.{contains-first, contains-later, contains-cases, contains-map, map-contains, exactly-none, given-next}
use Rattle.function_tables.proofs.EngineTables.Places.{IsPlace, named, apart-in}
use Rattle.path_edges.proofs.EdgeSteps.Views.{tuple-fact, tuple-seen}
use Rattle.state_tuples.specs.declared.tuple.Tuple.{Tuple}
use Rattle.block_flows.specs.TupleFlows.Facts.{fact_in}

one-function : (f g : Function) → Some f ≡ Some g → f ≡ g
one-function f g e = cc

nowhere : (f : Function) → None ≡ Some f → ⊥
nowhere f h = cc

-- an edge is that with which a function begins
is-first : (e : Edge) (n b : ℕ) (t : Tuple) → e.context.function ≡ n → e.context.entry ≡ t → e.is_root ≡ true → e.block ≡ b → e.tuple ≡ e.context.entry → first_edge n b t ≡ e
is-first e n b t f h r k s =
    let u : e.tuple ≡ t = s ∙ h in
    sym (λ i. record { context = record { function = f i; entry = h i }; is_root = r i; block = k i; tuple = u i })

module _ (t : Tables) (n : ℕ) (f : Frame) (p : IsPlace t n f) where
  abbrev c : Checker
  c = checker_in t

  abbrev fn : Function
  fn = function_of p.defined

  abbrev b : ℕ
  b = (graph_in f.table.now.graph.now).entry

  first-there : b ≡ (graph_at (texts_in t) (graphs_in t) fn).entry
  first-there = ap (λ (g : Graph). g.entry) (sym p.graph)

  begins-with : (u : Tuple) → u.global ≡ 0 → Starts (model_under c (texts_in t) (objects_in t)) (origins_under c (texts_in t) (objects_in t)) (objects_under c (texts_in t) (objects_in t)) fn (fact_in u) → BeginsIn c (texts_in t) (graphs_in t) (objects_in t) n (first_edge n b u)
  begins-with u g s = record { fn = fn; named = named t n p.defined p.is; number = refl; start = g; starts = s; kind = refl; first = first-there; same = refl }

  listed-begins : (e : Edge) → Contains (first_edges n b f.objects.now.keys) e → BeginsIn c (texts_in t) (graphs_in t) (objects_in t) n e
  listed-begins e h = elim (contains-cases (first_edge n b start_tuple) e (map (λ o. first_edge n b (unknown_at o)) f.objects.now.keys) h) [
    | inl q ↦ subst (BeginsIn c (texts_in t) (graphs_in t) (objects_in t) n) q (begins-with start_tuple refl StartsNone)
    | inr r ↦ let m = map-contains (λ o. first_edge n b (unknown_at o)) f.objects.now.keys e r in
        subst (BeginsIn c (texts_in t) (graphs_in t) (objects_in t) n) m.2 (begins-with (unknown_at m.0) refl (StartsUnknown m.0 (p.follows m.0 ∙ contains-in f.objects.now.keys m.0 m.1)))
  ]

  -- by the fact with which it begins
  started : (e : Edge) (x : FactOf Object (ℕ × ℕ)) → fact_in e.context.entry ≡ x → Starts (model_under c (texts_in t) (objects_in t)) (origins_under c (texts_in t) (objects_in t)) (objects_under c (texts_in t) (objects_in t)) fn x
      → e.context.function ≡ n → e.context.entry.global ≡ 0 → e.is_root ≡ true → e.block ≡ b → e.tuple ≡ e.context.entry → Contains (first_edges n b f.objects.now.keys) e
  started e x is StartsNone number g r k s =
      subst (λ z. Contains (first_edges n b f.objects.now.keys) z) (is-first e n b start_tuple number (tuple-fact e.context.entry start_tuple g is) r k s)
      (contains-first (first_edge n b start_tuple) (map (λ o. first_edge n b (unknown_at o)) f.objects.now.keys))
  started e x is (StartsUnknown o a) number g r k s =
      subst (λ z. Contains (first_edges n b f.objects.now.keys) z) (is-first e n b (unknown_at o) number (tuple-fact e.context.entry (unknown_at o) g is) r k s)
      (contains-later (first_edge n b start_tuple) (first_edge n b (unknown_at o)) (map (λ o. first_edge n b (unknown_at o)) f.objects.now.keys)
      (contains-map (λ o. first_edge n b (unknown_at o)) f.objects.now.keys o (in-contains f.objects.now.keys o (sym (p.follows o) ∙ a))))

  begins-listed : (e : Edge) → BeginsIn c (texts_in t) (graphs_in t) (objects_in t) n e → Contains (first_edges n b f.objects.now.keys) e
  begins-listed e h =
      let same : h.fn ≡ fn = one-function h.fn fn (sym h.named ∙ named t n p.defined p.is) in
      let starts = subst (λ (z : Function). Starts (model_under c (texts_in t) (objects_in t)) (origins_under c (texts_in t) (objects_in t)) (objects_under c (texts_in t) (objects_in t)) z (fact_in e.context.entry)) same h.starts in
      let block : e.block ≡ b = h.first ∙ ap (λ (z : Function). (graph_at (texts_in t) (graphs_in t) z).entry) same ∙ sym first-there in
      started e (fact_in e.context.entry) refl starts h.number h.start h.kind block h.same

  pub first-exactly : (list : List Edge) → list ≡ first_edges n b f.objects.now.keys → IsExactly list (BeginsIn c (texts_in t) (graphs_in t) (objects_in t) n)
  first-exactly list e = subst (λ l. IsExactly l (BeginsIn c (texts_in t) (graphs_in t) (objects_in t) n)) (sym e) (listed-begins, begins-listed)

pub nothing-begins : (c : Checker) (ts : List Text) (gs : List Graph) (lists : List (List Object)) (n : ℕ) → function_at ts n ≡ None → IsExactly [] (BeginsIn c ts gs lists n)
nothing-begins c ts gs lists n none = exactly-none (BeginsIn c ts gs lists n) (λ e h. nowhere h.fn (sym none ∙ h.named))

-- one more value, at its place in the list
pub given-at : {T M : Type 0} (G : T → M → Type 0) (xs : List T) (i : ℕ) (d : T) (out more new : List M) → i < length xs → IsExactly out (SomeGives G (take i xs))
    → IsExactly more (G (get_or xs i d)) → new ≡ out ++ more → IsExactly new (SomeGives G (take (i + 1) xs))
given-at G xs i d out more new h e g n =
    given-next G xs i (get_or xs i d) out more new h (sym (get_or_from_slice_get xs i (get_or xs i d) (get_or xs i d) (slice_get-get_or xs i d h))) e g n

-- the base is that of all roots
module _ (t : Tables) (k : AreKnown t) where
  abbrev numbers : List ℕ
  numbers = map (λ f. f.number) t.roots.now

  of-root : (e : Edge) (n : ℕ) → Contains numbers n → BeginsIn (checker_in t) (texts_in t) (graphs_in t) (objects_in t) n e → Begins (checker_in t) (texts_in t) (graphs_in t) (objects_in t) e
  of-root e n i h =
      let there : function_at (texts_in t) e.context.function ≡ Some h.fn = ap (function_at (texts_in t)) h.number ∙ h.named in
      record {
        fn = h.fn;
        named = there;
        root = (root-number (checker_in t).machine (texts_in t) (apart-in t) n h.fn h.named).1 ((k.roots n).0 i).0;
        start = h.start;
        starts = h.starts;
        kind = h.kind;
        first = h.first;
        same = ap tuple_in h.same;
      }

  some-defined : (n : ℕ) (f : Function) → function_at (texts_in t) n ≡ Some f → n < length (functions_in (texts_in t))
  some-defined n f e = by (slice_get (functions_in (texts_in t)) n) refl e
    where
      by : (o : Option Defined) → slice_get (functions_in (texts_in t)) n ≡ o → option_map function_of o ≡ Some f → n < length (functions_in (texts_in t))
      by None h e = cc
      by (Some d) h e = slice_get_within (functions_in (texts_in t)) n d h

  to-root : (e : Edge) → Begins (checker_in t) (texts_in t) (graphs_in t) (objects_in t) e → SomeGives (BeginsIn (checker_in t) (texts_in t) (graphs_in t) (objects_in t)) numbers e
  to-root e h =
      let n = e.context.function in
      let root = (root-number (checker_in t).machine (texts_in t) (apart-in t) n h.fn h.named).0 h.root in (
        n,
        (k.roots n).1 (root, some-defined n h.fn h.named),
        record { fn = h.fn; named = h.named; number = refl; start = h.start; starts = h.starts; kind = h.kind; first = h.first; same = tuple-seen e.tuple e.context.entry h.same },
      )

  abbrev Given : FnId → Edge → Type 0
  Given f = BeginsIn (checker_in t) (texts_in t) (graphs_in t) (objects_in t) f.number

  pub of-all-roots : (list : List Edge) → IsExactly list (SomeGives Given t.roots.now) → IsExactly list (Begins (checker_in t) (texts_in t) (graphs_in t) (objects_in t))
  of-all-roots list x = (
    λ e m. let s = x.0 e m in of-root e (s.0).number (contains-map (λ (f : FnId). f.number) t.roots.now s.0 s.1) s.2,
    λ e h.
        let s = to-root e h in
        let f = map-contains (λ (f : FnId). f.number) t.roots.now s.0 s.1 in
        x.1 e (f.0, f.1, subst (λ n. BeginsIn (checker_in t) (texts_in t) (graphs_in t) (objects_in t) n e) (sym f.2) s.2),
  )
