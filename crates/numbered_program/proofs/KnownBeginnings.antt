-- The edges with which roots begin, and the rows of a program as a whole.
use Rattle.std.proofs.Common.{◌≡◌, ◌⊎◌, inl, inr, ℕ, ◌+◌, ◌<◌, ◌≤◌, List, [], ◌∷◌, ◌++◌, map, length, get_or, take, Contains, Option, None, Some, slice_get, refl, sym, ap, subst, ◌∙◌, arith}
use Rattle.std.proofs.lemmas.Option.{get_or_from_slice_get, slice_get-get_or, slice_get_within}
use Rattle.std.specs.Option.{option_map}
use Rattle.block_flows.proofs.TupleFlows.Lists.{contains-map, exactly-alone, exactly-push, map-contains}
use Rattle.c_objects.specs.Objects.{Object}
use Rattle.call_graph.specs.declared.programs.functions.FnId.{FnId}
use Rattle.function_tables.proofs.EngineTables.Places.{there-too}
use Rattle.function_tables.specs.EngineTables.Known.{AreKnown, checker_in, graphs_in, objects_in, texts_in}
use Rattle.function_tables.specs.declared.engine_tables.tables.Tables.{Tables}
use Rattle.least_set.proofs.Growing.{before_or_at}
use Rattle.least_set.specs.Logs.{IsExactly, IsOnce, SomeGives}
use Rattle.numbered_engine.specs.declared.edges.NumberedEdge.{NumberedEdge}
use Rattle.numbered_engine.specs.declared.program.ProgramRows.{ProgramRows}
use Rattle.numbered_program.proofs.KnownSources.{listed}
use Rattle.function_tables.proofs.OneByOne.{goes-with, partner}
use Rattle.numbered_program.specs.Begun.{BeginsIn, BeginsWith, begun_at, begun_with}
use Rattle.numbered_program.specs.Made.{AreFunctionsOf}
use Rattle.numbered_program.specs.Numbered.{AreNumbered, AreNumbersOf}
use Rattle.numbered_program.specs.Rows.{AreRowsOf, IsBegun}
use Rattle.numbered_program.specs.Views.{listed_at}
use Rattle.numbered_program.specs.declared.numbers.Numbers.{Numbers}
use Rattle.path_edges.proofs.EdgeSteps.Lists.{given-next}
use Rattle.path_model.specs.CheckerGraphs.Graphs.{function_at}
use Rattle.path_model.specs.CheckerModel.Choices.{State}
use Rattle.path_model.specs.CheckerModel.Happenings.{Function}
use Rattle.path_model.specs.CheckerPrograms.Texts.{function_of, functions_in}
use Rattle.row_flows.specs.declared.tuples.NumberedTuple.{NumberedTuple}
use Rattle.type_rules.specs.Functions.{Defined}

-- ---- of one root

-- with no object
pub none_begun : (n : ℕ) (list : List NumberedEdge) → list ≡ begun_at n 0 ∷ [] → IsExactly list (BeginsWith n 0)
none_begun n list e =
    subst (λ (l : List NumberedEdge). IsExactly l (BeginsWith n 0)) (sym e)
    (exactly-alone (BeginsWith n 0) (begun_at n 0) (0, omega arith, refl) (λ b q. let k : 0 ≡ q.0 = omega (arith, q.1) in ap (begun_at n) k ∙ q.2))

-- with one more
pub begun_more : (n i : ℕ) (old new : List NumberedEdge) (d : NumberedEdge) → IsExactly old (BeginsWith n i) → d ≡ begun_at n (i + 1) → new ≡ old ++ d ∷ [] → IsExactly new (BeginsWith n (i + 1))
begun_more n i old new d before is more =
    subst (λ (l : List NumberedEdge). IsExactly l (BeginsWith n (i + 1))) (sym more)
    (exactly-push (BeginsWith n i) (BeginsWith n (i + 1)) old d before (i + 1, omega arith, sym is) (λ b p. (p.0, omega (arith, p.1), p.2)) (λ b q. split b q))
  where
    split : (b : NumberedEdge) → BeginsWith n (i + 1) b → BeginsWith n i b ⊎ (d ≡ b)
    split b q = elim (before_or_at (i + 1) q.0 (omega (arith, q.1))) [
      | inl h ↦ inl (q.0, omega (arith, h), q.2)
      | inr h ↦ inr (is ∙ ap (begun_at n) (sym h) ∙ q.2)
    ]

-- where there are no numbers nothing begins
pub nothing_begun : (numbers : List Numbers) (n : ℕ) (e : NumberedEdge) → slice_get numbers n ≡ None → BeginsIn numbers n e → ⊥
nothing_begun numbers n e none h = by h.0 (sym none ∙ h.1)
  where
    by : (x : Numbers) → None ≡ Some x → ⊥
    by x e = cc

-- where there are, these begin
pub own_begun : (numbers : List Numbers) (n : ℕ) (own : Numbers) (list : List NumberedEdge) → slice_get numbers n ≡ Some own → IsExactly list (BeginsWith n (length own.numbering.objects.now.keys))
    → IsExactly list (BeginsIn numbers n)
own_begun numbers n own list there x = (
  λ e m. (own, there, x.0 e m),
  λ e h.
      let same : h.0 ≡ own = by h.0 (sym h.1 ∙ there) in
      x.1 e (subst (λ (z : Numbers). BeginsWith n (length z.numbering.objects.now.keys) e) same h.2),
)
  where
    by : (z : Numbers) → Some z ≡ Some own → z ≡ own
    by z e = cc

-- one more value, at its place in the list
pub given_at : {T M : Type 0} (G : T → M → Type 0) (xs : List T) (i : ℕ) (d : T) (out more new : List M) → i < length xs → IsExactly out (SomeGives G (take i xs))
    → IsExactly more (G (get_or xs i d)) → new ≡ out ++ more → IsExactly new (SomeGives G (take (i + 1) xs))
given_at G xs i d out more new h e g n =
    given-next G xs i (get_or xs i d) out more new h (sym (get_or_from_slice_get xs i (get_or xs i d) (get_or xs i d) (slice_get-get_or xs i d h))) e g n

-- ---- of all

module _ (t : Tables) (states : List State) (numbers : List Numbers) (k : AreKnown t) (are : AreNumbered states (objects_in t) numbers) where
  abbrev lists : List (List Object)
  lists = objects_in t

  abbrev roots : List ℕ
  roots = map (λ (f : FnId). f.number) t.roots.now

  abbrev Begun : NumberedEdge → Type 0
  Begun = IsBegun (checker_in t) (texts_in t) (graphs_in t) lists states

  abbrev Given : FnId → NumberedEdge → Type 0
  Given f = BeginsIn numbers f.number

  -- what begins in a root
  from_root : (n : ℕ) (e : NumberedEdge) → Contains roots n → BeginsIn numbers n e → Begun e
  from_root n e root h =
      let own = partner (AreNumbersOf states) lists numbers n h.0 are h.1 in
      let there = there-too lists (functions_in (texts_in t)) n own.0 k.count own.1 in
      let begun = h.2 in
      let count : h.0.numbering.objects.now.keys ≡ listed_at lists n = own.2.follows ∙ sym (listed lists n own.0 own.1) in
      subst Begun begun.2 (record {
        fn = function_of there.0;
        named = ap (option_map function_of) there.1;
        root = ((k.roots n).0 root).0;
        block = refl;
        tuple = refl;
        global = refl;
        state = refl;
        object = subst (λ (os : List Object). begun.0 ≤ length os) count begun.1;
      })

  defined : (n : ℕ) (f : Function) → function_at (texts_in t) n ≡ Some f → (d : Defined) × (slice_get (functions_in (texts_in t)) n ≡ Some d)
  defined n f e = by (slice_get (functions_in (texts_in t)) n) refl e
    where
      by : (o : Option Defined) → slice_get (functions_in (texts_in t)) n ≡ o → option_map function_of o ≡ Some f → (d : Defined) × (slice_get (functions_in (texts_in t)) n ≡ Some d)
      by None h e = cc
      by (Some d) h e = (d, h)

  -- an edge by its parts
  parts : (e : NumberedEdge) → Begun e → begun_at e.context.function e.tuple.object ≡ e
  parts e b =
      let tuple : e.tuple ≡ begun_with e.tuple.object = λ i. record { global = b.global i; state = b.state i; object = e.tuple.object } in
      let entry : e.context.entry ≡ begun_with e.tuple.object = sym b.tuple ∙ tuple in
      sym (λ i. record { context = record { function = e.context.function; entry = entry i }; block = b.block i; tuple = tuple i })

  to_root : (e : NumberedEdge) → Begun e → Contains roots e.context.function × BeginsIn numbers e.context.function e
  to_root e b =
      let n = e.context.function in
      let d = defined n b.fn b.named in
      let list = there-too (functions_in (texts_in t)) lists n d.0 (sym k.count) d.1 in
      let own = goes-with (AreNumbersOf states) lists numbers n list.0 are list.1 in
      let count : listed_at lists n ≡ own.0.numbering.objects.now.keys = listed lists n list.0 list.1 ∙ sym own.2.follows in (
        (k.roots n).1 (b.root, slice_get_within (functions_in (texts_in t)) n d.0 d.1),
        (own.0, own.1, (e.tuple.object, subst (λ (os : List Object). e.tuple.object ≤ length os) count b.object, parts e b)),
      )

  pub begun_exactly : (list : List NumberedEdge) → IsExactly list (SomeGives Given t.roots.now) → IsExactly list Begun
  begun_exactly list x = (
    λ e m. let s = x.0 e m in from_root (s.0).number e (contains-map (λ (f : FnId). f.number) t.roots.now s.0 s.1) s.2,
    λ e b.
        let s = to_root e b in
        let f = map-contains (λ (f : FnId). f.number) t.roots.now e.context.function s.0 in
        x.1 e (f.0, f.1, subst (λ (n : ℕ). BeginsIn numbers n e) (sym f.2) s.1),
  )

  -- ---- as a whole

  pub rows_are : (p : ProgramRows) → AreFunctionsOf t states p.functions.items → IsExactly p.begun.items (SomeGives Given t.roots.now)
      → AreRowsOf (checker_in t) (texts_in t) (graphs_in t) lists states p
  rows_are p all x =
      let begun = begun_exactly p.begun.items x in
      record {
        count = all.count;
        functions = λ n f g r named there rows. all.each n r rows f g named there;
        begun = λ e. (begun.0 e, begun.1 e);
      }

-- each followed object is in its list once
pub all_once : (t : Tables) (states : List State) (numbers : List Numbers) → AreNumbered states (objects_in t) numbers → (n : ℕ) (os : List Object) → slice_get (objects_in t) n ≡ Some os → IsOnce os
all_once t states numbers are n os e = (goes-with (AreNumbersOf states) (objects_in t) numbers n os are e).2.once
