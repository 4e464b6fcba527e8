-- ROWS THAT ARE THOSE OF TABLES STAND for the program: all functions, and the edges with which paths begin.
use Rattle.std.proofs.Common.{◌≡◌, ◌∙◌, ◌⊎◌, inl, inr, refl, sym, ap, subst, arith, ℕ, zero, suc, ◌≤◌, List, length, Contains, Option, None, Some}
use Rattle.std.proofs.lemmas.Option.{slice_get_within}
use Rattle.block_flows.specs.Masks.{graphs_under, model_under, objects_under, origins_under}
use Rattle.c_objects.specs.Objects.{Object}
use Rattle.flow_graph.specs.CPaths.Building.{Graph}
use Rattle.function_tables.proofs.EngineTables.Places.{apart-in}
use Rattle.function_tables.specs.EngineTables.Known.{checker_in, graphs_in, objects_in, texts_in}
use Rattle.numbered_engine.specs.Following.{first}
use Rattle.numbered_engine.specs.Program as engine
use Rattle.numbered_engine.specs.declared.edges.NumberedEdge.{NumberedEdge}
use Rattle.numbered_engine.specs.declared.program.FunctionRows.{FunctionRows}
use Rattle.numbered_engine.specs.declared.program.ProgramRows.{ProgramRows}
use Rattle.numbered_paths.proofs.SameNumbers.{bare_fact, fact_with}
use Rattle.numbered_paths.specs.Tables.{AreTables, IsFunction}
use Rattle.numbered_paths.specs.Views.{IsBare, IsNumbered, IsOf, IsUnknown, fact_at}
use Rattle.numbered_program.proofs.FrameKinds.{kinds}
use Rattle.numbered_program.proofs.ProgramParts.{AreGiven, function_of_rows, has_parts}
use Rattle.numbered_program.proofs.StandingFunctions.{function_stands}
use Rattle.numbered_program.proofs.ViewNumbers.{numbers}
use Rattle.numbered_program.specs.Rows.{IsBegun}
use Rattle.numbered_program.specs.Theorems.{RowsStandForPrograms}
use Rattle.numbered_program.specs.Views.{SaysIn, listed_at, views}
use Rattle.numbered_program.proofs.NumberedTuples.Numbers.{item_at, no_item}
use Rattle.numbered_program.proofs.NumberedTuples.TupleNumbers.{zero_of_none}
use Rattle.path_edges.proofs.Numbers.{have-numbers}
use Rattle.path_model.proofs.CheckerGraphs.Calls.{root-number}
use Rattle.path_model.specs.CheckerGraphs.Graphs.{function_at}
use Rattle.path_model.specs.CheckerModel.Choices.{State}
use Rattle.path_model.specs.CheckerModel.Happenings.{Function}
use Rattle.path_model.specs.CheckerModel.Reports.{Checker}
use Rattle.path_model.specs.CheckerPrograms.Roots.{IsRootFunction}
use Rattle.path_theory.specs.Facts.{FactOf, HasObject, NoObject}
use Rattle.path_theory.specs.Flows.{Starts, StartsNone, StartsUnknown}
use Rattle.row_flows.specs.Numbers.{item_numbered}
use Rattle.row_flows.specs.declared.tuples.NumberedTuple.{NumberedTuple}
use Rattle.typed_unit.specs.Texts.{Text}

-- ---- numbers up to that of the last item

item_or_none : {A : Type 0} (xs : List A) (i : ℕ) → i ≤ length xs → (i ≡ 0) ⊎ ((x : A) × (item_numbered xs i ≡ Some x))
item_or_none {A = A} xs i h = by (item_numbered xs i) refl
  where
    by : (q : Option A) → item_numbered xs i ≡ q → (i ≡ 0) ⊎ ((x : A) × (item_numbered xs i ≡ Some x))
    by None e = inl (zero_of_none xs i h e)
    by (Some x) e = inr (x, e)

numbered_within : {A : Type 0} (xs : List A) (i : ℕ) (x : A) → item_numbered xs i ≡ Some x → i ≤ length xs
numbered_within xs zero x e = absurd (no_item xs x e)
numbered_within xs (suc i) x e = let h = slice_get_within xs i x (sym (item_at xs (suc i) i (omega arith)) ∙ e) in omega (arith, h)

-- the tuple of an object of which nothing is known, in `start`
abbrev first_tuple : ℕ → NumberedTuple
first_tuple i = record { global = 0; state = 0; object = i }

module _ (c : Checker) (ts : List Text) (gs : List Graph) (lists : List (List Object)) (states : List State) (p : ProgramRows) (H : AreGiven c ts gs lists states p) where
  abbrev Numbered : ℕ → NumberedTuple → Type 0
  Numbered n t = IsNumbered (model_under c ts lists) (objects_under c ts lists) (graphs_under c ts gs lists) (views c ts gs lists states) n t

  abbrev FactAt : ℕ → NumberedTuple → FactOf Object State
  FactAt n t = fact_at (model_under c ts lists) (objects_under c ts lists) (graphs_under c ts gs lists) (views c ts gs lists states) n t

  abbrev StartsWith : Function → FactOf Object State → Type 0
  StartsWith f x = Starts (model_under c ts lists) (origins_under c ts lists) (objects_under c ts lists) f x

  fact_bare : (n : ℕ) (t : NumberedTuple) → t.object ≡ 0 → FactAt n t ≡ NoObject
  fact_bare n t z = bare_fact (model_under c ts lists) (objects_under c ts lists) (graphs_under c ts gs lists) (views c ts gs lists states) (numbers c ts gs lists states p H) n t z

  fact_unknown : (n : ℕ) (t : NumberedTuple) (o : Object) → item_numbered (listed_at lists n) t.object ≡ Some o → t.state ≡ 0 → FactAt n t ≡ HasObject o None
  fact_unknown n t o e z =
      fact_with (model_under c ts lists) (objects_under c ts lists) (graphs_under c ts gs lists) (views c ts gs lists states) n t o e
      ∙ ap (λ i. HasObject o (item_numbered states i)) z

  -- ---- what begins stands for what a root begins with

  starts_so : (n : ℕ) (f : Function) (t : NumberedTuple) → function_at ts n ≡ Some f → t.state ≡ 0 → t.object ≤ length (listed_at lists n) → Numbered n t × StartsWith f (FactAt n t)
  starts_so n f t named z h = elim (item_or_none (listed_at lists n) t.object h) [
    | inl e ↦ (IsBare e z, subst (StartsWith f) (sym (fact_bare n t e)) StartsNone)
    | inr w ↦ (
      IsOf w.0 w.1 (IsUnknown z),
      subst (StartsWith f) (sym (fact_unknown n t w.0 w.1 z)) (StartsUnknown w.0 ((numbers c ts gs lists states p H).followed n f t.object w.0 named w.1)),
    )
  ]

  abbrev BeginsAt : NumberedEdge → Type 0
  BeginsAt e = (f : Function) × (function_at ts e.context.function ≡ Some f) × IsRootFunction c.machine ts f × (e.block ≡ 0) × (e.tuple ≡ e.context.entry) × (e.tuple.global ≡ 0)
      × Numbered e.context.function e.tuple × StartsWith f (FactAt e.context.function e.tuple)

  begins_so : (e : NumberedEdge) → Contains p.begun.items e → BeginsAt e
  begins_so e m =
      let w = (H.rows_of.begun e).0 m in
      let s = starts_so e.context.function w.fn e.tuple w.named w.state w.object in
      (w.fn, w.named, (root-number c.machine ts H.apart e.context.function w.fn w.named).1 w.root, w.block, w.tuple, w.global, s.0, s.1)

  -- ---- and the other way round

  abbrev BegunWith : Function → FactOf Object State → Type 0
  BegunWith f x = (e : NumberedEdge) × Contains p.begun.items e × (function_at ts e.context.function ≡ Some f) × (FactAt e.context.function e.tuple ≡ x)

  begins_there : (n i : ℕ) (f : Function) → function_at ts n ≡ Some f → IsRootFunction c.machine ts f → i ≤ length (listed_at lists n) → Contains p.begun.items (first n (first_tuple i))
  begins_there n i f named root h =
      let is : IsBegun c ts gs lists states (first n (first_tuple i)) =
      record { fn = f; named = named; root = (root-number c.machine ts H.apart n f named).0 root; block = refl; tuple = refl; global = refl; state = refl; object = h }
      in
      (H.rows_of.begun (first n (first_tuple i))).1 is

  begun_so : (f : Function) (x : FactOf Object State) → IsRootFunction c.machine ts f → StartsWith f x → BegunWith f x
  begun_so f _ root StartsNone =
      let n = (have-numbers c ts gs).root f root in
      (first n.0 (first_tuple 0), begins_there n.0 0 f n.1 root (omega arith), n.1, fact_bare n.0 (first_tuple 0) refl)
  begun_so f _ root (StartsUnknown o a) =
      let n = (have-numbers c ts gs).root f root in
      let i = (numbers c ts gs lists states p H).numbered n.0 f o n.1 a in
      (first n.0 (first_tuple i.0), begins_there n.0 i.0 f n.1 root (numbered_within (listed_at lists n.0) i.0 o i.1), n.1, fact_unknown n.0 (first_tuple i.0) o i.1 refl)

  -- ---- all functions

  abbrev FunctionStands : ℕ → Function → FunctionRows → Type 0
  FunctionStands n f r =
      IsFunction (model_under c ts lists) (origins_under c ts lists) (objects_under c ts lists) (graphs_under c ts gs lists) (kinds c ts gs lists states p H) (views c ts gs lists states)
      (SaysIn c ts gs lists states n) n f r

  functions_so : (n : ℕ) (r : FunctionRows) → engine.function_at p n ≡ Some r → (f : Function) × (function_at ts n ≡ Some f) × FunctionStands n f r
  functions_so n r there =
      let f = function_of_rows c ts gs lists states p H n r there in
      let k = has_parts c ts gs lists states p H n f.0 f.1 in
      (f.0, f.1, function_stands c ts gs lists states p H n f.0 k.graph r f.1 k.here there (H.rows_of.functions n f.0 k.graph r f.1 k.here there))

  pub are_tables : AreTables (model_under c ts lists) (origins_under c ts lists) (objects_under c ts lists) (graphs_under c ts gs lists) (kinds c ts gs lists states p H) (views c ts gs lists states)
      (SaysIn c ts gs lists states) p
  are_tables = record {
    functions = functions_so;
    tables = λ n f named. let k = has_parts c ts gs lists states p H n f named in (k.rows, k.there);
    begins = begins_so;
    begun = begun_so;
  }

-- THE ROWS STAND for the program
pub rows_stand : RowsStandForPrograms
rows_stand t states p known are once rows =
    let c = checker_in t in
    let ts = texts_in t in
    let gs = graphs_in t in
    let lists = objects_in t in
    let H : AreGiven c ts gs lists states p = record { apart = apart-in t; count = known.tables.graphs.count; once = once; states_of = are; rows_of = rows } in
    record { numbers = numbers c ts gs lists states p H; kinds = kinds c ts gs lists states p H; tables = are_tables c ts gs lists states p H }
