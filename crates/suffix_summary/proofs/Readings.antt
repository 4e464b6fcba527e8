-- THE EDGES OF ROWS THAT STAND FOR A PROGRAM READ AS ITS LOG: each stands for one entry, of each entry there is one, and no two stand for one.
use Rattle.std.proofs.Common.{◌≡◌, ◌∙◌, ℕ, List, [], ◌∷◌, Contains, Some, slice_get, refl, sym, ap, subst}
use Rattle.std.proofs.lemmas.Option.{same_Some}
use Rattle.std.specs.List.{AllZip}
use Rattle.std.specs.Prelude.{◌↔◌}
use Rattle.block_flows.specs.Masks.{graphs_under, model_under, objects_under, origins_under}
use Rattle.c_objects.specs.Objects.{Object}
use Rattle.flow_graph.specs.CPaths.Building.{Graph}
use Rattle.function_tables.proofs.EngineTables.Places.{apart-in}
use Rattle.function_tables.specs.EngineTables.Known.{AreKnown, checker_in, graphs_in, objects_in, texts_in}
use Rattle.function_tables.specs.declared.engine_tables.tables.Tables.{Tables}
use Rattle.function_tables.proofs.OneByOne.{goes-with, partner}
use Rattle.known_objects.proofs.RelevantSets.{also-followed, followed-all, relevant-closed, relevant-followed}
use Rattle.known_objects.specs.RelevantSets.{AreRelevant}
use Rattle.least_set.proofs.Growing.{at_place, place_of}
use Rattle.least_set.specs.Logs.{IsOnce}
use Rattle.numbered_engine.specs.Rules.{FollowsFrom, IsDerived}
use Rattle.numbered_engine.specs.declared.edges.NumberedEdge.{NumberedEdge}
use Rattle.numbered_engine.specs.declared.program.ProgramRows.{ProgramRows}
use Rattle.numbered_paths.proofs.DerivedEdges.{Stands, derived_stands}
use Rattle.numbered_paths.proofs.LeastLog.{edges_are_entries}
use Rattle.numbered_paths.proofs.SameNumbers.{same_tuple}
use Rattle.row_flows.proofs.Lists.{a_later, the_first}
use Rattle.numbered_paths.specs.Tables.{StandsIn}
use Rattle.numbered_paths.specs.Views.{AreNumbers, IsNumbered, Views, fact_at}
use Rattle.numbered_program.proofs.SwappedBlocks.{block_twice}
use Rattle.numbered_program.specs.Views.{SaysIn, block_at, views}
use Rattle.path_model.specs.CheckerGraphs.Graphs.{AreApartPlaces, flow_graphs}
use Rattle.path_model.specs.CheckerModel.Checkers.{model, origins}
use Rattle.path_model.specs.CheckerModel.Choices.{State}
use Rattle.path_model.specs.CheckerModel.Happenings.{Function}
use Rattle.path_model.specs.CheckerModel.Reports.{Checker}
use Rattle.path_model.specs.CheckerPrograms.Relevant.{Relevant}
use Rattle.path_model.specs.CheckerPrograms.Texts.{functions_in}
use Rattle.path_theory.proofs.Merged.{InSome}
use Rattle.path_theory.specs.Entries.{Entry, IsLeastLog}
use Rattle.path_theory.specs.Facts.{IsFollowed, Objects}
use Rattle.path_theory.specs.FlowGraphs.{FlowGraphs}
use Rattle.path_theory.specs.Merged.{Kinds}
use Rattle.path_theory.specs.Model.{Model}
use Rattle.path_theory.specs.Origins.{Origins}
use Rattle.report_model.specs.declared.report.Report.{Report}
use Rattle.row_flows.specs.declared.behind.Firing.{Firing}
use Rattle.suffix_summary.proofs.LogsOfCheckers.{checker_log_entries}
use Rattle.suffix_summary.specs.StandingRows.{AreStanding}
use Rattle.typed_unit.specs.Texts.{Text}
use Rattle.suffix_summary.specs.Entries.{EntryIn, IsEntry}
use Rattle.suffix_summary.specs.Reading.{ReadAsLog, StandsFor, fact_in}

-- ---- lists that go together one by one

module _ {A B : Type 0} (R : A → B → Type 0) (xs : List A) (ys : List B) (zip : AllZip R xs ys) where
  -- something goes with each of the second
  of-second : (y : B) → Contains ys y → (x : A) × Contains xs x × R x y
  of-second y m =
      let p = place_of ys y m in
      let x = partner R xs ys p.0 y zip p.2 in
      (x.0, at_place xs p.0 x.0 x.1, x.2)

  -- what goes with one of the first is there, where that is one thing
  in-second : ((x : A) (y z : B) → R x y → R x z → y ≡ z) → (x : A) (y : B) → Contains xs x → R x y → Contains ys y
  in-second one x y m r =
      let p = place_of xs x m in
      let z = goes-with R xs ys p.0 x zip p.2 in
      subst (λ (v : B). Contains ys v) (one x z.0 y z.2 r) (at_place ys p.0 z.0 z.1)

  -- and it stands there once, where it goes with one thing
  once-second : ((x z : A) (y : B) → Contains xs x → Contains xs z → R x y → R z y → x ≡ z) → IsOnce xs → IsOnce ys
  once-second one once = λ i j y a b.
      let u = partner R xs ys i y zip a in
      let v = partner R xs ys j y zip b in
      let same = one u.0 v.0 y (at_place xs i u.0 u.1) (at_place xs j v.0 v.1) u.2 v.2 in
      once i j v.0 (subst (λ (x : A). slice_get xs i ≡ Some x) same u.1) v.1

-- ---- the entry for which an edge stands

module _ (c : Checker) (ts : List Text) (gs : List Graph) (lists : List (List Object)) (states : List State) where
  abbrev entry-in : Function → NumberedEdge → EntryIn c ts gs
  entry-in f e = record {
    fn = f;
    global₀ = e.context.entry.global;
    fact₀ = fact_in c ts gs lists states e.context.function e.context.entry;
    block = block_at gs e.context.function e.block;
    global = e.tuple.global;
    fact = fact_in c ts gs lists states e.context.function e.tuple;
  }

  -- there is one
  one-entry : (e : NumberedEdge) (x y : EntryIn c ts gs) → StandsFor c ts gs lists states e x → StandsFor c ts gs lists states e y → x ≡ y
  one-entry e x y a b = λ i. record {
    fn = same_Some x.fn y.fn (sym a.function ∙ b.function) i;
    global₀ = (sym a.global₀ ∙ b.global₀) i;
    fact₀ = (sym a.fact₀ ∙ b.fact₀) i;
    block = (sym a.block ∙ b.block) i;
    global = (sym a.global ∙ b.global) i;
    fact = (sym a.fact ∙ b.fact) i;
  }

module _ (t : Tables) (p : ProgramRows) (edges : List NumberedEdge) (closed : (e : NumberedEdge) → FollowsFrom p edges e → Contains edges e) (only : (e : NumberedEdge) → Contains edges e → IsDerived p e)
    (once : IsOnce edges) (known : AreKnown t) (standing : AreStanding t p) (apart : AreApartPlaces (functions_in (texts_in t))) (h : AreRelevant (checker_in t) (texts_in t) (objects_in t)) where
  abbrev c : Checker
  c = checker_in t

  abbrev ts : List Text
  ts = texts_in t

  abbrev gs : List Graph
  gs = graphs_in t

  abbrev lists : List (List Object)
  lists = objects_in t

  abbrev N : Model
  N = model_under c ts lists

  abbrev NL : Origins N
  NL = origins_under c ts lists

  abbrev NA : Objects N
  NA = objects_under c ts lists

  abbrev NG : FlowGraphs N
  NG = graphs_under c ts gs lists

  abbrev kinds : Kinds N NG
  kinds = standing.stand.kinds

  abbrev V : Views N NG
  V = views c ts gs lists standing.states

  abbrev numbers : AreNumbers N NA NG V
  numbers = standing.stand.numbers

  abbrev says : ℕ → ℕ → Firing → Report → Type 0
  says = SaysIn c ts gs lists standing.states

  -- an edge of the list stands for an entry of the checker that follows these objects alone
  abbrev Among : Entry N NG → Type 0
  Among = StandsIn N NL NA NG kinds V edges

  least : IsLeastLog N NL NA NG kinds Among
  least = edges_are_entries N NL NA NG kinds V numbers says p standing.stand.tables edges closed only

  -- an edge of the list stands for an entry of the checker
  abbrev For : NumberedEdge → EntryIn c ts gs → Type 0
  For = StandsFor c ts gs lists standing.states

  -- ---- THE LIST OF ENTRIES

  stands : (e : NumberedEdge) → Contains edges e → Stands N NL NA NG kinds V numbers says p standing.stand.tables e
  stands e m = derived_stands N NL NA NG kinds V numbers says p standing.stand.tables (only e m)

  -- of edges that are among these
  read : (es : List NumberedEdge) → ((e : NumberedEdge) → Contains es e → Contains edges e) → (log : List (EntryIn c ts gs)) × AllZip For es log
  read [] m = ([], tt)
  read (e ∷ es) m =
      let s = stands e (m e (the_first e es)) in
      let r = read es (λ x l. m x (a_later e es x l)) in
      (entry-in c ts gs lists standing.states s.fn e ∷ r.0, (record { function = s.named; global₀ = refl; fact₀ = refl; block = refl; global = refl; fact = refl }, r.1))

  abbrev log : List (EntryIn c ts gs)
  log = (read edges (λ e m. m)).0

  reads : AllZip For edges log
  reads = (read edges (λ e m. m)).1

  -- ---- IT HAS EXACTLY those of the checker

  -- the same, as one of the checker that follows these objects alone
  abbrev masked : EntryIn c ts gs → Entry N NG
  masked x = record { fn = x.fn; global₀ = x.global₀; fact₀ = x.fact₀; block = x.block; global = x.global; fact = x.fact }

  to-masked : (e : NumberedEdge) (x : EntryIn c ts gs) → Contains edges e → For e x → Among (masked x)
  to-masked e x m s = record {
    edge = e;
    among = m;
    fn = x.fn;
    named = s.function;
    is = λ i. record { fn = x.fn; global₀ = s.global₀ i; fact₀ = s.fact₀ i; block = s.block i; global = s.global i; fact = s.fact i };
  }

  of-masked : (x : EntryIn c ts gs) (w : Among (masked x)) → For w.edge x
  of-masked x w = record {
    function = w.named ∙ ap (λ (y : Entry N NG). Some y.fn) w.is;
    global₀ = ap (λ (y : Entry N NG). y.global₀) w.is;
    fact₀ = ap (λ (y : Entry N NG). y.fact₀) w.is;
    block = ap (λ (y : Entry N NG). y.block) w.is;
    global = ap (λ (y : Entry N NG). y.global) w.is;
    fact = ap (λ (y : Entry N NG). y.fact) w.is;
  }

  is-realised : (x : EntryIn c ts gs) → Among (masked x) ↔ (InSome (model c) (origins c) (flow_graphs c ts gs) x.fn x.global₀ x.fact₀ x.block x.global x.fact × IsFollowed (model c) (objects_under c ts lists) x.fn x.fact)
  is-realised x =
      checker_log_entries c ts gs known.tables.graphs lists known.plain kinds Among least (relevant-closed c ts gs known.tables.graphs apart lists h) x.fn x.global₀ x.fact₀ x.block x.global x.fact

  is-entry : (x : EntryIn c ts gs) → Contains log x → IsEntry c ts gs x
  is-entry x m =
      let e = of-second For edges log reads x m in
      let w = (is-realised x).0 (to-masked e.0 x e.1 e.2) in
      record {
        realised = record { is_root = w.0.0; realised = w.0.1 };
        relevant = also-followed (model c) (objects_under c ts lists) (Relevant c ts) (relevant-followed c ts lists apart h) x.fn x.fact w.1;
      }

  in-log : (x : EntryIn c ts gs) → IsEntry c ts gs x → Contains log x
  in-log x w =
      let followed = also-followed (model c) (Relevant c ts) (objects_under c ts lists) (followed-all c ts gs known.tables.graphs apart lists h) x.fn x.fact w.relevant in
      let a = (is-realised x).1 ((w.realised.is_root, w.realised.realised), followed) in
      in-second For edges log reads (one-entry c ts gs lists standing.states) a.edge x a.among (of-masked x a)

  -- ---- EACH ONCE

  same-edge : (e z : NumberedEdge) (x : EntryIn c ts gs) → Contains edges e → Contains edges z → For e x → For z x → e ≡ z
  same-edge e z x m l a b =
      let s = stands e m in
      let u = stands z l in
      let k = z.context.function in
      let function : e.context.function ≡ k = numbers.functions e.context.function k x.fn a.function b.function in
      let entry = same_tuple N NA NG V numbers k e.context.entry z.context.entry (subst (λ (n : ℕ). IsNumbered N NA NG V n e.context.entry) function s.entered) u.entered (a.global₀ ∙ sym b.global₀)
      (ap (λ (n : ℕ). fact_at N NA NG V n e.context.entry) (sym function) ∙ a.fact₀ ∙ sym b.fact₀) in
      let tuple = same_tuple N NA NG V numbers k e.tuple z.tuple (subst (λ (n : ℕ). IsNumbered N NA NG V n e.tuple) function s.numbered) u.numbered (a.global ∙ sym b.global)
      (ap (λ (n : ℕ). fact_at N NA NG V n e.tuple) (sym function) ∙ a.fact ∙ sym b.fact) in
      let there : block_at gs k e.block ≡ block_at gs k z.block = ap (λ (n : ℕ). block_at gs n e.block) (sym function) ∙ a.block ∙ sym b.block in
      let block : e.block ≡ z.block = sym (block_twice gs k e.block) ∙ ap (block_at gs k) there ∙ block_twice gs k z.block in
      λ i. record { context = record { function = function i; entry = entry i }; block = block i; tuple = tuple i }

  -- THE EDGES READ AS THE LOG
  pub read-as-log : ReadAsLog c ts gs lists edges
  read-as-log = record {
    graphs = known.tables.graphs;
    states = standing.states;
    log = log;
    reads = reads;
    is = record { exact = (is-entry, in-log); once = once-second For edges log reads same-edge once };
  }

-- no two functions of tables stand at one place
pub read-as-log-known : (t : Tables) (p : ProgramRows) (edges : List NumberedEdge) → ((e : NumberedEdge) → FollowsFrom p edges e → Contains edges e) → ((e : NumberedEdge) → Contains edges e → IsDerived p e) → IsOnce edges
    → AreKnown t → AreStanding t p → AreRelevant (checker_in t) (texts_in t) (objects_in t) → ReadAsLog (checker_in t) (texts_in t) (graphs_in t) (objects_in t) edges
read-as-log-known t p edges closed only once known standing h = read-as-log t p edges closed only once known standing (apart-in t) h
