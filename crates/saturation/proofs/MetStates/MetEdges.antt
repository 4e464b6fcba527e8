-- What edges give is what rules bind where the edges meet their global states.
use Rattle.std.proofs.Common.{◌≡◌, inl, inr, ℕ, ◌<◌, Bool, List, [], ◌∷◌, ◌++◌, Contains, map, length, slice_get, None, Some, refl, sym, ap, subst, ◌∙◌}
use Rattle.std.specs.Option.{option_map}
use Rattle.std.proofs.lemmas.List.{length-map}
use Rattle.std.proofs.lemmas.Option.{none-some, same_Some, slice_get-map}
use Rattle.c_objects.specs.Objects.{Object, IsObject}
use Rattle.flow_graph.specs.CPaths.BlockGraphs.{events_at}
use Rattle.flow_graph.specs.CPaths.Building.{Graph}
use Rattle.flow_graph.specs.CPaths.Graphs.{Block}
use Rattle.flow_graph.specs.Seen.{graph_in}
use Rattle.function_tables.proofs.EngineTables.Places.{there-too, missing-too}
use Rattle.function_tables.specs.Tables.{AreBlockTables, AreTables}
use Rattle.function_tables.specs.declared.table.FunctionTable.{FunctionTable}
use Rattle.least_set.specs.Logs.{Adds, IsExactly, SomeGives}
use Rattle.least_set.proofs.Growing.{adds_none, adds_same, either, nothing}
use Rattle.masked_paths.specs.Met.{global_behind}
use Rattle.path_edges.specs.declared.edges.Edge.{Edge}
use Rattle.path_model.proofs.CheckerGraphs.Numbers.{graph-at, one-number}
use Rattle.path_model.proofs.CheckerPrograms.Closed.{binds-object}
use Rattle.path_model.specs.CheckerGraphs.Graphs.{AreApartPlaces, flow_graphs, function_at, graph_at}
use Rattle.path_model.specs.CheckerModel.Checkers.{model}
use Rattle.path_model.specs.CheckerModel.Happenings.{Function, Happening}
use Rattle.path_model.specs.CheckerModel.Reports.{Checker}
use Rattle.path_model.specs.CheckerPrograms.Texts.{functions_in, function_of, happening}
use Rattle.saturation.proofs.MetStates.AmongEvents.{among-at, split-at}
use Rattle.saturation.proofs.MetStates.Gifts.{takes-gives}
use Rattle.saturation.specs.MetStates.{TakesUnknown, TakesAmong, GivesAmong, GivesBound, IsBoundWhereMet}
use Rattle.path_model.specs.CheckerGraphs.Members.{Member}
use Rattle.type_rules.specs.Functions.{Defined}
use Rattle.typed_unit.specs.Texts.{Text}

module _ (c : Checker) (ts : List Text) (apart : AreApartPlaces (functions_in ts)) where
  -- ---- an edge, by the table of its function

  module _ (tables : List FunctionTable) (are : AreTables c.machine c.depth ts tables) (e : Edge) where
    abbrev graphs : List Graph
    graphs = map (λ (t : FunctionTable). graph_in t.graph.now) tables

    -- the events of a block of a graph of this function
    abbrev events : Defined → List Block → List Happening
    events d bs = map (happening ts (function_of d)) (events_at (slice_get bs e.block))

    graph-of : (t : FunctionTable) (n : ℕ) → slice_get tables n ≡ Some t → slice_get graphs n ≡ Some (graph_in t.graph.now)
    graph-of t n at = slice_get-map (λ (x : FunctionTable). graph_in x.graph.now) tables n ∙ ap (option_map (λ (x : FunctionTable). graph_in x.graph.now)) at

    pub at-edge : (t : FunctionTable) (old new : List Member) → slice_get tables e.context.function ≡ Some t
        → ((d : Defined) (bs : List Block) → AreBlockTables c.machine c.depth ts d bs t.blocks.items → Adds (GivesAmong c (function_of d) (events d bs) e.tuple.global e) old new)
        → Adds (GivesBound c ts graphs e) old new
    at-edge t old new at v = adds_same (v d.0 (graph_in t.graph.now).blocks (are.blocks e.context.function d.0 t d.1 at)) to from
      where
        n : ℕ
        n = e.context.function

        d : (x : Defined) × (slice_get (functions_in ts) n ≡ Some x)
        d = there-too graphs (functions_in ts) n (graph_in t.graph.now) are.graphs.count (graph-of t n at)

        fn : Function
        fn = function_of d.0

        same : graph_at ts graphs fn ≡ graph_in t.graph.now
        same = graph-at ts apart graphs n d.0 (graph_in t.graph.now) d.1 (graph-of t n at)

        named : function_at ts n ≡ Some fn
        named = ap (option_map function_of) d.1

        to : (y : Member) → GivesAmong c fn (events d.0 (graph_in t.graph.now).blocks) e.tuple.global e y → GivesBound c ts graphs e y
        to y w = record {
          fn = fn;
          named = named;
          gives = subst (λ (x : Graph). GivesAmong c fn (events d.0 x.blocks) e.tuple.global e y) (sym same) w;
        }

        from : (y : Member) → GivesBound c ts graphs e y → GivesAmong c fn (events d.0 (graph_in t.graph.now).blocks) e.tuple.global e y
        from y w =
            subst (λ (x : Graph). GivesAmong c fn (events d.0 x.blocks) e.tuple.global e y) same
            (subst (λ (z : Function). GivesAmong c z ((flow_graphs c ts graphs).events z e.block) e.tuple.global e y) (same_Some w.fn fn (sym w.named ∙ named)) w.gives)

    -- nothing in a function that isn't there
    pub no-edge : (old : List Member) → slice_get tables e.context.function ≡ None → Adds (GivesBound c ts graphs e) old old
    no-edge old at = adds_none old (λ y w. none-some w.fn (sym missing ∙ w.named))
      where
        missing : function_at ts e.context.function ≡ None
        missing =
            ap (option_map function_of)
            (missing-too graphs (functions_in ts) e.context.function are.graphs.count (slice_get-map (λ (x : FunctionTable). graph_in x.graph.now) tables e.context.function ∙ ap (option_map (λ (x : FunctionTable). graph_in x.graph.now)) at))

  -- ---- all edges

  module _ (gs : List Graph) (log : List Edge) where
    bound : (y : Member) → SomeGives (GivesBound c ts gs) log y → IsBoundWhereMet c ts gs log y
    bound y s =
        let e = s.0 in
        let w = s.2 in
        let at = split-at c w.fn e.is_root ((flow_graphs c ts gs).events w.fn e.block) e.tuple.global y.1 w.gives.1 in
        record {
          fn = w.fn;
          named = subst (λ n. function_at ts n ≡ Some w.fn) w.gives.0 w.named;
          event = at.event;
          kind = e.is_root;
          global = global_behind (model c) w.fn e.is_root at.before e.tuple.global;
          met = record {
            block = e.block;
            first = e.tuple.global;
            stands = record { edge = e; among = s.1; named = w.named; kind = refl; block = refl; global = refl };
            before = at.before;
            later = at.later;
            events = at.events;
            global = refl;
          };
          takes = at.takes;
        }

    given : (y : Member) → IsBoundWhereMet c ts gs log y → SomeGives (GivesBound c ts gs) log y
    given y b =
        let m = b.met in
        let s = m.stands in
        let e = s.edge in
        let here : TakesUnknown c b.fn b.kind b.event (global_behind (model c) b.fn b.kind m.before m.first) y.1 = subst (λ g. TakesUnknown c b.fn b.kind b.event g y.1) m.global b.takes in
        let among : TakesAmong c b.fn b.kind ((flow_graphs c ts gs).events b.fn m.block) m.first y.1 =
        subst (λ l. TakesAmong c b.fn b.kind l m.first y.1) (sym m.events) (among-at c b.fn b.kind m.before b.event m.later m.first y.1 here) in
        let placed : TakesAmong c b.fn b.kind ((flow_graphs c ts gs).events b.fn e.block) m.first y.1 = subst (λ z. TakesAmong c b.fn b.kind ((flow_graphs c ts gs).events b.fn z) m.first y.1) (sym s.block) among in
        let framed : TakesAmong c b.fn e.is_root ((flow_graphs c ts gs).events b.fn e.block) m.first y.1 = subst (λ z. TakesAmong c b.fn z ((flow_graphs c ts gs).events b.fn e.block) m.first y.1) (sym s.kind) placed in (
          e,
          s.among,
          record {
            fn = b.fn;
            named = s.named;
            gives = (
              one-number ts apart e.context.function y.0 b.fn s.named b.named,
              subst (λ z. TakesAmong c b.fn e.is_root ((flow_graphs c ts gs).events b.fn e.block) z y.1) (sym s.global) framed,
            );
          },
        )

    pub all-bound : (list : List Member) → Adds (SomeGives (GivesBound c ts gs) log) [] list → IsExactly list (IsBoundWhereMet c ts gs log)
    all-bound list v = (
      λ y m. elim (either v y m) [ inl n ↦ absurd (nothing y n) | inr s ↦ bound y s ],
      λ y b. v.added y (given y b),
    )

-- each is an object
pub bound-object : (c : Checker) (ts : List Text) (gs : List Graph) (log : List Edge) (y : Member) → IsBoundWhereMet c ts gs log y → IsObject c.depth y.1
bound-object c ts gs log y b = binds-object c b.fn b.event y.1 (takes-gives c b.fn b.kind b.event b.global y.1 b.takes).binds
