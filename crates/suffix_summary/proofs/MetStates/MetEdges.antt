-- What edges give is what rules bind where the edges meet their global states.
use Rattle.std.proofs.Common.{◌≡◌, ◌⊎◌, inl, inr, ℕ, Bool, true, false, true≢false, List, [], map, slice_get, Option, None, Some, refl, sym, ap, subst, ◌∙◌}
use Rattle.std.specs.Option.{option_map}
use Rattle.std.proofs.lemmas.Option.{none-some, same_Some, slice_get-map}
use Rattle.c_objects.specs.Objects.{IsObject}
use Rattle.flow_graph.specs.CPaths.BlockGraphs.{events_at}
use Rattle.flow_graph.specs.CPaths.Building.{Graph}
use Rattle.flow_graph.specs.CPaths.Graphs.{Block}
use Rattle.flow_graph.specs.Seen.{graph_in}
use Rattle.function_tables.proofs.EngineTables.Places.{there-too, missing-too}
use Rattle.function_tables.specs.Tables.{AreBlockTables, AreTables}
use Rattle.function_tables.specs.declared.table.FunctionTable.{FunctionTable}
use Rattle.least_set.specs.Logs.{Adds, IsExactly, SomeGives}
use Rattle.least_set.proofs.Growing.{adds_both, adds_none, adds_same, either, nothing}
use Rattle.masked_paths.specs.Met.{global_behind}
use Rattle.numbered_engine.specs.declared.edges.NumberedEdge.{NumberedEdge}
use Rattle.numbered_engine.specs.declared.program.ProgramRows.{ProgramRows}
use Rattle.numbered_program.specs.Views.{block_at, swapped}
use Rattle.path_model.proofs.CheckerGraphs.Numbers.{graph-at, one-number}
use Rattle.path_model.proofs.CheckerPrograms.Closed.{binds-object}
use Rattle.path_model.specs.CheckerGraphs.Graphs.{AreApartPlaces, flow_graphs, function_at, graph_at}
use Rattle.path_model.specs.CheckerGraphs.Members.{Member}
use Rattle.path_model.specs.CheckerModel.Checkers.{model}
use Rattle.path_model.specs.CheckerModel.Happenings.{Function, Happening}
use Rattle.path_model.specs.CheckerModel.Reports.{Checker}
use Rattle.path_model.specs.CheckerPrograms.Texts.{functions_in, function_of, happening}
use Rattle.suffix_summary.proofs.MetStates.AmongEvents.{among-at, split-at}
use Rattle.suffix_summary.proofs.MetStates.Gifts.{takes-gives}
use Rattle.suffix_summary.specs.MetStates.{StandsForKind, TakesUnknown, TakesAmong, GivesAmong, GivesBound, GivesInKind, IsBoundWhereMet, is_own_in}
use Rattle.type_rules.specs.Functions.{Defined}
use Rattle.type_rules.specs.Options.{if_there}
use Rattle.typed_unit.specs.Texts.{Text}

module _ (c : Checker) (ts : List Text) (apart : AreApartPlaces (functions_in ts)) where
  -- ---- an edge in frames of one kind, by the table of its function

  module _ (tables : List FunctionTable) (are : AreTables c.machine c.depth ts tables) (e : NumberedEdge) (k : Bool) where
    abbrev graphs : List Graph
    graphs = map (λ (t : FunctionTable). graph_in t.graph.now) tables

    -- the events of a block of a graph of this function
    abbrev events : Defined → List Block → ℕ → List Happening
    events d bs b = map (happening ts (function_of d)) (events_at (slice_get bs b))

    graph-of : (t : FunctionTable) (n : ℕ) → slice_get tables n ≡ Some t → slice_get graphs n ≡ Some (graph_in t.graph.now)
    graph-of t n at = slice_get-map (λ (x : FunctionTable). graph_in x.graph.now) tables n ∙ ap (option_map (λ (x : FunctionTable). graph_in x.graph.now)) at

    pub at-edge : (t : FunctionTable) (old new : List Member) → slice_get tables e.context.function ≡ Some t
        → ((d : Defined) (bs : List Block) → AreBlockTables c.machine c.depth ts d bs t.blocks.items
        → Adds (GivesAmong c (function_of d) k (events d bs (swapped (graph_in t.graph.now).entry e.block)) e.tuple.global e.context.function) old new)
        → Adds (GivesInKind c ts graphs e k) old new
    at-edge t old new at v = adds_same (v d.0 (graph_in t.graph.now).blocks (are.blocks e.context.function d.0 t d.1 at)) to from
      where
        n : ℕ
        n = e.context.function

        d : (x : Defined) × (slice_get (functions_in ts) n ≡ Some x)
        d = there-too graphs (functions_in ts) n (graph_in t.graph.now) are.graphs.count (graph-of t n at)

        fn : Function
        fn = function_of d.0

        b : ℕ
        b = swapped (graph_in t.graph.now).entry e.block

        same : graph_at ts graphs fn ≡ graph_in t.graph.now
        same = graph-at ts apart graphs n d.0 (graph_in t.graph.now) d.1 (graph-of t n at)

        block-is : block_at graphs n e.block ≡ b
        block-is = ap (λ (o : Option Graph). if_there o e.block (λ (g : Graph). swapped g.entry e.block)) (graph-of t n at)

        events-are : events d.0 (graph_in t.graph.now).blocks b ≡ (flow_graphs c ts graphs).events fn (block_at graphs n e.block)
        events-are =
            ap (λ (x : Graph). events d.0 x.blocks b) (sym same)
            ∙ ap (λ (z : ℕ). (flow_graphs c ts graphs).events fn z) (sym block-is)

        named : function_at ts n ≡ Some fn
        named = ap (option_map function_of) d.1

        to : (y : Member) → GivesAmong c fn k (events d.0 (graph_in t.graph.now).blocks b) e.tuple.global n y → GivesInKind c ts graphs e k y
        to y w = record {
          fn = fn;
          named = named;
          gives = subst (λ (hs : List Happening). GivesAmong c fn k hs e.tuple.global n y) events-are w;
        }

        from : (y : Member) → GivesInKind c ts graphs e k y → GivesAmong c fn k (events d.0 (graph_in t.graph.now).blocks b) e.tuple.global n y
        from y w =
            subst (λ (hs : List Happening). GivesAmong c fn k hs e.tuple.global n y) (sym events-are)
            (subst (λ (z : Function). GivesAmong c z k ((flow_graphs c ts graphs).events z (block_at graphs n e.block)) e.tuple.global n y) (same_Some w.fn fn (sym w.named ∙ named)) w.gives)

    -- nothing in a function that isn't there
    pub no-edge : (old : List Member) → slice_get tables e.context.function ≡ None → Adds (GivesInKind c ts graphs e k) old old
    no-edge old at = adds_none old (λ y w. none-some w.fn (sym missing ∙ w.named))
      where
        missing : function_at ts e.context.function ≡ None
        missing =
            ap (option_map function_of)
            (missing-too graphs (functions_in ts) e.context.function are.graphs.count (slice_get-map (λ (x : FunctionTable). graph_in x.graph.now) tables e.context.function ∙ ap (option_map (λ (x : FunctionTable). graph_in x.graph.now)) at))

  -- ---- in frames of all kinds for which it stands

  module _ (gs : List Graph) (p : ProgramRows) (e : NumberedEdge) where
    abbrev In : Bool → Member → Type 0
    In k = GivesInKind c ts gs e k

    -- of a called frame alone
    pub called-alone : (old new : List Member) → is_own_in p e ≡ false → Adds (In false) old new → Adds (GivesBound c ts gs p e) old new
    called-alone old new other v =
        adds_same v (λ y g. record { kind = false; stands = λ h. absurd (true≢false (sym h)); gives = g }) (λ y b. by y b.kind b.stands b.gives)
      where
        by : (y : Member) (k : Bool) → StandsForKind p e k → In k y → In false y
        by y false s g = g
        by y true s g = absurd (true≢false (sym (s refl) ∙ other))

    -- and of a root's own
    pub both-kinds : (old mid new : List Member) → is_own_in p e ≡ true → Adds (In false) old mid → Adds (In true) mid new → Adds (GivesBound c ts gs p e) old new
    both-kinds old mid new own v w =
        adds_both {R = GivesBound c ts gs p e} v w (λ y b. by y b.kind b.gives)
        (λ y g. record { kind = false; stands = λ h. absurd (true≢false (sym h)); gives = g })
        (λ y g. record { kind = true; stands = λ h. own; gives = g })
      where
        by : (y : Member) (k : Bool) → In k y → In false y ⊎ In true y
        by y false g = inl g
        by y true g = inr g

  -- ---- all edges

  module _ (gs : List Graph) (p : ProgramRows) (log : List NumberedEdge) where
    bound : (y : Member) → SomeGives (GivesBound c ts gs p) log y → IsBoundWhereMet c ts gs p log y
    bound y s =
        let e = s.0 in
        let w = s.2 in
        let g = w.gives in
        let b = block_at gs e.context.function e.block in
        let at = split-at c g.fn w.kind ((flow_graphs c ts gs).events g.fn b) e.tuple.global y.1 g.gives.1 in
        record {
          fn = g.fn;
          named = subst (λ n. function_at ts n ≡ Some g.fn) g.gives.0 g.named;
          event = at.event;
          kind = w.kind;
          global = global_behind (model c) g.fn w.kind at.before e.tuple.global;
          met = record {
            block = b;
            first = e.tuple.global;
            stands = record { edge = e; among = s.1; named = g.named; kind = w.stands; block = refl; global = refl };
            before = at.before;
            later = at.later;
            events = at.events;
            global = refl;
          };
          takes = at.takes;
        }

    given : (y : Member) → IsBoundWhereMet c ts gs p log y → SomeGives (GivesBound c ts gs p) log y
    given y b =
        let m = b.met in
        let s = m.stands in
        let e = s.edge in
        let here : TakesUnknown c b.fn b.kind b.event (global_behind (model c) b.fn b.kind m.before m.first) y.1 = subst (λ g. TakesUnknown c b.fn b.kind b.event g y.1) m.global b.takes in
        let among : TakesAmong c b.fn b.kind ((flow_graphs c ts gs).events b.fn m.block) m.first y.1 =
        subst (λ l. TakesAmong c b.fn b.kind l m.first y.1) (sym m.events) (among-at c b.fn b.kind m.before b.event m.later m.first y.1 here) in
        let placed : TakesAmong c b.fn b.kind ((flow_graphs c ts gs).events b.fn (block_at gs e.context.function e.block)) m.first y.1 =
        subst (λ z. TakesAmong c b.fn b.kind ((flow_graphs c ts gs).events b.fn z) m.first y.1) (sym s.block) among in (
          e,
          s.among,
          record {
            kind = b.kind;
            stands = s.kind;
            gives = record {
              fn = b.fn;
              named = s.named;
              gives = (
                one-number ts apart e.context.function y.0 b.fn s.named b.named,
                subst (λ z. TakesAmong c b.fn b.kind ((flow_graphs c ts gs).events b.fn (block_at gs e.context.function e.block)) z y.1) (sym s.global) placed,
              );
            };
          },
        )

    pub all-bound : (list : List Member) → Adds (SomeGives (GivesBound c ts gs p) log) [] list → IsExactly list (IsBoundWhereMet c ts gs p log)
    all-bound list v = (
      λ y m. elim (either v y m) [ inl n ↦ absurd (nothing y n) | inr s ↦ bound y s ],
      λ y b. v.added y (given y b),
    )

-- each is an object
pub bound-object : (c : Checker) (ts : List Text) (gs : List Graph) (p : ProgramRows) (log : List NumberedEdge) (y : Member) → IsBoundWhereMet c ts gs p log y → IsObject c.depth y.1
bound-object c ts gs p log y b = binds-object c b.fn b.event y.1 (takes-gives c b.fn b.kind b.event b.global y.1 b.takes).binds
