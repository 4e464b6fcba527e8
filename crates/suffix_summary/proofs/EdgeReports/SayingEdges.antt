-- What firings say at the block of an edge is what is said there in the function that has its number.
use Rattle.std.proofs.Common.{◌≡◌, ◌∙◌, ℕ, List, [], ◌∷◌, map, Option, None, Some, Contains, slice_get, Bor, refl, sym, ap, subst}
use Rattle.std.specs.List.{filter_map}
use Rattle.std.specs.Option.{option_map}
use Rattle.std.proofs.lemmas.Option.{none-some, same_Some, slice_get-map}
use Rattle.block_flows.proofs.Fires.{gives-some, some-gives}
use Rattle.block_flows.specs.Events.{AreOfEvents}
use Rattle.c_objects.specs.Objects.{Object}
use Rattle.flow_graph.specs.CPaths.BlockGraphs.{events_at}
use Rattle.flow_graph.specs.CPaths.Building.{Graph}
use Rattle.flow_graph.specs.CPaths.Events.{Event}
use Rattle.flow_graph.specs.Seen.{graph_in}
use Rattle.function_tables.proofs.EngineTables.Places.{IsPlace, named, rules-none, rules-there}
use Rattle.function_tables.specs.EngineTables.Known.{IsFrame, checker_in, texts_in, graphs_in, objects_in}
use Rattle.function_tables.specs.declared.engine_tables.frames.Frame.{Frame}
use Rattle.function_tables.specs.declared.engine_tables.tables.Tables.{Tables}
use Rattle.function_tables.specs.declared.table.BlockTable.{BlockTable}
use Rattle.function_tables.specs.declared.table.FunctionTable.{FunctionTable}
use Rattle.least_set.proofs.Growing.{nothing}
use Rattle.least_set.specs.Logs.{IsExactly, SomeGives}
use Rattle.masked_paths.specs.Masked.{EventIn, masked_events}
use Rattle.numbered_engine.specs.Showing.{shown_at}
use Rattle.numbered_engine.specs.declared.edges.NumberedEdge.{NumberedEdge}
use Rattle.numbered_engine.specs.declared.program.ProgramRows.{ProgramRows}
use Rattle.numbered_program.specs.NumberedEvents.Saying.{Says, SaysAt}
use Rattle.numbered_program.specs.Views.{SaysIn, block_at, listed_at, swapped}
use Rattle.path_model.proofs.CheckerModel.Sources.{given}
use Rattle.path_model.specs.CheckerGraphs.Graphs.{flow_graphs, function_at}
use Rattle.path_model.specs.CheckerModel.Checkers.{model}
use Rattle.path_model.specs.CheckerModel.Choices.{State}
use Rattle.path_model.specs.CheckerModel.Happenings.{Function, Happening}
use Rattle.path_model.specs.CheckerModel.Reports.{Checker, report_of}
use Rattle.path_model.specs.CheckerPrograms.Texts.{function_of, happening}
use Rattle.report_model.specs.declared.report.Report.{Report}
use Rattle.row_flows.specs.Numbers.{item_numbered}
use Rattle.row_flows.specs.declared.behind.Firing.{Firing}
use Rattle.state_tuples.specs.AppliedRules.Applied.{Applied}
use Rattle.suffix_summary.proofs.EdgeReports.AtEvents.{of-unit}
use Rattle.suffix_summary.specs.EdgeReports.Said.{alternative_at, happening_at, said, said_at}
use Rattle.suffix_summary.specs.EdgeReports.Shown.{SaysAtEdge, ShowsIn}
use Rattle.type_rules.specs.Options.{if_there, ◌>?◌}
use Rattle.typed_unit.specs.declared.typed_unit.TypedUnit.{TypedUnit}

mapped : {A B : Type 0} (g : A → B) (o : Option A) (b : B) → option_map g o ≡ Some b → (a : A) × (o ≡ Some a) × (g a ≡ b)
mapped g None b h = cc
mapped g (Some a) b h = (a, refl, cc)

-- ---- what a firing says, as a relation

module _ (c : Checker) (f : Function) (followed : List Object) (hs : List Happening) (x : Firing) (r : Report) where
  abbrev pub SaysHere : Type 0
  SaysHere = Says c (masked_events (model c) f hs) followed x r

  abbrev in-function : Happening → EventIn Function Happening
  in-function h = record { fn = f; event = h }

  pub said-says : said c f followed hs x ≡ Some r → SaysHere
  said-says e =
      let g = given (slice_get hs x.event) (said_at c f followed x) r e in
      let s = given (alternative_at c f x.place g.0) (λ (a : Applied). report_of c g.0 f (item_numbered followed x.object) a.taken) r g.2 in
      record {
        event = record { fn = f; event = g.0 };
        among = slice_get-map in-function hs x.event ∙ ap (option_map in-function) g.1;
        says = record { alternative = s.0; stands = s.1; gives = s.2 };
      }

  pub says-said : SaysHere → said c f followed hs x ≡ Some r
  says-said w =
      let m = mapped in-function (slice_get hs x.event) w.event (sym (slice_get-map in-function hs x.event) ∙ w.among) in
      let s = subst (λ (y : EventIn Function Happening). SaysAt c y.event y.fn followed x r) (sym m.2) w.says in
      ap (λ (o : Option Happening). o >? said_at c f followed x) m.1
      ∙ ap (λ (o : Option Applied). o >? λ (a : Applied). report_of c m.0 f (item_numbered followed x.object) a.taken) s.stands
      ∙ s.gives

  -- nothing where there are no events
  pub none-said : AreOfEvents c.machine c.depth f hs [] → said c f followed hs x ≡ Some r → ⊥
  none-said a e = by hs a e
    where
      by : (es : List Happening) → AreOfEvents c.machine c.depth f es [] → (slice_get es x.event >? said_at c f followed x) ≡ Some r → ⊥
      by [] a e = cc
      by (h ∷ es) a e = a

-- ---- at a block, by the table of its function

module _ (t : Tables) (n : ℕ) (f : Frame) (frame : IsFrame t n f) (p : IsPlace t n f) (u : Bor TypedUnit) (at : slice_get t.program.now.units.items p.defined.place.file ≡ Some u) (b : ℕ) where
  abbrev c : Checker
  c = checker_in t

  abbrev fn : Function
  fn = function_of p.defined

  abbrev keys : List Object
  keys = f.objects.now.keys

  abbrev graph : Graph
  graph = graph_in f.table.now.graph.now

  abbrev number : ℕ
  number = swapped (graph_in f.table.now.graph.now).entry b

  abbrev pub events : List Event
  events = events_at (slice_get (graph_in f.table.now.graph.now).blocks (swapped (graph_in f.table.now.graph.now).entry b))

  abbrev pub here : List Happening
  here = map (happening_at u.now) (events_at (slice_get (graph_in f.table.now.graph.now).blocks (swapped (graph_in f.table.now.graph.now).entry b)))

  -- the block with the number, and the objects that are followed there
  block-is : block_at (graphs_in t) n b ≡ number
  block-is =
      ap (λ (o : Option Graph). if_there o b (λ (g : Graph). swapped g.entry b))
      (slice_get-map (λ (x : FunctionTable). graph_in x.graph.now) t.functions.now n ∙ ap (option_map (λ (x : FunctionTable). graph_in x.graph.now)) frame.table)

  listed-is : listed_at (objects_in t) n ≡ keys
  listed-is = ap (λ (o : Option (List Object)). if_there o [] (λ (os : List Object). os)) frame.objects

  -- its events, as they happen in the unit of the function
  in-unit : map (happening (texts_in t) fn) events ≡ here
  in-unit = of-unit t.program.now.units.items u fn events at

  events-are : here ≡ (flow_graphs c (texts_in t) (graphs_in t)).events fn (block_at (graphs_in t) n b)
  events-are =
      sym in-unit
      ∙ ap (λ (g : Graph). map (happening (texts_in t) fn) (events_at (slice_get g.blocks number))) (sym p.graph)
      ∙ ap (λ (k : ℕ). (flow_graphs c (texts_in t) (graphs_in t)).events fn k) (sym block-is)

  -- the rules of the block
  pub rules-are : (s : BlockTable) → slice_get f.table.now.blocks.items number ≡ Some s → AreOfEvents c.machine t.depth fn here s.rules.items
  rules-are s q =
      subst (λ (hs : List Happening). AreOfEvents c.machine t.depth fn hs s.rules.items) in-unit
      (rules-there c.machine t.depth (texts_in t) p.defined graph.blocks f.table.now.blocks.items number s p.blocks q)

  no-rules : slice_get f.table.now.blocks.items number ≡ None → AreOfEvents c.machine t.depth fn here []
  no-rules q =
      subst (λ (hs : List Happening). AreOfEvents c.machine t.depth fn hs []) in-unit
      (rules-none c.machine t.depth (texts_in t) p.defined graph.blocks f.table.now.blocks.items number p.blocks q)

  module _ (states : List State) where
    abbrev In : Firing → Report → Type 0
    In = SaysIn c (texts_in t) (graphs_in t) (objects_in t) states n b

    abbrev SaysWith : List Happening → List Object → Firing → Report → Type 0
    SaysWith hs os x r = Says c (masked_events (model c) fn hs) os x r

    says-in : (x : Firing) (r : Report) → said c fn keys here x ≡ Some r → In x r
    says-in x r e = record {
      fn = fn;
      named = named t n p.defined p.is;
      says =
          subst (λ (os : List Object). SaysWith ((flow_graphs c (texts_in t) (graphs_in t)).events fn (block_at (graphs_in t) n b)) os x r) (sym listed-is)
          (subst (λ (hs : List Happening). SaysWith hs keys x r) events-are (said-says c fn keys here x r e));
    }

    in-says : (x : Firing) (r : Report) → In x r → said c fn keys here x ≡ Some r
    in-says x r w =
        let same : w.fn ≡ fn = same_Some w.fn fn (sym w.named ∙ named t n p.defined p.is) in
        let there = subst (λ (z : Function). Says c (masked_events (model c) z ((flow_graphs c (texts_in t) (graphs_in t)).events z (block_at (graphs_in t) n b))) (listed_at (objects_in t) n) x r) same w.says in
        says-said c fn keys here x r
        (subst (λ (hs : List Happening). SaysWith hs keys x r) (sym events-are)
        (subst (λ (os : List Object). SaysWith ((flow_graphs c (texts_in t) (graphs_in t)).events fn (block_at (graphs_in t) n b)) os x r) listed-is there))

    -- EXACTLY WHAT FIRINGS SAY
    pub said-exactly : (firings : List Firing) (list : List Report) → list ≡ filter_map (said c fn keys here) firings → IsExactly list (SomeGives In firings)
    said-exactly firings list e = (
      λ r m. let g = gives-some (said c fn keys here) firings r (subst (λ l. Contains l r) e m) in (g.0, g.1, says-in g.0 r g.2),
      λ r s. subst (λ l. Contains l r) (sym e) (some-gives (said c fn keys here) firings s.0 r s.1 (in-says s.0 r s.2)),
    )

    -- nothing where there is no such block
    pub nothing-said : (firings : List Firing) → slice_get f.table.now.blocks.items number ≡ None → IsExactly [] (SomeGives In firings)
    nothing-said firings q = (
      λ r m. absurd (nothing r m),
      λ r s. absurd (none-said c fn keys here s.0 r (no-rules q) (in-says s.0 r s.2)),
    )

-- nothing in a function that isn't there
pub nowhere-said : (t : Tables) (states : List State) (e : NumberedEdge) (firings : List Firing) → function_at (texts_in t) e.context.function ≡ None
    → IsExactly [] (SomeGives (SaysAtEdge t states e) firings)
nowhere-said t states e firings none = (λ r m. absurd (nothing r m), λ r s. absurd (none-some (s.2).fn (sym none ∙ (s.2).named)))

-- ---- what an edge shows is what its firings say

pub shows-exactly : (t : Tables) (states : List State) (p : ProgramRows) (e : NumberedEdge) (firings : List Firing) (list : List Report) → IsExactly firings (Contains (shown_at p e))
    → IsExactly list (SomeGives (SaysAtEdge t states e) firings) → IsExactly list (ShowsIn t states p e)
shows-exactly t states p e firings list noted says = (
  λ r m. let s = says.0 r m in record { firing = s.0; noted = noted.0 s.0 s.1; says = s.2 },
  λ r w. says.1 r (w.firing, noted.1 w.firing w.noted, w.says),
)
