-- THE ROWS OF A FUNCTION STAND for it.
use Rattle.std.proofs.Common.{◌≡◌, ◌∙◌, sym, ap, subst, ℕ, Bool, List, map, Option, None, Some, slice_get}
use Rattle.std.proofs.lemmas.Option.{none-some}
use Rattle.block_flows.specs.Masks.{graphs_under, model_under, objects_under, origins_under}
use Rattle.c_objects.specs.Objects.{Object}
use Rattle.flow_graph.specs.CPaths.BlockGraphs.{events_at}
use Rattle.flow_graph.specs.CPaths.Building.{Graph}
use Rattle.flow_graph.specs.CPaths.Graphs as graphs
use Rattle.masked_paths.specs.Masked.{EventIn, SiteIn, masked_events}
use Rattle.numbered_engine.specs.Program as engine
use Rattle.numbered_engine.specs.declared.program.Block.{Block}
use Rattle.numbered_engine.specs.declared.program.FunctionRows.{FunctionRows}
use Rattle.numbered_engine.specs.declared.program.ProgramRows.{ProgramRows}
use Rattle.numbered_program.proofs.NumberedEvents.StandingRows.{block_stands}
use Rattle.numbered_program.specs.NumberedEvents.Listed.{own_of}
use Rattle.numbered_program.specs.NumberedEvents.Saying.{Says}
use Rattle.numbered_paths.specs.Rows.{StandFor}
use Rattle.numbered_paths.specs.Tables.{IsEnding, IsFunction}
use Rattle.numbered_paths.specs.Views.{Views}
use Rattle.numbered_program.proofs.FrameKinds.{kind_is, kinds}
use Rattle.numbered_program.proofs.FunctionNumbers.{graph_is, one_function}
use Rattle.numbered_program.proofs.ProgramParts.{AreGiven}
use Rattle.numbered_program.proofs.StandingEndings.{ending_stands}
use Rattle.numbered_program.proofs.SwappedBlocks.{block_in, zero_swapped}
use Rattle.numbered_program.proofs.ViewNumbers.{are_listed, are_views, numbers}
use Rattle.numbered_program.specs.Rows.{IsFunctionOf}
use Rattle.numbered_program.specs.Views.{SaysIn, block_at, listed_at, swapped, views}
use Rattle.path_edges.proofs.MaskedCalls.{call-of}
use Rattle.path_model.specs.CheckerGraphs.Graphs.{function_at, graph_at}
use Rattle.path_model.specs.CheckerModel.Checkers.{model}
use Rattle.path_model.specs.CheckerModel.Choices.{State}
use Rattle.path_model.specs.CheckerModel.Happenings.{Function, Happening, Site}
use Rattle.path_model.specs.CheckerModel.Reports.{Checker}
use Rattle.path_model.specs.CheckerPrograms.Texts.{happening}
use Rattle.path_theory.specs.Facts.{Objects}
use Rattle.path_theory.specs.FlowGraphs.{FlowGraphs}
use Rattle.path_theory.specs.Model.{Model}
use Rattle.path_theory.specs.Origins.{Origins}
use Rattle.report_model.specs.declared.report.Report.{Report}
use Rattle.row_flows.specs.declared.behind.Firing.{Firing}
use Rattle.row_flows.specs.declared.rows.EventRow.{EventRow}
use Rattle.typed_unit.specs.Texts.{Text}

-- what stands for events by what firings say, does by what says the same
same_reports : (M : Model) (L : Origins M) (A : Objects M) (G : FlowGraphs M) (V : Views M G) (n : ℕ) (f : M.Fn) (k : Bool) (own : List Bool) (P Q : Firing → M.Report → Type 0)
    → ((x : Firing) (r : M.Report) → P x r → Q x r) → ((x : Firing) (r : M.Report) → Q x r → P x r) → (es : List M.Event) (rows : List EventRow)
    → StandFor M L A G V n f k own P es rows → StandFor M L A G V n f k own Q es rows
same_reports M L A G V n f k own P Q to from es rows w = record {
  sound = w.sound;
  whole = w.whole;
  reported = λ t x r i m q. w.reported t x r i m (from x r q);
  noted = λ t r i s. let y = w.noted t r i s in (y.0, y.1, to y.0 r y.2);
}

module _ (c : Checker) (ts : List Text) (gs : List Graph) (lists : List (List Object)) (states : List State) (p : ProgramRows) (H : AreGiven c ts gs lists states p) (n : ℕ) (f : Function) (g : Graph)
    (r : FunctionRows) (named : function_at ts n ≡ Some f) (here : slice_get gs n ≡ Some g) (there : engine.function_at p n ≡ Some r) (is : IsFunctionOf c ts gs lists states n f g r) where
  -- ---- blocks by their numbers

  graph_there : graph_at ts gs f ≡ g
  graph_there = graph_is ts H.apart n f named gs g here

  block_there : (b : ℕ) (q : Option graphs.Block) → slice_get g.blocks (swapped g.entry b) ≡ q → slice_get (graph_at ts gs f).blocks (block_at gs n b) ≡ q
  block_there b q e =
      ap (λ (x : Graph). slice_get x.blocks (block_at gs n b)) graph_there ∙ ap (slice_get g.blocks) (block_in gs n g here b) ∙ e

  first_there : block_at gs n 0 ≡ (graph_at ts gs f).entry
  first_there = block_in gs n g here 0 ∙ zero_swapped g.entry ∙ sym (ap (λ (x : Graph). x.entry) graph_there)

  missing_there : (b : ℕ) → engine.block_of r b ≡ None → slice_get (graph_at ts gs f).blocks (block_at gs n b) ≡ None
  missing_there b e = block_there b None (is.missing b e)

  -- ---- the events of a block

  abbrev EventsAt : ℕ → List (EventIn Function Happening)
  EventsAt b = (graphs_under c ts gs lists).events f (block_at gs n b)

  abbrev StandAt : Bool → List Bool → (Firing → Report → Type 0) → List (EventIn Function Happening) → List EventRow → Type 0
  StandAt k own report es rows =
      StandFor (model_under c ts lists) (origins_under c ts lists) (objects_under c ts lists) (graphs_under c ts gs lists) (views c ts gs lists states) n f k own report es rows

  events_there : (b : ℕ) (q : Option graphs.Block) → slice_get (graph_at ts gs f).blocks (block_at gs n b) ≡ q → EventsAt b ≡ masked_events (model c) f (map (happening ts f) (events_at q))
  events_there b q e = ap (λ (z : Option graphs.Block). masked_events (model c) f (map (happening ts f) (events_at z))) e

  says_in : (b : ℕ) (x : Firing) (y : Report) → Says c (EventsAt b) (listed_at lists n) x y → SaysIn c ts gs lists states n b x y
  says_in b x y w = record { fn = f; named = named; says = w }

  in_says : (b : ℕ) (x : Firing) (y : Report) → SaysIn c ts gs lists states n b x y → Says c (EventsAt b) (listed_at lists n) x y
  in_says b x y w = subst (λ (h : Function). Says c ((graphs_under c ts gs lists).events h (block_at gs n b)) (listed_at lists n) x y) (one_function ts n w.fn f w.named named) w.says

  rows_there : (b : ℕ) (s : Block) (k : Bool) → engine.block_of r b ≡ Some s → StandAt k r.own.items (SaysIn c ts gs lists states n b) (EventsAt b) s.rows.rows.items
  rows_there b s k e =
      let w = is.blocks b s e in
      let hs = map (happening ts f) w.0.events in
      let own = own_of (listed_at lists n) in
      let rows = s.rows.rows.items in
      let N = numbers c ts gs lists states p H in
      let events : EventsAt b ≡ masked_events (model c) f hs = events_there b (Some w.0) (block_there b (Some w.0) w.1) in
      let stands : StandAt k own (Says c (masked_events (model c) f hs) (listed_at lists n)) (masked_events (model c) f hs) rows =
      block_stands c ts lists (graphs_under c ts gs lists) (views c ts gs lists states) n f (listed_at lists n) states (are_listed c ts gs lists states p H n f named) (are_views c ts gs lists states p H n)
      N named k hs rows w.2.rows
      in
      let at_block : StandAt k own (Says c (EventsAt b) (listed_at lists n)) (EventsAt b) rows =
      subst (λ (es : List (EventIn Function Happening)). StandAt k own (Says c es (listed_at lists n)) es rows) (sym events) stands
      in
      let owned : StandAt k r.own.items (Says c (EventsAt b) (listed_at lists n)) (EventsAt b) rows =
      subst (λ (bs : List Bool). StandAt k bs (Says c (EventsAt b) (listed_at lists n)) (EventsAt b) rows) (sym is.own) at_block
      in
      same_reports (model_under c ts lists) (origins_under c ts lists) (objects_under c ts lists) (graphs_under c ts gs lists) (views c ts gs lists states) n f k r.own.items
      (Says c (EventsAt b) (listed_at lists n)) (SaysIn c ts gs lists states n b) (says_in b) (in_says b) (EventsAt b) rows owned

  -- ---- its ending

  ending_there : (b : ℕ) (s : Block) → engine.block_of r b ≡ Some s
      → IsEnding (model_under c ts lists) (origins_under c ts lists) (objects_under c ts lists) (graphs_under c ts gs lists) (kinds c ts gs lists states p H) (views c ts gs lists states) n f b s.ending
  ending_there b s e =
      let w = is.blocks b s e in
      ending_stands c ts gs lists states (numbers c ts gs lists states p H) (kinds c ts gs lists states p H) n f g named here b w.0.events w.0.ending s.ending w.2.ending (block_there b (Some w.0) w.1)

  -- ---- a block that isn't there

  no_call : (b : ℕ) (z : SiteIn Function Site) (h : Function) (d : ℕ) → engine.block_of r b ≡ None → (graphs_under c ts gs lists).Call f (block_at gs n b) z h d → ⊥
  no_call b z h d e w =
      let of = call-of c ts gs lists f (block_at gs n b) z h d w in
      let k = of.call in
      none-some _ (sym (missing_there b e) ∙ k.2)

  -- THE FUNCTION'S ROWS STAND for it
  pub function_stands : IsFunction (model_under c ts lists) (origins_under c ts lists) (objects_under c ts lists) (graphs_under c ts gs lists) (kinds c ts gs lists states p H) (views c ts gs lists states)
      (SaysIn c ts gs lists states n) n f r
  function_stands = record {
    first = first_there;
    kind = λ t i. kind_is c ts gs lists states p H n f r named there t i;
    rows = rows_there;
    endings = ending_there;
    no_events = λ b e. events_there b None (missing_there b e);
    no_next = λ b d e w. none-some _ (sym (missing_there b e) ∙ w.2);
    no_call = λ b z h d e w. no_call b z h d e w;
    no_end = λ b e w. none-some _ (sym (missing_there b e) ∙ w.1);
  }
