-- The followed call at the end of a block of a function, by what its tables say.
use Rattle.std.proofs.Common.{◌≡◌, ℕ, List, Option, None, Some, refl, sym, ap, subst, ◌∙◌}
use Rattle.std.specs.Prelude.{slice_get, length, ◌≤◌, IfSome}
use Rattle.std.proofs.lemmas.Option.{slice_get_past}
use Rattle.std.specs.Option.{option_map}
use Rattle.flow_graph.specs.CPaths.Building.{Graph}
use Rattle.flow_graph.specs.CPaths.Events.{Event}
use Rattle.flow_graph.specs.CPaths.Fragments.{Has}
use Rattle.flow_graph.specs.CPaths.Graphs.{Block, Ending, ToAny, Calls, Stops}
use Rattle.c_tree.specs.Node.{Node}
use Rattle.type_rules.specs.Functions.{Defined}
use Rattle.type_rules.specs.Options.{◌>?◌}
use Rattle.call_graph.specs.Followed.{followed}
use Rattle.path_model.specs.CheckerGraphs.Graphs.{function_at, graph_at}
use Rattle.path_model.proofs.CheckerGraphs.Calls.{followed-number}
use Rattle.path_model.proofs.CheckerGraphs.Units.{functions-are, place-filed}
use Rattle.path_model.specs.CheckerModel.Happenings.{Function, Site}
use Rattle.path_model.specs.CheckerModel.Reports.{Checker}
use Rattle.block_flows.specs.FollowedLists.{is_followed}
use Rattle.block_flows.specs.TupleFlows.Facts.{is_in}
use Rattle.c_objects.specs.Objects.{Object}
use Rattle.edge_rules.specs.WaitRules.CalledObjects.{AreOfCallee}
use Rattle.path_edges.proofs.MaskedCalls.{callee-is, own-callee}
use Rattle.path_model.specs.CheckerPrograms.Roots.{followed_into}
use Rattle.path_model.specs.CheckerPrograms.Texts.{functions_in, function_of, site, type_table}
use Rattle.typed_unit.specs.Texts.{Text}
use Rattle.function_tables.specs.declared.engine_tables.frames.Frame.{Frame}
use Rattle.function_tables.specs.declared.engine_tables.tables.Tables.{Tables}
use Rattle.function_tables.specs.EngineTables.Known.{checker_in, texts_in, graphs_in, objects_in}
use Rattle.function_tables.proofs.EngineTables.Places.{IsPlace, named, ending-there}
use Rattle.flow_graph.specs.Seen.{graph_in}
use Rattle.function_tables.specs.Tables.{AreBlockTables}
use Rattle.metal_tree.specs.MetalMachines.Machine.{Machine}
use Rattle.path_edges.specs.Edges.{no_site, site_at}
use Rattle.path_model.specs.CheckerGraphs.Ends.{call_in, call_at}
use Rattle.call_graph.specs.OfPrograms.Definitions.{definitions, trees_in}
use Rattle.block_flows.specs.TupleFlows.Passed.{IsSite}
use Rattle.edge_rules.specs.WaitRules.CallEnds.{if_call, ending_at}
use Rattle.edge_rules.specs.declared.wait_rules.followed_calls.FollowedCall.{FollowedCall}
use Rattle.edge_rules.specs.WaitRules.FollowedCalls.{HasNoCall}
use Rattle.edge_rules.specs.WaitRules.FoundCalls.{IsFound}
use Rattle.edge_rules.proofs.WaitRules.Callers.{CallAt, nowhere, one-function, same-ending, site-by-call}

no-ending : (e : Ending) → None ≡ Some e → ⊥
no-ending e h = cc

-- an end by whether it is a call
pub ends-in-call : (o : Option Ending) (call : Node) (next : ℕ) → Some (Calls call next) ≡ (o >? if_call) → o ≡ Some (Calls call next)
ends-in-call None call next e = cc
ends-in-call (Some (Calls m k)) call next e = sym e
ends-in-call (Some (ToAny bs)) call next e = cc
ends-in-call (Some Stops) call next e = cc

pub block-there : (bs : List Block) (b : ℕ) (call : Node) (next : ℕ) → Some (Calls call next) ≡ (ending_at bs b >? if_call) → (es : List Event) × Has bs b es (Calls call next)
block-there bs b call next e = ending-there bs b (Calls call next) (ends-in-call (ending_at bs b) call next e)

-- the call in which a block ends
pub call-there : (g : Graph) (b : ℕ) (call : Node) (next : ℕ) → Some (Calls call next) ≡ (ending_at g.blocks b >? if_call) → call_at g b ≡ Some call
call-there g b call next e = ap (λ o. o >? λ s. call_in s.ending) (block-there g.blocks b call next e).1

pub call-missing : (g : Graph) (b : ℕ) → None ≡ (ending_at g.blocks b >? if_call) → call_at g b ≡ None
call-missing g b e = by (slice_get g.blocks b) e
  where
    of-ending : (x : Ending) → None ≡ if_call x → call_in x ≡ None
    of-ending (Calls n next) e = cc
    of-ending (ToAny bs) e = refl
    of-ending Stops e = refl

    by : (o : Option Block) → None ≡ (option_map (λ s. s.ending) o >? if_call) → (o >? λ s. call_in s.ending) ≡ None
    by None e = refl
    by (Some s) e = of-ending s.ending e

-- what is said of the one that is found
pub if-found : {A : Type 0} (P Q : A → Type 0) (o : Option A) → ((a : A) → P a → Q a) → IfSome o P → IfSome o Q
if-found P Q (Some a) f h = f a h
if-found P Q None f h = tt

-- a function behind the last one isn't there
pub past-functions : (t : Tables) (n : ℕ) → length (definitions (trees_in t.program.now.units.items)) ≤ n → function_at (texts_in t) n ≡ None
past-functions t n h =
    ap (option_map function_of) (ap (λ (fs : List Defined). slice_get fs n) (functions-are t.program.now.units.items) ∙ slice_get_past (definitions (trees_in t.program.now.units.items)) n h)

-- no call stands in a function that isn't there
pub no-function : (c : Checker) (ts : List Text) (gs : List Graph) (n b : ℕ) → function_at ts n ≡ None → HasNoCall c ts gs n b
no-function c ts gs n b none caller called s behind named x = nowhere caller (sym none ∙ named)

module _ (t : Tables) (n b : ℕ) (f : Frame) (p : IsPlace t n f) where
  abbrev c : Checker
  c = checker_in t

  abbrev ts : List Text
  ts = texts_in t

  abbrev fn : Function
  fn = function_of p.defined

  abbrev g : Graph
  g = graph_in f.table.now.graph.now

  -- a call at the end of the block, by the graph of the table
  record EndsIn (called : Function) (s : Site) (behind : ℕ) : Type 0 where
    events : List Event
    call : Node
    ends : Has g.blocks b events (Calls call behind)
    site : s ≡ site t.depth ts fn call
    followed : followed_into c.machine s ≡ Some called

  ends-in : (caller called : Function) (s : Site) (behind : ℕ) → function_at ts n ≡ Some caller → CallAt c ts (graphs_in t) caller b s called behind → EndsIn called s behind
  ends-in caller called s behind there x =
      let y = subst (λ (z : Function). CallAt c ts (graphs_in t) z b s called behind) (one-function caller fn (sym there ∙ named t n p.defined p.is)) x in
      record { events = y.0; call = y.1; ends = subst (λ (z : Graph). Has z.blocks b y.0 (Calls y.1 behind)) p.graph y.2; site = y.3; followed = y.4 }

  -- the block ends in no call
  pub no-end : None ≡ (ending_at g.blocks b >? if_call) → HasNoCall c ts (graphs_in t) n b
  no-end none caller called s behind there x =
      let y = ends-in caller called s behind there x in
      no-ending (Calls y.call behind) (none ∙ ap (λ o. o >? if_call) (ap (option_map (λ (k : Block). k.ending)) y.ends))

  -- the call at its end, and what the table of the block says of it
  module _ (call : Node) (next : ℕ) (ends : Some (Calls call next) ≡ (ending_at g.blocks b >? if_call)) (callee : Option ℕ)
      (says : (m : Machine) (depth : ℕ) (ts : List Text) (d : Defined) (es : List Event) (n : Node) (k : ℕ) → AreBlockTables m depth ts d g.blocks f.table.now.blocks.items → Has g.blocks b es (Calls n k)
      → callee ≡ followed m (type_table ts d.file) d.file (functions_in ts) n) where
    has : (es : List Event) × Has g.blocks b es (Calls call next)
    has = block-there g.blocks b call next ends

    -- the function of a unit stands in its file
    filed : p.defined.place.file ≡ p.defined.file
    filed = place-filed (trees_in t.program.now.units.items) n p.defined (subst (λ fs. slice_get fs n ≡ Some p.defined) (functions-are t.program.now.units.items) p.is)

    into : followed_into c.machine (site t.depth ts fn call) ≡ option_map function_of (callee >? slice_get (functions_in ts))
    into =
        followed-number c.machine t.depth ts fn call
        ∙ ap (λ (k : ℕ). option_map function_of (followed c.machine (type_table ts k) k (functions_in ts) call >? slice_get (functions_in ts))) filed
        ∙ ap (λ o. option_map function_of (o >? slice_get (functions_in ts))) (sym (says c.machine t.depth ts p.defined has.0 call next p.blocks has.1))

    -- the call isn't followed
    pub not-followed : option_map function_of (callee >? slice_get (functions_in ts)) ≡ None → HasNoCall c ts (graphs_in t) n b
    not-followed none caller called s behind there x =
        let y = ends-in caller called s behind there x in
        let same = same-ending g.blocks b y.events has.0 y.call call behind next y.ends has.1 in
        nowhere called
        (sym none ∙ sym into ∙ ap (λ (z : Node). followed_into c.machine (site t.depth ts fn z)) (sym same.0) ∙ ap (followed_into c.machine) (sym y.site) ∙ y.followed)

    -- it is, and this is what is known of it
    pub found : (k : FollowedCall) (h : Frame) (q : IsPlace t k.callee h) → callee ≡ Some k.callee → next ≡ k.behind → f.objects.now ≡ k.caller_objects.now → h.objects.now ≡ k.callee_objects.now
        → IsSite t.depth k.site (site t.depth ts fn call) → IsFound t n b k
    found k h q to behind own objects passes =
        let callees = into ∙ ap (λ o. option_map function_of (o >? slice_get (functions_in ts))) to ∙ named t k.callee q.defined q.is in
        let block = subst (λ (z : Graph). Has z.blocks b has.0 (Calls call next)) (sym p.graph) has.1 in
        record {
          site = site t.depth ts fn call;
          passes = passes;
          call = record {
            caller = fn;
            named = named t n p.defined p.is;
            called = function_of q.defined;
            numbered = named t k.callee q.defined q.is;
            ends = (has.0, call, subst (λ (m : ℕ). Has (graph_at ts (graphs_in t) fn).blocks b has.0 (Calls call m)) behind block, refl, callees);
          };
          here = λ o. p.follows o ∙ ap (λ os. is_in os.keys o) own;
          there = λ o. q.follows o ∙ ap (λ os. is_in os.keys o) objects;
        }

-- the site of a waiter at the block, by the call in which it ends
module _ (t : Tables) (n b : ℕ) (f : Frame) (p : IsPlace t n f) where
  pub site-at-call : (call : Node) (next : ℕ) → Some (Calls call next) ≡ (ending_at (graph_in f.table.now.graph.now).blocks b >? if_call)
      → site_at t.depth (texts_in t) (graphs_in t) n b ≡ site t.depth (texts_in t) (function_of p.defined) call
  site-at-call call next e =
      site-by-call (checker_in t) (texts_in t) (graphs_in t) n b (function_of p.defined) (Some call) (named t n p.defined p.is)
      (ap (λ (g : Graph). call_at g b) p.graph ∙ call-there (graph_in f.table.now.graph.now) b call next e)

  pub site-at-none : None ≡ (ending_at (graph_in f.table.now.graph.now).blocks b >? if_call) → site_at t.depth (texts_in t) (graphs_in t) n b ≡ no_site
  site-at-none e =
      site-by-call (checker_in t) (texts_in t) (graphs_in t) n b (function_of p.defined) None (named t n p.defined p.is)
      (ap (λ (g : Graph). call_at g b) p.graph ∙ call-missing (graph_in f.table.now.graph.now) b e)

-- the objects that are followed in the callee, by the call in which the block ends
module _ (t : Tables) (n b : ℕ) (f : Frame) (p : IsPlace t n f) where
  abbrev own : Function
  own = function_of p.defined

  abbrev Followed : Function → List Object → Type 0
  Followed g os = (o : Object) → is_followed (texts_in t) (objects_in t) g o ≡ is_in os o

  -- none is called, or the call isn't followed: they are those of the function itself
  own-objects : followed_into (checker_in t).machine (site_at t.depth (texts_in t) (graphs_in t) n b) ≡ None → AreOfCallee t n b f.objects.now.keys
  own-objects none = subst (λ g. Followed g f.objects.now.keys) (sym (own-callee (checker_in t) (texts_in t) (graphs_in t) n b own (named t n p.defined p.is) none)) p.follows

  pub without-call : None ≡ (ending_at (graph_in f.table.now.graph.now).blocks b >? if_call) → AreOfCallee t n b f.objects.now.keys
  without-call e = own-objects (ap (followed_into (checker_in t).machine) (site-at-none t n b f p e))

  module _ (call : Node) (next : ℕ) (ends : Some (Calls call next) ≡ (ending_at (graph_in f.table.now.graph.now).blocks b >? if_call)) where
    at-site : followed_into (checker_in t).machine (site_at t.depth (texts_in t) (graphs_in t) n b) ≡ followed_into (checker_in t).machine (site t.depth (texts_in t) own call)
    at-site = ap (followed_into (checker_in t).machine) (site-at-call t n b f p call next ends)

    pub call-passed : followed_into (checker_in t).machine (site t.depth (texts_in t) own call) ≡ None → AreOfCallee t n b f.objects.now.keys
    call-passed none = own-objects (at-site ∙ none)

    pub call-followed : (k : ℕ) (h : Frame) (q : IsPlace t k h) → followed_into (checker_in t).machine (site t.depth (texts_in t) own call) ≡ function_at (texts_in t) k
        → AreOfCallee t n b h.objects.now.keys
    call-followed k h q into =
        subst (λ g. Followed g h.objects.now.keys)
        (sym (callee-is (checker_in t) (texts_in t) (graphs_in t) n b (function_of q.defined) (at-site ∙ into ∙ named t k q.defined q.is))) q.follows
