-- THE ROWS OF A PROGRAM, part by part: what its tables say, by number.
use Rattle.std.specs.Prelude.{◌≡◌, ◌↔◌, ◌≤◌, ℕ, true, List, [], ◌∷◌, length, map, slice_get, Contains, None, Some, Vec}
use Rattle.std.specs.Option.{option_map}
use Rattle.std.specs.declared.alloc.Global.{Global}
use Rattle.block_flows.specs.TupleFlows.Passed.{IsSite}
use Rattle.c_objects.specs.Objects.{Object}
use Rattle.c_tree.specs.Node.{Node}
use Rattle.numbered_program.specs.EventTables.Rows.{AreEventRows}
use Rattle.flow_graph.specs.CPaths.BlockGraphs.{events_at}
use Rattle.flow_graph.specs.CPaths.Building.{Graph}
use Rattle.flow_graph.specs.CPaths.Graphs as graphs
use Rattle.numbered_program.specs.NumberedCalls.Stands.{StandsForSites}
use Rattle.numbered_engine.specs.Program.{function_at}
use Rattle.numbered_engine.specs.declared.edges.NumberedEdge.{NumberedEdge}
use Rattle.numbered_engine.specs.declared.program.Block.{Block}
use Rattle.numbered_engine.specs.declared.program.Call.{Call}
use Rattle.numbered_engine.specs.declared.program.Ending.{Ending}
use Rattle.numbered_engine.specs.declared.program.Ending.TheVariants as ending
use Rattle.numbered_engine.specs.declared.program.FunctionRows.{FunctionRows}
use Rattle.numbered_engine.specs.declared.program.ProgramRows.{ProgramRows}
use Rattle.numbered_program.specs.NumberedEvents.Listed.{own_of}
use Rattle.numbered_program.specs.Views.{listed_at, swapped}
use Rattle.path_model.specs.CheckerGraphs.Graphs as program
use Rattle.path_model.specs.CheckerModel.Choices.{State}
use Rattle.path_model.specs.CheckerModel.Happenings.{Function}
use Rattle.path_model.specs.CheckerModel.Reports.{Checker}
use Rattle.path_model.specs.CheckerPrograms.Roots.{IsRoot, Leads, followed_into}
use Rattle.path_model.specs.CheckerPrograms.Texts.{functions_in, happening, site}
use Rattle.refine_restore.specs.declared.site.Site as code
use Rattle.typed_unit.specs.Texts.{Text}

module _ (c : Checker) (ts : List Text) (gs : List Graph) (lists : List (List Object)) (states : List State) where
  -- HOW A BLOCK ENDS in the function with this number, whose graph begins in this block
  pub data IsEndingOf (n first : ℕ) (f : Function) : graphs.Ending → Ending → Type 0 where
    LeadsOn : (targets : List ℕ) (bs : Vec ℕ Global) → bs.items ≡ map (swapped first) targets → IsEndingOf n first f (graphs.ToAny targets) (ending.Next bs)
    -- a call that isn't followed leads on
    PassesCall : (call : Node) (next : ℕ) (bs : Vec ℕ Global) → followed_into c.machine (site c.depth ts f call) ≡ None
        → bs.items ≡ swapped first next ∷ [] → IsEndingOf n first f (graphs.Calls call next) (ending.Next bs)
    -- one that is has what passes at its site
    FollowsCall : (call : Node) (next : ℕ) (h : Function) (by : Call) (s : code.Site) → followed_into c.machine (site c.depth ts f call) ≡ Some h
        → program.function_at ts by.callee ≡ Some h → by.behind ≡ swapped first next → IsSite c.depth s (site c.depth ts f call)
        → StandsForSites c.depth s (listed_at lists n) (listed_at lists by.callee) by → IsEndingOf n first f (graphs.Calls call next) (ending.Calls by)
    EndsFrame : IsEndingOf n first f graphs.Stops ending.Exit

  -- A BLOCK of this graph: the rows of its events, and how it ends
  pub record IsBlockOf (n : ℕ) (f : Function) (g : Graph) (b : graphs.Block) (s : Block) : Type 0 where
    pub rows : AreEventRows c.machine c.depth f (listed_at lists n) states (map (happening ts f) b.events) s.rows.rows.items
    pub ending : IsEndingOf n g.entry f b.ending s.ending

  -- A FUNCTION, with its graph
  pub record IsFunctionOf (n : ℕ) (f : Function) (g : Graph) (r : FunctionRows) : Type 0 where
    pub blocks : (b : ℕ) (s : Block) → slice_get r.blocks.items b ≡ Some s → (d : graphs.Block) × (slice_get g.blocks (swapped g.entry b) ≡ Some d) × IsBlockOf n f g d s
    pub missing : (b : ℕ) → slice_get r.blocks.items b ≡ None → slice_get g.blocks (swapped g.entry b) ≡ None
    pub own : r.own.items ≡ own_of (listed_at lists n)
    pub root : (r.is_root ≡ true) ↔ IsRoot (Leads c.machine ts) n

  -- AN EDGE WITH WHICH PATHS BEGIN: at the first block of a root, in `start`, with no object, or with an unknown one
  pub record IsBegun (e : NumberedEdge) : Type 0 where
    pub fn : Function
    pub named : program.function_at ts e.context.function ≡ Some fn
    pub root : IsRoot (Leads c.machine ts) e.context.function
    pub block : e.block ≡ 0
    pub tuple : e.tuple ≡ e.context.entry
    pub global : e.tuple.global ≡ 0
    pub state : e.tuple.state ≡ 0
    pub object : e.tuple.object ≤ length (listed_at lists e.context.function)

  -- ALL FUNCTIONS, and where paths begin
  pub record AreRowsOf (p : ProgramRows) : Type 0 where
    pub count : length p.functions.items ≡ length (functions_in ts)
    pub functions : (n : ℕ) (f : Function) (g : Graph) (r : FunctionRows) → program.function_at ts n ≡ Some f → slice_get gs n ≡ Some g → function_at p n ≡ Some r
        → IsFunctionOf n f g r
    pub begun : (e : NumberedEdge) → Contains p.begun.items e ↔ IsBegun e
