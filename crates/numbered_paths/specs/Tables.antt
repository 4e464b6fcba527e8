-- TABLES THAT STAND FOR A PROGRAM under a checker, and the entries that edges stand for.
use Rattle.std.specs.Prelude.{◌≡◌, ℕ, List, [], Contains, Bool, None, Some, Vec}
use Rattle.std.specs.declared.alloc.Global.{Global}
use Rattle.numbered_engine.specs.Program.{block_of, function_at, is_own_frame}
use Rattle.numbered_engine.specs.declared.edges.NumberedEdge.{NumberedEdge}
use Rattle.numbered_engine.specs.declared.program.Block.{Block}
use Rattle.numbered_engine.specs.declared.program.Call.{Call}
use Rattle.numbered_engine.specs.declared.program.Ending.{Ending}
use Rattle.numbered_engine.specs.declared.program.Ending.TheVariants as ending
use Rattle.numbered_engine.specs.declared.program.FunctionRows.{FunctionRows}
use Rattle.numbered_engine.specs.declared.program.ProgramRows.{ProgramRows}
use Rattle.numbered_paths.specs.Calls.{IsCall}
use Rattle.numbered_paths.specs.Rows.{StandFor}
use Rattle.numbered_paths.specs.Views.{IsNumbered, Views, fact_at}
use Rattle.path_theory.specs.Entries.{Entry}
use Rattle.path_theory.specs.Facts.{Fact, Objects}
use Rattle.path_theory.specs.FlowGraphs.{FlowGraphs}
use Rattle.path_theory.specs.Flows.{Starts}
use Rattle.path_theory.specs.Merged.{Kinds}
use Rattle.path_theory.specs.Model.{Model}
use Rattle.path_theory.specs.Origins.{Origins}
use Rattle.row_flows.specs.declared.behind.Firing.{Firing}
use Rattle.row_flows.specs.declared.tuples.NumberedTuple.{NumberedTuple}

module _ (M : Model) (L : Origins M) (A : Objects M) (G : FlowGraphs M) (C : Kinds M G) (V : Views M G) where
  -- HOW A BLOCK ENDS
  pub record IsEnding (n : ℕ) (f : M.Fn) (b : ℕ) (e : Ending) : Type 0 where
    pub leads : (bs : Vec ℕ Global) (d : ℕ) → e ≡ ending.Next bs → Contains bs.items d → G.Next f (V.block n b) (V.block n d)
    pub next : (d : ℕ) → G.Next f (V.block n b) (V.block n d) → (bs : Vec ℕ Global) × (e ≡ ending.Next bs) × Contains bs.items d
    pub calls : (c : Call) → e ≡ ending.Calls c → (h : M.Fn) × (s : M.Site) × (V.function c.callee ≡ Some h) × G.Call f (V.block n b) s h (V.block n c.behind) × IsCall M L A G V n c.callee f h s c
    pub call : (s : M.Site) (h : M.Fn) (d : ℕ) → G.Call f (V.block n b) s h (V.block n d) → (c : Call) × (e ≡ ending.Calls c) × (c.behind ≡ d) × (V.function c.callee ≡ Some h) × IsCall M L A G V n c.callee f h s c
    pub stops : e ≡ ending.Exit → G.Ends f (V.block n b)
    pub stop : G.Ends f (V.block n b) → e ≡ ending.Exit

  -- A FUNCTION'S TABLES; in which block what is noted gives which report is said by `report`
  pub record IsFunction (report : ℕ → Firing → M.Report → Type 0) (n : ℕ) (f : M.Fn) (r : FunctionRows) : Type 0 where
    pub first : V.block n 0 ≡ G.first f
    pub kind : (t : NumberedTuple) → IsNumbered M A G V n t → is_own_frame r t ≡ C.kind f (V.global t.global) (fact_at M A G V n t)
    pub rows : (b : ℕ) (s : Block) (k : Bool) → block_of r b ≡ Some s → StandFor M L A G V n f k r.own.items (report b) (G.events f (V.block n b)) s.rows.rows.items
    pub endings : (b : ℕ) (s : Block) → block_of r b ≡ Some s → IsEnding n f b s.ending
    -- a block that isn't there has no events, and leads nowhere
    pub no_events : (b : ℕ) → block_of r b ≡ None → G.events f (V.block n b) ≡ []
    pub no_next : (b : ℕ) (c : G.Block) → block_of r b ≡ None → G.Next f (V.block n b) c → ⊥
    pub no_call : (b : ℕ) (s : M.Site) (h : M.Fn) (c : G.Block) → block_of r b ≡ None → G.Call f (V.block n b) s h c → ⊥
    pub no_end : (b : ℕ) → block_of r b ≡ None → G.Ends f (V.block n b) → ⊥

  -- ALL TABLES
  pub record AreTables (report : ℕ → ℕ → Firing → M.Report → Type 0) (p : ProgramRows) : Type 0 where
    pub functions : (n : ℕ) (r : FunctionRows) → function_at p n ≡ Some r → (f : M.Fn) × (V.function n ≡ Some f) × IsFunction (report n) n f r
    pub tables : (n : ℕ) (f : M.Fn) → V.function n ≡ Some f → (r : FunctionRows) × (function_at p n ≡ Some r)
    pub begins : (e : NumberedEdge) → Contains p.begun.items e → (f : M.Fn) × (V.function e.context.function ≡ Some f) × G.IsRoot f × (e.block ≡ 0) × (e.tuple ≡ e.context.entry)
        × (V.global e.tuple.global ≡ M.start) × IsNumbered M A G V e.context.function e.tuple × Starts M L A f (fact_at M A G V e.context.function e.tuple)
    pub begun : (f : M.Fn) (t : Fact M) → G.IsRoot f → Starts M L A f t
        → (e : NumberedEdge) × Contains p.begun.items e × (V.function e.context.function ≡ Some f) × (fact_at M A G V e.context.function e.tuple ≡ t)

  -- THE ENTRY for which an edge stands, in its function
  abbrev pub entry_of : M.Fn → NumberedEdge → Entry M G
  entry_of f e = record {
    fn = f;
    global₀ = V.global e.context.entry.global;
    fact₀ = fact_at M A G V e.context.function e.context.entry;
    block = V.block e.context.function e.block;
    global = V.global e.tuple.global;
    fact = fact_at M A G V e.context.function e.tuple;
  }

  -- an edge of the list stands for the entry
  pub record StandsIn (log : List NumberedEdge) (x : Entry M G) : Type 0 where
    pub edge : NumberedEdge
    pub among : Contains log edge
    pub fn : M.Fn
    pub named : V.function edge.context.function ≡ Some fn
    pub is : entry_of fn edge ≡ x
