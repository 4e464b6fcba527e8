-- Where tables stand for a program: what stands at the end of an edge's block by them does so by the theory, and the other way round.
use Rattle.std.proofs.Common.{◌≡◌, sym, subst, ℕ, Some, Contains}
use Rattle.numbered_engine.specs.Program.{block_of, ends_in, function_at, is_own_frame}
use Rattle.numbered_engine.specs.declared.edges.NumberedEdge.{NumberedEdge}
use Rattle.numbered_engine.specs.declared.program.Block.{Block}
use Rattle.numbered_engine.specs.declared.program.FunctionRows.{FunctionRows}
use Rattle.numbered_engine.specs.declared.program.ProgramRows.{ProgramRows}
use Rattle.numbered_paths.specs.Tables.{AreTables, IsFunction, entry_of}
use Rattle.numbered_paths.specs.Views.{IsNumbered, Views, fact_at}
use Rattle.path_theory.proofs.SmallFacts.{some_some}
use Rattle.path_theory.specs.BlockEdges.{Crosses}
use Rattle.path_theory.specs.Entries.{EndsIn}
use Rattle.path_theory.specs.Facts.{Fact, Objects}
use Rattle.path_theory.specs.FlowGraphs.{FlowGraphs}
use Rattle.path_theory.specs.Merged.{Kinds}
use Rattle.path_theory.specs.Model.{Model}
use Rattle.path_theory.specs.Origins.{Origins}
use Rattle.row_flows.specs.declared.behind.Firing.{Firing}
use Rattle.row_flows.specs.declared.tuples.NumberedTuple.{NumberedTuple}

module _ (M : Model) (L : Origins M) (A : Objects M) (G : FlowGraphs M) (C : Kinds M G) (V : Views M G) (report : ℕ → ℕ → Firing → M.Report → Type 0) (p : ProgramRows)
    (T : AreTables M L A G C V report p) where
  -- the tables of a function stand for it
  pub stand_for : (n : ℕ) (r : FunctionRows) (f : M.Fn) → function_at p n ≡ Some r → V.function n ≡ Some f → IsFunction M L A G C V (report n) n f r
  stand_for n r f there named =
      let k = T.functions n r there in
      subst (λ h. IsFunction M L A G C V (report n) n h r) (some_some (V.function n) f k.0 named k.1) k.2

  -- and there are some
  pub record HasTables (n : ℕ) (f : M.Fn) : Type 0 where
    pub rows : FunctionRows
    pub there : function_at p n ≡ Some rows
    pub stand : IsFunction M L A G C V (report n) n f rows

  pub tables_of : (n : ℕ) (f : M.Fn) → V.function n ≡ Some f → HasTables n f
  tables_of n f named = let r = T.tables n f named in record { rows = r.0; there = r.1; stand = stand_for n r.0 f r.1 named }

  module _ (a : NumberedEdge) (f : M.Fn) (r : FunctionRows) (b : Block) (stand : IsFunction M L A G C V (report a.context.function) a.context.function f r) (there : block_of r a.block ≡ Some b)
      (entered : IsNumbered M A G V a.context.function a.context.entry) (numbered : IsNumbered M A G V a.context.function a.tuple) where
    -- what stands at the end of the block by the tables does by the theory
    pub ends_so : (u : NumberedTuple) → Contains (ends_in r b a.context.entry a.tuple) u
        → IsNumbered M A G V a.context.function u × EndsIn M L A G C (entry_of M L A G C V f a) (V.global u.global) (fact_at M A G V a.context.function u)
    ends_so u h =
        let w = (stand.rows a.block b (is_own_frame r a.context.entry) there).sound a.tuple u numbered h in (
          w.0,
          subst (λ k. Crosses M L A f k (G.events f (V.block a.context.function a.block)) (V.global a.tuple.global) (fact_at M A G V a.context.function a.tuple) (V.global u.global) (fact_at M A G V a.context.function u))
              (stand.kind a.context.entry entered) w.1,
        )

    -- and the other way round
    pub end_of : (i : M.Global) (v : Fact M) → EndsIn M L A G C (entry_of M L A G C V f a) i v
        → (u : NumberedTuple) × Contains (ends_in r b a.context.entry a.tuple) u × IsNumbered M A G V a.context.function u × (V.global u.global ≡ i) × (fact_at M A G V a.context.function u ≡ v)
    end_of i v h =
        (stand.rows a.block b (is_own_frame r a.context.entry) there).whole a.tuple i v numbered
        (subst (λ k. Crosses M L A f k (G.events f (V.block a.context.function a.block)) (V.global a.tuple.global) (fact_at M A G V a.context.function a.tuple) i v) (sym (stand.kind a.context.entry entered)) h)
