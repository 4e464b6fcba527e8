-- What is closed over the blocks of flow graphs is closed over the traces of their functions.
use Rattle.std.proofs.Common.{List, [], ◌∷◌, inl, inr}
use Rattle.path_theory.specs.Model.{Model}
use Rattle.path_theory.specs.Origins.{Origins, IsLocal}
use Rattle.path_theory.specs.Facts.{Objects}
use Rattle.path_theory.specs.FlowGraphs.{FlowGraphs, supergraph}
use Rattle.path_theory.specs.Relevant.{EventOf}
use Rattle.path_theory.proofs.BlockEvents.{IsIn, event_in_block, call_in_block}
use Rattle.masked_paths.specs.Enough.{IsEnough}
use Rattle.masked_paths.specs.Matched.{Matched, ClosedUnderMatched, Covers, StandsIn, ClosedOverBlocks, CoversOverBlocks}
use Rattle.masked_paths.proofs.MatchedObjects.{enough_of_matched}

stands : {E : Type 0} (e : E) (l : List E) → IsIn e l → StandsIn e l
stands e [] i = absurd i
stands e (d ∷ l) i = elim i [ inl w ↦ inl w | inr w ↦ inr (stands e l w) ]

module _ (M : Model) (G : FlowGraphs M) (L : Origins M) (P : Matched M) where
  -- an event of a trace stands in a block
  event_stands : {f : M.Fn} {e : M.Event} → EventOf M (supergraph M G) f e → (b : G.Block) × StandsIn e (G.events f b)
  event_stands {f = f} {e = e} i = let w = event_in_block M G i in (w.0, stands e (G.events f w.0) w.1)

  pub closed_over_blocks : ClosedOverBlocks M G L P → ClosedUnderMatched M (supergraph M G) L P
  closed_over_blocks C = record {
    binds = λ k g o x i d. let w = event_stands i in C.binds _ w.0 _ k g o x w.1 d;
    moves = λ w o b i d p. let v = event_stands i in C.moves _ v.0 _ w o b v.1 d p;
    enters = λ w c o i d p. let v = call_in_block M G i in C.enters _ _ v.0 v.1 _ w c o v.2 d p;
    comes_back = λ w o c d b i e p q j. let v = call_in_block M G i in C.comes_back _ _ v.0 v.1 _ w o c d b v.2 e p q j;
    hands_out = λ o d i p e. let v = call_in_block M G i in C.hands_out _ _ v.0 v.1 _ o d v.2 p e;
  }

  pub covers_over_blocks : (A : Objects M) → CoversOverBlocks M G L P A → Covers M (supergraph M G) L P A
  covers_over_blocks A V = record {
    known = λ w o p. V.known _ w o p;
    fires = λ k g o r i d. let w = event_stands i in V.fires _ w.0 _ k g o r w.1 d;
    handed = λ o c i d p. let v = call_in_block M G i in V.handed _ _ v.0 v.1 _ o c v.2 d p;
  }

  -- so it is enough to follow what covers it
  pub enough_over_blocks : IsLocal M L → (A : Objects M) → ClosedOverBlocks M G L P → CoversOverBlocks M G L P A
      → IsEnough M (supergraph M G) L A
  enough_over_blocks I A C V = enough_of_matched M (supergraph M G) L I P (closed_over_blocks C) A (covers_over_blocks A V)
