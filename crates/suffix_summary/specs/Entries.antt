-- THE ENTRIES OF A CHECKER over graphs of a program, and its log.
use Rattle.std.specs.Prelude.{List, Bool}
use Rattle.flow_graph.specs.CPaths.Building.{Graph}
use Rattle.least_set.specs.Logs.{IsExactly, IsOnce}
use Rattle.path_model.specs.CheckerGraphs.Graphs.{flow_graphs}
use Rattle.path_model.specs.CheckerModel.Checkers.{model, origins}
use Rattle.path_model.specs.CheckerModel.Reports.{Checker}
use Rattle.path_model.specs.CheckerPrograms.Relevant.{Relevant}
use Rattle.path_theory.specs.Entries.{Entry}
use Rattle.path_theory.specs.Facts.{IsFollowed}
use Rattle.path_theory.specs.FlowGraphs.{Head, supergraph}
use Rattle.path_theory.specs.Realised.{Realised}
use Rattle.typed_unit.specs.Texts.{Text}

-- a context of a function, a block of its graph, and a tuple at the head of this block
abbrev pub EntryIn : Checker → List Text → List Graph → Type 0
EntryIn c ts gs = Entry (model c) (flow_graphs c ts gs)

module _ (c : Checker) (ts : List Text) (gs : List Graph) where
  -- SOME PATH REALISES THE ENTRY: it reaches the head of the block in a frame of the function, which is a root's own or a called one, with the
  -- tuple's global state and the state of its object there; the frame was entered with the entry tuple, to whose object that object leads back
  pub record IsRealised (e : EntryIn c ts gs) : Type 0 where
    pub is_root : Bool
    pub realised : Realised (model c) (supergraph (model c) (flow_graphs c ts gs)) (origins c) e.fn is_root e.global₀ e.fact₀ (Head e.block) e.global e.fact

  -- AN ENTRY OF THE CHECKER: it is realised, and its tuple has no object or one that is relevant in the function
  pub record IsEntry (e : EntryIn c ts gs) : Type 0 where
    pub realised : IsRealised e
    pub relevant : IsFollowed (model c) (Relevant c ts) e.fn e.fact

  -- THE LOG has exactly these entries, each once
  pub record IsLog (log : List (EntryIn c ts gs)) : Type 0 where
    pub exact : IsExactly log IsEntry
    pub once : IsOnce log
