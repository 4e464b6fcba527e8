-- THE FOLLOWED CALL at the end of a block. Functions and blocks have numbers.
use Rattle.std.specs.Prelude.{◌≡◌, ℕ, List, Some}
use Rattle.flow_graph.specs.CPaths.Building.{Graph}
use Rattle.path_model.specs.CheckerGraphs.Graphs.{flow_graphs, function_at}
use Rattle.path_model.specs.CheckerModel.Happenings.{Function, Site}
use Rattle.path_model.specs.CheckerModel.Reports.{Checker}
use Rattle.typed_unit.specs.Texts.{Text}

module _ (c : Checker) (ts : List Text) (gs : List Graph) where
  -- this block of this function ends in a call of this site, which is followed into the callee and goes on behind it
  pub record IsCall (function block callee behind : ℕ) (s : Site) : Type 0 where
    pub caller : Function
    pub named : function_at ts function ≡ Some caller
    pub called : Function
    pub numbered : function_at ts callee ≡ Some called
    pub ends : (flow_graphs c ts gs).Call caller block s called behind

  -- it ends in none
  abbrev pub HasNoCall : ℕ → ℕ → Type 0
  HasNoCall function block = (caller called : Function) (s : Site) (behind : ℕ) → function_at ts function ≡ Some caller
      → (flow_graphs c ts gs).Call caller block s called behind → ⊥
