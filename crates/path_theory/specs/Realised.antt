-- Which tuples paths realise: some path has its last frame at the place, with this global state and this object's
-- state.
-- The tuple with which the frame was entered is found by following the object back, through closed calls too; it has
-- no object where that one was made unknown inside the frame.
use Rattle.std.specs.Prelude.{◌≡◌, Bool}
use Rattle.path_theory.specs.Model.{Model, Map}
use Rattle.path_theory.specs.Supergraph.{Supergraph}
use Rattle.path_theory.specs.Walks.{Walk}
use Rattle.path_theory.specs.Callers.{Callers}
use Rattle.path_theory.specs.Origins.{Origins}
use Rattle.path_theory.specs.Runs.{Run, run_global, run_map, origin, labels_of}
use Rattle.path_theory.specs.OpenFrames.{OpenFrames, at_entry}
use Rattle.path_theory.specs.Facts.{NoObject, HasObject, Fact, fact_of}

module _ (M : Model) (K : Supergraph M) (L : Origins M) where
  -- the fact t after a run that was entered with the fact t₀
  abbrev pub IsTracked : {f : M.Fn} {p : K.Place} → Run M K f p → Bool → M.Global → Map M → Fact M → Fact M → Type 0
  IsTracked R k g m t₀ NoObject = t₀ ≡ NoObject
  IsTracked R k g m t₀ (HasObject o x) = (run_map M K R k g m o ≡ x) × (t₀ ≡ fact_of (origin M K L R o) m)

  pub record Realised (f : M.Fn) (k : Bool) (g₀ : M.Global) (t₀ : Fact M) (p : K.Place) (g : M.Global)
      (t : Fact M) : Type 0 where
    pub below : Callers M K
    pub opened : OpenFrames M K f k below
    pub run : Run M K f p
    pub entry : (at_entry M K opened).global ≡ g₀
    pub global : run_global M K run k (at_entry M K opened).global ≡ g
    pub tracked : IsTracked run k (at_entry M K opened).global (at_entry M K opened).here t₀ t

-- the same at a place of a flow graph, by a path of the program and a walk in the graph with the trace of its last
-- frame
pub record RealisedByTraces (M : Model) (K₁ K₂ : Supergraph M) (L : Origins M) (f : M.Fn) (k : Bool) (g₀ : M.Global)
    (t₀ : Fact M) (q : K₂.Place) (g : M.Global) (t : Fact M) : Type 0 where
  pub place : K₁.Place
  pub realised : Realised M K₁ L f k g₀ t₀ place g t
  pub walk : Walk M K₂ f (labels_of M K₁ realised.run) q
