-- Functions that an edit leaves as they were: they have the same bodies in both programs, at places that correspond,
-- call only such functions, and have the same objects.
-- What their frames come to needn't be computed again.
use Rattle.std.specs.Prelude.{◌≡◌}
use Rattle.path_theory.specs.Model.{Model}
use Rattle.path_theory.specs.Supergraph.{Supergraph}
use Rattle.path_theory.specs.Facts.{Objects}

pub record Unchanged (M : Model) (K₁ K₂ : Supergraph M) (A₁ A₂ : Objects M) (U : M.Fn → Type 0)
    (at : K₁.Place → K₂.Place) : Type 0 where
  pub entry : (f : M.Fn) → U f → at (K₁.entry f) ≡ K₂.entry f
  pub skips : (f : M.Fn) → U f → (p q : K₁.Place) → K₁.Skips f p q → K₂.Skips f (at p) (at q)
  pub goes : (f : M.Fn) → U f → (p : K₁.Place) (e : M.Event) (q : K₁.Place) → K₁.Goes f p e q
      → K₂.Goes f (at p) e (at q)
  pub calls : (f : M.Fn) → U f → (p : K₁.Place) (s : M.Site) (h : M.Fn) (q : K₁.Place) → K₁.Calls f p s h q
      → K₂.Calls f (at p) s h (at q)
  pub callees : (f : M.Fn) → U f → (p : K₁.Place) (s : M.Site) (h : M.Fn) (q : K₁.Place) → K₁.Calls f p s h q → U h
  pub ends : (f : M.Fn) → U f → (p : K₁.Place) → K₁.Ends f p → K₂.Ends f (at p)
  pub objects : (f : M.Fn) → U f → (o : M.Obj) → A₁ f o → A₂ f o
