-- On every path each object with a known state is followed, and so is each that gives a report at its next event.
-- So nothing is lost by leaving out the objects that aren't followed.
use Rattle.std.proofs.Common.{◌≡◌, Bool, Some, refl, sym, ◌∙◌, ap}
use Rattle.path_theory.specs.Model.{Model}
use Rattle.path_theory.specs.Supergraph.{Supergraph}
use Rattle.path_theory.specs.Callers.{Callers}
use Rattle.path_theory.specs.Paths.{Path, after}
use Rattle.path_theory.specs.Origins.{Origins, IsLocal}
use Rattle.path_theory.specs.Facts.{Objects}
use Rattle.path_theory.specs.Relevant.{IsClosed}
use Rattle.path_theory.proofs.Splitting.{split}
use Rattle.path_theory.proofs.Known.{known_run, taken}
use Rattle.path_theory.proofs.FrameComplete.{begun_by}

module _ (M : Model) (K : Supergraph M) (L : Origins M) (I : IsLocal M L) (A : Objects M) (Q : IsClosed M K L A) where
  pub known_after : {f : M.Fn} {k : Bool} {p : K.Place} {b : Callers M K} (P : Path M K f k p b) (o : M.Obj) (x : M.State)
      → (after M K P).here o ≡ Some x → A f o
  known_after {k = k} P o x d =
      let w = split M K P in
      known_run M K L I A Q w.run k _ _ (begun_by M K L I A Q w.opened).known o x (ap (λ n. n.here o) (sym w.state) ∙ d)

  pub fires_after : {f : M.Fn} {k : Bool} {p q : K.Place} {b : Callers M K} (P : Path M K f k p b) (e : M.Event)
      → K.Goes f p e q → (o : M.Obj) (r : M.Report)
      → M.Fires e f k (after M K P).global o (M.moved e (after M K P).here o) r → A f o
  fires_after {k = k} P e t o r i =
      let w = split M K P in
      taken M K L I A Q w.run e t k (after M K P).global (after M K P).here (λ b x d. known_after P b x d) o (M.moved e (after M K P).here o) refl r i
