-- The reports of the path edges are exactly those of all paths: those of some length on each side.
use Rattle.std.proofs.Common.{ℕ, ◌↔◌}
use Rattle.path_theory.specs.Model.{Model}
use Rattle.path_theory.specs.Supergraph.{Supergraph}
use Rattle.path_theory.specs.Paths.{Reported, ReportOf, ReportOfGlobal}
use Rattle.path_theory.specs.Origins.{Origins, IsLocal}
use Rattle.path_theory.specs.Facts.{Objects}
use Rattle.path_theory.specs.Tabulation.{Found, FoundObject, FoundGlobal}
use Rattle.path_theory.specs.Relevant.{IsClosed}
use Rattle.path_theory.specs.PathLengths.{ReportedIn, ReportOfIn, ReportOfGlobalIn}
use Rattle.path_theory.specs.FrameEdges.{FoundIn, FoundObjectIn, FoundGlobalIn}
use Rattle.path_theory.proofs.Assembly.{parts, assembled}
use Rattle.path_theory.proofs.ReportLengths.{reported_in, found_in}

module _ (M : Model) (K : Supergraph M) where
  -- a report of a path is one of a path of some length
  in_some : {r : M.Report} → Reported M K r → (n : ℕ) × ReportedIn M K r n
  in_some (ReportOf P e t o i) = (_, ReportOfIn P e t o i)
  in_some (ReportOfGlobal P e t i) = (_, ReportOfGlobalIn P e t i)

  of_length : {r : M.Report} {n : ℕ} → ReportedIn M K r n → Reported M K r
  of_length (ReportOfIn P e t o i) = ReportOf P e t o i
  of_length (ReportOfGlobalIn P e t i) = ReportOfGlobal P e t i

  module _ (L : Origins M) (A : Objects M) where
    found_some : {r : M.Report} → Found M K L A r → (n : ℕ) × FoundIn M K L A r n
    found_some (FoundObject D e t o x a v i) = let w = parts M K L A D in (_, FoundObjectIn w.begins w.edge e t o x a v i)
    found_some (FoundGlobal D e t i) = let w = parts M K L A D in (_, FoundGlobalIn w.begins w.edge e t i)

    found_of_length : {r : M.Report} {n : ℕ} → FoundIn M K L A r n → Found M K L A r
    found_of_length (FoundObjectIn B D e t o x a v i) = FoundObject (assembled M K L A B D) e t o x a v i
    found_of_length (FoundGlobalIn B D e t i) = FoundGlobal (assembled M K L A B D) e t i

module _ (M : Model) (K : Supergraph M) (L : Origins M) (I : IsLocal M L) (A : Objects M) where
  -- each report of a path edge is one of a path
  pub reported : (r : M.Report) → Found M K L A r → Reported M K r
  reported r w = let v = found_some M K L A w in of_length M K (reported_in M K L I A r v.0 v.1)

  module _ (Q : IsClosed M K L A) where
    -- each report of a path is one of a path edge
    pub found : (r : M.Report) → Reported M K r → Found M K L A r
    found r w = let v = in_some M K w in found_of_length M K L A (found_in M K L I A Q r v.0 v.1)

    pub reports : (r : M.Report) → Found M K L A r ↔ Reported M K r
    reports r = (reported r, found r)
