-- How long paths are, in events, calls and returns, and in how many steps a path takes a report.
-- A shortest path for a report is one of least length that takes it at its last event.
use Rattle.std.specs.Prelude.{ℕ, suc, ◌+◌, Bool}
use Rattle.path_theory.specs.Model.{Model}
use Rattle.path_theory.specs.Supergraph.{Supergraph}
use Rattle.path_theory.specs.Callers.{Callers}
use Rattle.path_theory.specs.Paths.{Path, Begin, Skip, Go, Call, Return, after}
use Rattle.path_theory.specs.Runs.{Run, Here, Skipped, Gone, Closed}
use Rattle.path_theory.specs.OpenFrames.{OpenFrames, RootFrame, CalledFrame}

module _ (M : Model) (K : Supergraph M) where
  abbrev pub path_length : {f : M.Fn} {k : Bool} {p : K.Place} {b : Callers M K} → Path M K f k p b → ℕ
  path_length (Begin r) = 0
  path_length (Skip P t) = path_length P
  path_length (Go P e t) = suc (path_length P)
  path_length (Call P s h t) = suc (path_length P)
  path_length (Return s P t) = suc (path_length P)

  -- of a run, the calls in it and the runs of their callees among its steps
  abbrev pub run_length : {f : M.Fn} {p : K.Place} → Run M K f p → ℕ
  run_length Here = 0
  run_length (Skipped R t) = run_length R
  run_length (Gone R e t) = suc (run_length R)
  run_length (Closed R s t C e) = suc (suc (run_length R + run_length C))

  -- of the frames up to the entry of the last one
  abbrev pub frames_length : {f : M.Fn} {k : Bool} {b : Callers M K} → OpenFrames M K f k b → ℕ
  frames_length (RootFrame r) = 0
  frames_length (CalledFrame O R s h t) = suc (frames_length O + run_length R)

  -- a path of this length takes the report at its last event
  pub data ReportedIn (r : M.Report) : ℕ → Type 0 where
    ReportOfIn : {f : M.Fn} {k : Bool} {p q : K.Place} {b : Callers M K} (P : Path M K f k p b) (e : M.Event)
        → K.Goes f p e q → (o : M.Obj) → M.Fires e f k (after M K P).global o (M.moved e (after M K P).here o) r
        → ReportedIn r (suc (path_length P))
    ReportOfGlobalIn : {f : M.Fn} {k : Bool} {p q : K.Place} {b : Callers M K} (P : Path M K f k p b) (e : M.Event)
        → K.Goes f p e q → M.FiresGlobal e f k (after M K P).global r → ReportedIn r (suc (path_length P))
