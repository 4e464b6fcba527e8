-- The state of one object after a run depends on that of its origin alone, and on the global state before.
-- So one object can be followed by itself, whatever states the others have.
use Rattle.std.proofs.Common.{◌≡◌, Bool, false, Option, Some, refl, sym, ◌∙◌, ap, option_and_then}
use Rattle.path_theory.specs.Model.{Model, Map}
use Rattle.path_theory.specs.Supergraph.{Supergraph}
use Rattle.path_theory.specs.Origins.{Origins, IsLocal, handed}
use Rattle.path_theory.specs.Runs.{Run, Here, Skipped, Gone, Closed, run_global, run_map, origin}
use Rattle.path_theory.proofs.SmallFacts.{then_same, handed_same}

module _ (M : Model) (K : Supergraph M) (L : Origins M) (I : IsLocal M L) where
  -- the state of an object after a run depends on that of its origin alone
  pub independent : {f : M.Fn} {p : K.Place} (R : Run M K f p) (k : Bool) (g : M.Global) (m n : Map M) (o : M.Obj)
      → ((b : M.Obj) → origin M K L R o ≡ Some b → m b ≡ n b) → run_map M K R k g m o ≡ run_map M K R k g n o
  independent Here k g m n o h = h o refl
  independent (Skipped R t) k g m n o h = independent R k g m n o h
  independent (Gone {f = f} R e t) k g m n o h =
      ap (M.choose e f k (run_global M K R k g) o)
      (I.moved e (run_map M K R k g m) o
      ∙ then_same (L.source e o) _ _ (λ a d. independent R k g m n a (λ b i. h b (ap (λ x. option_and_then (origin M K L R) x) d ∙ i)))
      ∙ sym (I.moved e (run_map M K R k g n) o))
  independent (Closed R s t C e) k g m n o h =
      let by : M.Obj → Option M.Obj = λ c. option_and_then (origin M K L R) (option_and_then (L.into s) (origin M K L C c)) in
      I.returned s (run_map M K C false (run_global M K R k g) (M.entered s (run_map M K R k g m))) (run_map M K R k g m) o
      ∙ handed_same (L.out s o) _ _ _ _
      (λ c d. independent C false (run_global M K R k g) (M.entered s (run_map M K R k g m)) (M.entered s (run_map M K R k g n)) c
      (λ b i. I.entered s (run_map M K R k g m) b
      ∙ then_same (L.into s b) _ _ (λ a j. independent R k g m n a
      (λ z l. h z (ap (λ x. handed x by (origin M K L R o)) d
      ∙ ap (λ x. option_and_then (origin M K L R) (option_and_then (L.into s) x)) i
      ∙ ap (λ x. option_and_then (origin M K L R) x) j ∙ l)))
      ∙ sym (I.entered s (run_map M K R k g n) b)))
      (λ d. independent R k g m n o (λ z l. h z (ap (λ x. handed x by (origin M K L R o)) d ∙ l)))
      ∙ sym (I.returned s (run_map M K C false (run_global M K R k g) (M.entered s (run_map M K R k g n))) (run_map M K R k g n) o)
