-- Each frame edge is a run of its length, which fits wherever the frame begins with its entry tuple; and each
-- beginning is that of open frames.
use Rattle.std.proofs.Common.{◌≡◌, ℕ, suc, ◌+◌, arith, Bool, false, None, refl, sym, ◌∙◌, ap, subst}
use Rattle.path_theory.specs.Model.{Model, Map}
use Rattle.path_theory.specs.Supergraph.{Supergraph}
use Rattle.path_theory.specs.Callers.{Callers, NoCaller}
use Rattle.path_theory.specs.Origins.{Origins, IsLocal}
use Rattle.path_theory.specs.Runs.{Run, Here, Skipped, Gone, Closed, run_global, run_map}
use Rattle.path_theory.specs.OpenFrames.{OpenFrames, RootFrame, CalledFrame, at_entry}
use Rattle.path_theory.specs.Facts.{NoObject, HasObject, Fact, Objects}
use Rattle.path_theory.specs.Flows.{Starts, StartsNone, StartsUnknown, CallFlow}
use Rattle.path_theory.specs.Realised.{IsTracked}
use Rattle.path_theory.specs.PathLengths.{run_length, frames_length}
use Rattle.path_theory.specs.FrameEdges.{FrameEdge, AtEntryIn, AlongSkipIn, AlongEventIn, OverCallIn, AroundCallIn, Begins, BeginsRoot, BeginsCall}
use Rattle.path_theory.proofs.Tracking.{tracked_skip, tracked_go, tracked_call, tracked_return, tracked_saved}

sum_same : {a b n m : ℕ} → a ≡ n → b ≡ m → suc (suc (a + b)) ≡ suc (suc (n + m))
sum_same d e = omega arith

plus_same : {a b n m : ℕ} → a ≡ n → b ≡ m → suc (a + b) ≡ suc (n + m)
plus_same d e = omega arith

module _ (M : Model) (K : Supergraph M) (L : Origins M) (I : IsLocal M L) (A : Objects M) where
  -- a map has the fact
  abbrev pub Matches : Fact M → Map M → Type 0
  Matches NoObject m = Unit {0}
  Matches (HasObject o x) m = m o ≡ x

  here_match : (f : M.Fn) (g : M.Global) (m : Map M) (u : Fact M) → IsTracked M K L (Here {f = f}) false g m u u
      → Matches u m
  here_match f g m NoObject w = tt
  here_match f g m (HasObject o x) w = w.0

  here_tracked : (f : M.Fn) (k : Bool) (g : M.Global) (m : Map M) (t : Fact M) → Matches t m
      → IsTracked M K L (Here {f = f}) k g m t t
  here_tracked f k g m NoObject w = refl
  here_tracked f k g m (HasObject o x) w = (w, ap (HasObject o) (sym w))

  -- a run of this length, which fits wherever the frame begins
  pub record Fits (f : M.Fn) (k : Bool) (g₀ : M.Global) (t₀ : Fact M) (p : K.Place) (g : M.Global) (t : Fact M)
      (n : ℕ) : Type 0 where
    pub run : Run M K f p
    pub length : run_length M K run ≡ n
    pub global : run_global M K run k g₀ ≡ g
    pub tracked : (m : Map M) → Matches t₀ m → IsTracked M K L run k g₀ m t₀ t

  flow_match : {f h : M.Fn} {p : K.Place} (R : Run M K f p) (s : M.Site) (k : Bool) (g : M.Global) (m : Map M)
      (t₀ : Fact M) {t : Fact M} (u : Fact M)
      → CallFlow M L A s h t u → IsTracked M K L R k g m t₀ t → Matches u (M.entered s (run_map M K R k g m))
  flow_match {h = h} R s k g m t₀ u a w = here_match h g (M.entered s (run_map M K R k g m)) u (tracked_call M K L I A R s k g g m t₀ a w)

  pub fits : {f : M.Fn} {k : Bool} {g₀ g : M.Global} {t₀ t : Fact M} {p : K.Place} {n : ℕ}
      → FrameEdge M K L A f k g₀ t₀ p g t n → Fits f k g₀ t₀ p g t n
  fits (AtEntryIn {f = f} {k = k} {g = g} {t = t} a) = record { run = Here; length = refl; global = refl; tracked = λ m w. here_tracked f k g m t w }
  fits (AlongSkipIn D t) = let w = fits D in record { run = Skipped w.run t; length = w.length; global = w.global; tracked = λ m a. tracked_skip M K L I A w.run t _ _ m _ _ (w.tracked m a) }
  fits (AlongEventIn {f = f} {k = k} {g₀ = g₀} {g = g} {t₀ = t₀} D e t a) =
      let w = fits D in
      record { run = Gone w.run e t; length = ap suc w.length; global = ap (M.next_global e f k) w.global; tracked = λ m b. tracked_go M K L I A w.run e t k g₀ g m t₀ a w.global (w.tracked m b) }
  fits (OverCallIn {k = k} {g₀ = g₀} {g = g} {t₀ = t₀} {u = u} D s t a C e b) =
      let w = fits D in
      let v = fits C in
      record {
        run = Closed w.run s t v.run e;
        length = sum_same w.length v.length;
        global = ap (run_global M K v.run false) w.global ∙ v.global;
        tracked = λ m c. tracked_return M K L I A w.run s t v.run e k g₀ g m (M.entered s (run_map M K w.run k g₀ m)) t₀ a b w.global (w.tracked m c)
            (v.tracked (M.entered s (run_map M K w.run k g₀ m)) (flow_match w.run s k g₀ m t₀ u a (w.tracked m c)));
      }
  fits (AroundCallIn {k = k} {g₀ = g₀} {t₀ = t₀} {o = o} {x = x} D s t C e d) =
      let w = fits D in
      let v = fits C in
      record {
        run = Closed w.run s t v.run e;
        length = sum_same w.length v.length;
        global = ap (run_global M K v.run false) w.global ∙ v.global;
        tracked = λ m c. tracked_saved M K L I A w.run s t v.run e k g₀ m o x d (w.tracked m c);
      }

  pub record IsBegun (f : M.Fn) (k : Bool) (g₀ : M.Global) (t₀ : Fact M) (n : ℕ) : Type 0 where
    pub below : Callers M K
    pub opened : OpenFrames M K f k below
    pub length : frames_length M K opened ≡ n
    pub global : (at_entry M K opened).global ≡ g₀
    pub matches : Matches t₀ (at_entry M K opened).here

  root_match : {f : M.Fn} {t : Fact M} → Starts M L A f t → Matches t (λ o. None)
  root_match StartsNone = tt
  root_match (StartsUnknown o a) = refl

  -- the run's facts at the frame's own global state
  pub at_frame : {f : M.Fn} {k : Bool} {g₀ g : M.Global} {t₀ t : Fact M} {p : K.Place} {m n : ℕ}
      (b : IsBegun f k g₀ t₀ m) (w : Fits f k g₀ t₀ p g t n)
      → IsTracked M K L w.run k (at_entry M K b.opened).global (at_entry M K b.opened).here t₀ t
  at_frame {k = k} {t₀ = t₀} {t = t} b w = subst (λ y. IsTracked M K L w.run k y (at_entry M K b.opened).here t₀ t) (sym b.global) (w.tracked (at_entry M K b.opened).here b.matches)

  pub begun : {f : M.Fn} {k : Bool} {g₀ : M.Global} {t₀ : Fact M} {n : ℕ} → Begins M K L A f k g₀ t₀ n
      → IsBegun f k g₀ t₀ n
  begun (BeginsRoot r a) = record { below = NoCaller; opened = RootFrame r; length = refl; global = refl; matches = root_match a }
  begun (BeginsCall {h = h} {k = k} {t₀ = t₀} {u = u} B C s t a) =
      let b = begun B in
      let w = fits C in
      record {
        below = _;
        opened = CalledFrame b.opened w.run s h t;
        length = plus_same b.length w.length;
        global = ap (run_global M K w.run k) b.global ∙ w.global;
        matches = flow_match w.run s k (at_entry M K b.opened).global (at_entry M K b.opened).here t₀ u a (at_frame b w);
      }
