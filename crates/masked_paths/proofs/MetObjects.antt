-- What can be known, by a family that is closed under the rules of matched calls and returns, is all that paths know: of the
-- rules from global states those count that act where a path meets their state. So whatever covers such a family is enough.
-- The induction goes over the run of a frame on open frames, since these say which global states it meets.
use Rattle.std.proofs.Common.{◌≡◌, Bool, Option, Some, None, ◌⊎◌, refl, sym, ◌∙◌, ap, subst, inl, inr}
use Rattle.path_theory.specs.Model.{Model, Map}
use Rattle.path_theory.specs.Supergraph.{Supergraph}
use Rattle.path_theory.specs.Callers.{Callers}
use Rattle.path_theory.specs.Paths.{Path, after}
use Rattle.path_theory.specs.Origins.{Origins, IsLocal}
use Rattle.path_theory.specs.Runs.{Run, Here, Skipped, Gone, Closed, run_global, run_map}
use Rattle.path_theory.specs.OpenFrames.{OpenFrames, RootFrame, CalledFrame, at_entry}
use Rattle.path_theory.specs.Facts.{Objects}
use Rattle.path_theory.specs.Relevant.{EventOf, CallOf}
use Rattle.path_theory.proofs.SmallFacts.{none_known, then_known, handed_known}
use Rattle.path_theory.proofs.Splitting.{split, flat}
use Rattle.path_theory.proofs.Known.{event_of, call_of, in_callee}
use Rattle.masked_paths.specs.Enough.{IsEnough}
use Rattle.masked_paths.specs.Met.{MetStates, CoversMet}
use Rattle.masked_paths.specs.Matched.{Matched, ClosedUnderMet, CoversWhereMet}

module _ (M : Model) (K : Supergraph M) (L : Origins M) (I : IsLocal M L) (R : MetStates M) (T : CoversMet M K R) (P : Matched M) (C : ClosedUnderMet M K L R P) where
  -- an object comes from one that is known at the frame's entry, or from none
  Comes : M.Fn → Map M → M.Obj → Type 0
  Comes f m o = ((b : M.Obj) × (y : M.State) × (m b ≡ Some y) × P f (Some b) o) ⊎ P f None o

  -- what is known in the map comes so from the frame's entry
  AllCome : M.Fn → Map M → Map M → Type 0
  AllCome f m n = (o : M.Obj) (x : M.State) → n o ≡ Some x → Comes f m o

  -- what is known at an entry can be known there
  Enters : M.Fn → Map M → Type 0
  Enters f m = (c : M.Obj) (x : M.State) → m c ≡ Some x → P f (Some c) c

  -- over an event
  moved_comes : {f : M.Fn} {e : M.Event} (m : Map M) (o b : M.Obj) → EventOf M K f e → L.source e o ≡ Some b
      → Comes f m b → Comes f m o
  unfolding Comes
  moved_comes m o b i d c = elim c [
    | inl w ↦ inl (w.0, w.1, w.2, C.moves (Some w.0) o b i d w.3)
    | inr w ↦ inr (C.moves None o b i d w)
  ]

  chosen_comes : {f : M.Fn} {e : M.Event} (m n : Map M) (k : Bool) (g : M.Global) (o : M.Obj) (x : M.State)
      (y : Option M.State)
      → EventOf M K f e → R f e k g → AllCome f m n → M.moved e n o ≡ y → M.choose e f k g o y ≡ Some x → Comes f m o
  unfolding Comes AllCome
  chosen_comes m n k g o x None i r h d j = inr (C.binds k g o x r j)
  chosen_comes {e = e} m n k g o x (Some y) i r h d j =
      let w = then_known (L.source e o) n y (sym (I.moved e n o) ∙ d) in
      moved_comes m o w.0 i w.1 (h w.0 y w.2)

  -- into a callee
  entered_by : {f h : M.Fn} {s : M.Site} (m : Map M) (c o : M.Obj) → CallOf M K f s h → L.into s c ≡ Some o
      → Comes f m o → P h (Some c) c
  unfolding Comes
  entered_by m c o i d w = elim w [
    | inl v ↦ C.enters (Some v.0) c o i d v.3
    | inr v ↦ C.enters None c o i d v
  ]

  entered_in : {f h : M.Fn} {s : M.Site} (m n : Map M) → CallOf M K f s h → AllCome f m n → Enters h (M.entered s n)
  unfolding AllCome Enters
  entered_in {s = s} m n i h c x d =
      let w = then_known (L.into s c) n x (sym (I.entered s n c) ∙ d) in
      entered_by m c w.0 i w.1 (h w.0 x w.2)

  -- back from it
  handed_in : {f h : M.Fn} {s : M.Site} (m : Map M) (o c d b : M.Obj) → CallOf M K f s h → L.into s c ≡ Some b
      → Comes f m b → P h (Some c) d → L.out s o ≡ Some d → Comes f m o
  unfolding Comes
  handed_in m o c d b i j w v e = elim w [
    | inl u ↦ inl (u.0, u.1, u.2, C.comes_back (Some u.0) o c d b i j u.3 v e)
    | inr u ↦ inr (C.comes_back None o c d b i j u v e)
  ]

  returned_comes : {f h : M.Fn} {s : M.Site} (m n : Map M) (o d : M.Obj) → CallOf M K f s h → AllCome f m n
      → L.out s o ≡ Some d → Comes h (M.entered s n) d → Comes f m o
  unfolding Comes AllCome
  returned_comes {s = s} m n o d i h e w = elim w [
    | inl u ↦
        let v = then_known (L.into s u.0) n u.1 (sym (I.entered s n u.0) ∙ u.2) in
        handed_in m o u.0 d v.0 i v.1 (h v.0 u.1 v.2) u.3 e
    | inr u ↦ inr (C.hands_out o d i u e)
  ]

  -- the global state that a frame meets at an event behind a run is one of R
  met_behind : {f : M.Fn} {k : Bool} {p q : K.Place} {b : Callers M K} (O : OpenFrames M K f k b) (Q : Run M K f p) (e : M.Event)
      → K.Goes f p e q → R f e k (run_global M K Q k (at_entry M K O).global)
  met_behind {f = f} {k = k} O Q e t = let w = flat M K O Q in subst (R f e k) (ap (λ n. n.global) w.state) (T.met w.path e t)

  -- what is known behind a run
  abbrev behind : {f : M.Fn} {k : Bool} {p : K.Place} {b : Callers M K} → OpenFrames M K f k b → Run M K f p → Map M
  behind {k = k} O Q = run_map M K Q k (at_entry M K O).global (at_entry M K O).here

  run_comes : {f : M.Fn} {k : Bool} {p : K.Place} {b : Callers M K} (O : OpenFrames M K f k b) (Q : Run M K f p)
      → Enters f (at_entry M K O).here → AllCome f (at_entry M K O).here (behind O Q)
  unfolding Comes AllCome Enters
  run_comes O Here h o x d = inl (o, x, d, h o x d)
  run_comes O (Skipped Q t) h o x d = run_comes O Q h o x d
  run_comes {k = k} O (Gone Q e t) h o x d =
      chosen_comes (at_entry M K O).here (behind O Q) k (run_global M K Q k (at_entry M K O).global) o x (M.moved e (behind O Q) o) (event_of M K Q e t) (met_behind O Q e t) (run_comes O Q h) refl d
  run_comes {k = k} O (Closed {h = c} Q s t D e) h o x d =
      let n = behind O Q in
      let i = call_of M K Q s t in
      elim (handed_known (L.out s o) (in_callee M K Q s D k (at_entry M K O).global (at_entry M K O).here) (n o) x (sym (I.returned s (in_callee M K Q s D k (at_entry M K O).global (at_entry M K O).here) n o) ∙ d)) [
        | inl w ↦ returned_comes (at_entry M K O).here n o w.0 i (run_comes O Q h) w.1 (run_comes (CalledFrame O Q s c t) D (entered_in (at_entry M K O).here n i (run_comes O Q h)) w.0 x w.2)
        | inr w ↦ run_comes O Q h o x w
      ]

  frames_enter : {f : M.Fn} {k : Bool} {b : Callers M K} (O : OpenFrames M K f k b) → Enters f (at_entry M K O).here
  unfolding Enters
  frames_enter (RootFrame r) = λ c x d. none_known x d
  frames_enter (CalledFrame O Q s h t) = entered_in (at_entry M K O).here (behind O Q) (call_of M K Q s t) (run_comes O Q (frames_enter O))

  -- whatever is known on a path can be known
  pub can_be_known : {f : M.Fn} {k : Bool} {p : K.Place} {b : Callers M K} (Q : Path M K f k p b) (o : M.Obj) (x : M.State)
      → (after M K Q).here o ≡ Some x → (w : Option M.Obj) × P f w o
  unfolding Comes AllCome
  can_be_known Q o x d =
      let s = split M K Q in
      elim (run_comes s.opened s.run (frames_enter s.opened) o x (ap (λ n. n.here o) (sym s.state) ∙ d)) [
        | inl w ↦ (Some w.0, w.3)
        | inr w ↦ (None, w)
      ]

  module _ (A : Objects M) (V : CoversWhereMet M K L R P A) where
    fires_in : {f : M.Fn} {k : Bool} {p q : K.Place} {b : Callers M K} (Q : Path M K f k p b) (e : M.Event)
        → K.Goes f p e q → (o : M.Obj) (y : Option M.State) → M.moved e (after M K Q).here o ≡ y → (r : M.Report)
        → M.Fires e f k (after M K Q).global o y r → A f o
    fires_in {k = k} Q e t o None d r i = V.fires k (after M K Q).global o r (T.met Q e t) i
    fires_in Q e t o (Some y) d r i =
        let w = then_known (L.source e o) (after M K Q).here y (sym (I.moved e (after M K Q).here o) ∙ d) in
        let v = can_be_known Q w.0 y w.2 in
        V.known v.0 o (C.moves v.0 o w.0 (event_of M K (split M K Q).run e t) w.1 v.1)

    -- whatever covers what can be known is enough
    pub enough_of_met : IsEnough M K L A
    enough_of_met = record {
      known = λ Q o x d. let w = can_be_known Q o x d in V.known w.0 o w.1;
      fires = λ Q e t o r i. fires_in Q e t o (M.moved e (after M K Q).here o) refl r i;
      handed = V.handed;
    }
