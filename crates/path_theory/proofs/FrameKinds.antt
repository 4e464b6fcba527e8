-- A context that frames of both kinds begin comes to the same in both, up to the end of the frame.
-- So a called frame of a root that begins as a root does needs no entries of its own.
use Rattle.std.proofs.Common.{◌≡◌, Bool, true, false, Option, Some, None, refl, sym, ◌∙◌, ap}
use Rattle.std.proofs.Math.Path.{fun_ext}
use Rattle.path_theory.specs.Model.{Model, Map, stepped}
use Rattle.path_theory.specs.Supergraph.{Supergraph}
use Rattle.path_theory.specs.Callers.{NoCaller}
use Rattle.path_theory.specs.Origins.{Origins, IsLocal}
use Rattle.path_theory.specs.Runs.{Run, Here, Skipped, Gone, Closed, run_global, run_map, origin}
use Rattle.path_theory.specs.OpenFrames.{RootFrame, at_entry}
use Rattle.path_theory.specs.Facts.{NoObject, HasObject, fact_of, Objects, Fact}
use Rattle.path_theory.specs.Realised.{Realised, IsTracked}
use Rattle.path_theory.specs.FlowGraphs.{FlowGraphs, Point, Head, Before, PointSkips, EntersBlock, LeavesBlock, PointGoes, PassesEvent, PointCalls, MakesCall, supergraph}
use Rattle.path_theory.specs.Merged.{IsUnknown}
use Rattle.path_theory.specs.FrameEnds.{Exits, EachStays, ExitsApart}
use Rattle.path_theory.proofs.Independence.{independent}
use Rattle.path_theory.proofs.SmallFacts.{no_object_object, fact_of_same, fact_of_some}

module _ (M : Model) (L : Origins M) (E : Exits M) where
  module _ (K : Supergraph M) where
    -- no event of the frame itself ends it
    abbrev pub IsInside : {f : M.Fn} {p : K.Place} → Run M K f p → Type 0
    IsInside Here = Unit {0}
    IsInside (Skipped R t) = IsInside R
    IsInside (Gone R e t) = E.Stays e × IsInside R
    IsInside (Closed R s t C e) = IsInside R

    pub kind_global : {f : M.Fn} {p : K.Place} (R : Run M K f p) (k l : Bool) (g : M.Global) → IsInside R
        → run_global M K R k g ≡ run_global M K R l g
    kind_global Here k l g i = refl
    kind_global (Skipped R t) k l g i = kind_global R k l g i
    kind_global (Gone {f = f} R e t) k l g i = E.same.global e i.0 f k l (run_global M K R k g) ∙ ap (M.next_global e f l) (kind_global R k l g i.1)
    kind_global (Closed R s t C e) k l g i = ap (run_global M K C false) (kind_global R k l g i)

    pub kind_map : {f : M.Fn} {p : K.Place} (R : Run M K f p) (k l : Bool) (g : M.Global) (m : Map M) → IsInside R
        → run_map M K R k g m ≡ run_map M K R l g m
    kind_map Here k l g m i = refl
    kind_map (Skipped R t) k l g m i = kind_map R k l g m i
    kind_map (Gone {f = f} R e t) k l g m i =
        fun_ext (λ o. E.same.choice e i.0 f k l (run_global M K R k g) o (M.moved e (run_map M K R k g m) o))
        ∙ ap (λ y. stepped M e f l y (run_map M K R k g m)) (kind_global R k l g i.1)
        ∙ ap (stepped M e f l (run_global M K R l g)) (kind_map R k l g m i.1)
    kind_map (Closed R s t C e) k l g m i =
        ap (λ y. M.returned s (run_map M K C false y (M.entered s (run_map M K R k g m))) (run_map M K R k g m)) (kind_global R k l g i)
        ∙ ap (λ y. M.returned s (run_map M K C false (run_global M K R l g) (M.entered s y)) y) (kind_map R k l g m i)

    module _ (I : IsLocal M L) (A : Objects M) where
      -- the entry tuple is that of the frame's entry
      entry_state : {f : M.Fn} {p : K.Place} (R : Run M K f p) (k : Bool) (g : M.Global) (m : Map M) (t₀ t : Fact M)
          → IsTracked M K L R k g m t₀ t → (b : M.Obj) (x : Option M.State) → t₀ ≡ HasObject b x → m b ≡ x
      entry_state R k g m t₀ NoObject w b x d = no_object_object b x (sym d ∙ w)
      entry_state R k g m t₀ (HasObject o y) w b x d = sym (fact_of_some (origin M K L R o) m b x (sym d ∙ w.1)).1

      -- what a run gives from one frame's entry it gives from another's with the same context
      tracked_other : {f : M.Fn} {p : K.Place} (R : Run M K f p) → IsInside R
          → (k l : Bool) (g h : M.Global) (m n : Map M) (t₀ t : Fact M) → g ≡ h
          → ((b : M.Obj) (x : Option M.State) → t₀ ≡ HasObject b x → n b ≡ x) → IsTracked M K L R k g m t₀ t
          → IsTracked M K L R l h n t₀ t
      tracked_other R i k l g h m n t₀ NoObject q e w = w
      tracked_other R i k l g h m n t₀ (HasObject o x) q e w =
          let same : (b : M.Obj) → origin M K L R o ≡ Some b → n b ≡ m b = λ b d. e b (m b) (w.1 ∙ ap (λ z. fact_of z m) d) in (
            independent M K L I R l h n m o same ∙ ap (λ y. run_map M K R l y m o) (sym q) ∙ ap (λ (y : Map M). y o) (sym (kind_map R k l g m i)) ∙ w.0,
            w.1 ∙ fact_of_same (origin M K L R o) m n (λ b d. sym (same b d)),
          )

      -- a context that a frame of another kind begins too comes to the same there
      pub other_kind : {f : M.Fn} {k l : Bool} {g₀ g h : M.Global} {t₀ t u : Fact M} {p q : K.Place}
          (w : Realised M K L f k g₀ t₀ p g t)
          → IsInside w.run → Realised M K L f l g₀ t₀ q h u → Realised M K L f l g₀ t₀ p g t
      other_kind {k = k} {l = l} {t₀ = t₀} {t = t} {u = u} w i v =
          let same = w.entry ∙ sym v.entry in
          record {
            below = v.below;
            opened = v.opened;
            run = w.run;
            entry = v.entry;
            global = ap (run_global M K w.run l) (sym same) ∙ sym (kind_global w.run k l (at_entry M K w.opened).global i) ∙ w.global;
            tracked = tracked_other w.run i k l _ _ _ _ t₀ t same (entry_state v.run l _ _ t₀ u v.tracked) w.tracked;
          }

      unknown_tracked : (f : M.Fn) (t : Fact M) → IsUnknown M t
          → IsTracked M K L (Here {f = f}) true M.start (λ o. None) t t
      unknown_tracked f NoObject u = refl
      unknown_tracked f (HasObject o None) u = (refl, refl)
      unknown_tracked f (HasObject o (Some x)) u = absurd u

      -- what a called frame of a root that begins with the first global state and nothing known comes to, the root's
      -- own frame comes to
      pub in_own_frame : {f : M.Fn} {g : M.Global} {t₀ t : Fact M} {p : K.Place}
          (w : Realised M K L f false M.start t₀ p g t)
          → IsInside w.run → K.IsRoot f → IsUnknown M t₀ → Realised M K L f true M.start t₀ p g t
      in_own_frame {f = f} {t₀ = t₀} w i r u = other_kind w i (record { below = NoCaller; opened = RootFrame r; run = Here {f = f}; entry = refl; global = refl; tracked = unknown_tracked f t₀ u })

  module _ (G : FlowGraphs M) (X : ExitsApart M L E G) where
    -- up to the head of a block no event ends the frame
    abbrev Stayed : {f : M.Fn} → (p : Point G.Block M.Event) → Run M (supergraph M G) f p → Type 0
    Stayed (Head b) R = IsInside (supergraph M G) R
    Stayed {f = f} (Before b es) R = EachStays E (G.events f b) → IsInside (supergraph M G) R × EachStays E es

    skip_stays : {f : M.Fn} (p q : Point G.Block M.Event) (R : Run M (supergraph M G) f p) (t : PointSkips M G f p q)
        → Stayed p R → Stayed q (Skipped R t)
    skip_stays _ _ R (EntersBlock b) h = λ a. (h, a)
    skip_stays _ _ R (LeavesBlock n) h = (h (X.next n)).0

    go_stays : {f : M.Fn} (p q : Point G.Block M.Event) (R : Run M (supergraph M G) f p) (e : M.Event)
        (t : PointGoes M G f p e q)
        → Stayed p R → Stayed q (Gone R e t)
    go_stays _ _ R _ (PassesEvent b e es) h = λ a. let w = h a in ((w.1.0, w.0), w.1.1)

    closed_stays : {f h : M.Fn} (p q r : Point G.Block M.Event) (R : Run M (supergraph M G) f p) (s : M.Site)
        (t : PointCalls M G f p s h q) (C : Run M (supergraph M G) h r) (e : (supergraph M G).Ends h r)
        → Stayed p R → Stayed q (Closed R s t C e)
    closed_stays _ _ r R s (MakesCall j) C e h = (h (X.call j)).0

    pub stayed : {f : M.Fn} {p : Point G.Block M.Event} (R : Run M (supergraph M G) f p) → Stayed p R
    stayed Here = tt
    stayed (Skipped R t) = skip_stays _ _ R t (stayed R)
    stayed (Gone R e t) = go_stays _ _ R e t (stayed R)
    stayed (Closed R s t C e) = closed_stays _ _ _ R s t C e (stayed R)
