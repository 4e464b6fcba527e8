-- The path edges, each in the kind of frame of its context, are closed under the steps of an engine.
-- What was derived in a root's own frame holds in a called frame with the same entry tuple, up to the end of the frame.
use Rattle.std.proofs.Common.{◌≡◌, Bool, true, false, Option, Some, None, [], refl, sym, subst}
use Rattle.path_theory.specs.Model.{Model}
use Rattle.path_theory.specs.Origins.{Origins, IsLocal}
use Rattle.path_theory.specs.Runs.{Here}
use Rattle.path_theory.specs.OpenFrames.{CalledFrame}
use Rattle.path_theory.specs.Facts.{NoObject, HasObject, Gives, GivesState, Objects, Fact, IsFollowed}
use Rattle.path_theory.specs.Flows.{Starts, StartsNone, StartsUnknown, EventFlow, EventNone, EventObject, CallFlow, ReturnFlow, ReturnNone, ReturnObject}
use Rattle.path_theory.specs.Tabulation.{PathEdge, AtRoot, AlongSkip, AlongEvent, IntoCallee, OverCall, AroundCall}
use Rattle.path_theory.specs.Relevant.{IsClosed}
use Rattle.path_theory.specs.FlowGraphs.{FlowGraphs, Point, Head, Before, EntersBlock, LeavesBlock, PassesEvent, PointCalls, MakesCall, EndsFrame, supergraph}
use Rattle.path_theory.specs.BlockEdges.{Crosses}
use Rattle.path_theory.specs.FrameEnds.{Exits, ExitsApart}
use Rattle.path_theory.specs.Merged.{IsUnknown, Kinds, Leads}
use Rattle.path_theory.proofs.Entries.{realised, path_edge, followed}
use Rattle.path_theory.proofs.Saturated.{to_end}
use Rattle.path_theory.proofs.FrameKinds.{other_kind, stayed}

module _ (M : Model) (L : Origins M) (A : Objects M) (G : FlowGraphs M) (C : Kinds M G) where
  abbrev D : M.Fn → Bool → M.Global → Fact M → Point G.Block M.Event → M.Global → Fact M → Type 0
  D = PathEdge M (supergraph M G) L A

  -- a path edge at the head of a block, in the kind of frame of its context
  abbrev pub MergedEdge : M.Fn → M.Global → Fact M → G.Block → M.Global → Fact M → Type 0
  MergedEdge f g₀ t₀ b g t = PathEdge M (supergraph M G) L A f (C.kind f g₀ t₀) g₀ t₀ (Head b) g t

  -- the root's own frame begins as a root does
  starts_unknown : {f : M.Fn} {t : Fact M} → Starts M L A f t → IsUnknown M t
  starts_unknown StartsNone = tt
  starts_unknown (StartsUnknown o a) = tt

  starts_of : {f : M.Fn} (t : Fact M) → IsUnknown M t → IsFollowed M A f t → Starts M L A f t
  starts_of NoObject u a = StartsNone
  starts_of (HasObject o None) u a = StartsUnknown o a
  starts_of (HasObject o (Some x)) u a = absurd u

  sound_root : {f : M.Fn} {t : Fact M} → G.IsRoot f → Starts M L A f t → MergedEdge f M.start t (G.first f) M.start t
  sound_root {f = f} {t = t} r a = subst (λ k. D f k M.start t (Head (G.first f)) M.start t) (sym (C.of_root t r (starts_unknown a))) (AtRoot r a)

  sound_next : {f : M.Fn} {g₀ g i : M.Global} {t₀ t u : Fact M} {b c : G.Block} → MergedEdge f g₀ t₀ b g t
      → Crosses M L A f (C.kind f g₀ t₀) (G.events f b) g t i u → G.Next f b c → MergedEdge f g₀ t₀ c i u
  sound_next d c n = AlongSkip (to_end M L A G d c) (LeavesBlock n)

  module _ (E : Exits M) (N : ExitsApart M L E G) (I : IsLocal M L) (Q : IsClosed M (supergraph M G) L A) where
    begins : {h : M.Fn} {g : M.Global} {t : Fact M} (k : Bool) → C.kind h g t ≡ k
        → D h false g t (Head (G.first h)) g t → D h k g t (Head (G.first h)) g t
    begins false q d = d
    begins {h = h} {g = g} {t = t} true q d =
        let w = C.is_root q in
        subst (λ y. D h true y t (Head (G.first h)) y t) (sym w.1) (AtRoot w.0 (starts_of t w.2 (followed M (supergraph M G) L I A Q d)))

    sound_call : {f h : M.Fn} {g₀ g i : M.Global} {t₀ t u v : Fact M} {b c : G.Block} → MergedEdge f g₀ t₀ b g t
        → Crosses M L A f (C.kind f g₀ t₀) (G.events f b) g t i u → (s : M.Site) → G.Call f b s h c
        → CallFlow M L A s h u v → MergedEdge h i v (G.first h) i v
    sound_call {h = h} {i = i} {v = v} d c s j a = begins (C.kind h i v) refl (IntoCallee (to_end M L A G d c) s (MakesCall j) a)

    -- in the called frame, what was derived in the root's own
    to_called : {h : M.Fn} {k : Bool} {g₀ g : M.Global} {t₀ t : Fact M} {b : G.Block} → D h k g₀ t₀ (Head b) g t
        → D h false g₀ t₀ (Head (G.first h)) g₀ t₀ → D h false g₀ t₀ (Head b) g t
    to_called {t = t} d c =
        let w = realised M (supergraph M G) L I A d in
        path_edge M (supergraph M G) L I A Q t (other_kind M L E (supergraph M G) I A w (stayed M L E G N w.run) (realised M (supergraph M G) L I A c)) (followed M (supergraph M G) L I A Q d)

    exit_moves : {f h : M.Fn} {s : M.Site} {w y : Fact M} {b c : G.Block} → G.Call f b s h c
        → (e : M.Event) (g : M.Global) → E.IsExit e → ReturnFlow M L A s f w y → IsFollowed M A h w
        → EventFlow M L A h false e g w w
    exit_moves j e g n ReturnNone a = EventNone
    exit_moves {h = h} {s = s} j e g n (ReturnObject o c x l d) a =
        subst (λ y. EventFlow M L A h false e g (HasObject c x) (HasObject c y)) (N.kept j e n g o c d x)
        (EventObject c x tt (subst (λ z. Gives z (HasObject c x) x) (sym (N.unmoved j e n o c d)) GivesState))

    -- over the end of a called frame
    to_last : {h : M.Fn} {g₀ g : M.Global} {t₀ t : Fact M} {b : G.Block} → D h false g₀ t₀ (Head b) g t → G.Ends h b
        → ((e : M.Event) → E.IsExit e → EventFlow M L A h false e g t t) → D h false g₀ t₀ (Before b []) g t
    to_last {h = h} {g₀ = g₀} {g = g} {t₀ = t₀} {t = t} {b = b} d l m =
        let n = N.last l in
        subst (λ i. D h false g₀ t₀ (Before b []) i t) (E.quiet.global n.0 n.1 h g)
        (AlongEvent (subst (λ es. D h false g₀ t₀ (Before b es) g t) n.2 (AlongSkip d (EntersBlock b))) n.0 (PassesEvent b n.0 []) (m n.0 n.1))

    -- a call begins the callee's frame, whatever is followed in the caller
    called_bare : {f h : M.Fn} {k : Bool} {g₀ g : M.Global} {t₀ t : Fact M} {p q : Point G.Block M.Event}
        → D f k g₀ t₀ p g t → (s : M.Site) → PointCalls M G f p s h q
        → D h false g NoObject (Head (G.first h)) g NoObject
    called_bare d s j =
        let w = realised M (supergraph M G) L I A d in
        path_edge M (supergraph M G) L I A Q NoObject (record { below = _; opened = CalledFrame w.opened w.run s _ j; run = Here; entry = w.global; global = w.global; tracked = refl }) tt

    sound_return : {f h : M.Fn} {g₀ g i j : M.Global} {t₀ t u v w y : Fact M} {b c d : G.Block}
        → MergedEdge f g₀ t₀ b g t → Crosses M L A f (C.kind f g₀ t₀) (G.events f b) g t i u → (s : M.Site)
        → G.Call f b s h c → CallFlow M L A s h u v → MergedEdge h i v d j w → G.Ends h d → ReturnFlow M L A s f w y
        → MergedEdge f g₀ t₀ c j y
    sound_return d c s j a e l b =
        let x = to_end M L A G d c in
        let called = to_called e (IntoCallee x s (MakesCall j) a) in
        OverCall x s (MakesCall j) a (to_last called l (λ n i. exit_moves j n _ i b (followed M (supergraph M G) L I A Q e))) (EndsFrame l) b

    sound_saved : {f h : M.Fn} {g₀ g i j : M.Global} {t₀ t : Fact M} {o : M.Obj} {z : Option M.State} {b c d : G.Block}
        → MergedEdge f g₀ t₀ b g t → Crosses M L A f (C.kind f g₀ t₀) (G.events f b) g t i (HasObject o z)
        → (s : M.Site) → G.Call f b s h c → MergedEdge h i NoObject d j NoObject → G.Ends h d → L.out s o ≡ None
        → MergedEdge f g₀ t₀ c j (HasObject o z)
    sound_saved d c s j e l q =
        let x = to_end M L A G d c in
        AroundCall x s (MakesCall j) (to_last (to_called e (called_bare x s (MakesCall j))) l (λ n i. EventNone)) (EndsFrame l) q

    -- the path edges are closed under the steps
    pub path_edges_lead : Leads M L A G C MergedEdge MergedEdge
    path_edges_lead = record { root = sound_root; next = sound_next; call = sound_call; return = sound_return; saved = sound_saved }
