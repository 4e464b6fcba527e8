-- The path edges are exactly the realised tuples of the objects that are followed.
-- One direction assembles a path from frame edges, the other meets the run of each frame by them.
use Rattle.std.proofs.Common.{◌≡◌, ℕ, Bool, Option, refl, sym, ap, subst, ◌∙◌, ◌↔◌}
use Rattle.path_theory.specs.Model.{Model}
use Rattle.path_theory.specs.Supergraph.{Supergraph}
use Rattle.path_theory.specs.Origins.{Origins, IsLocal}
use Rattle.path_theory.specs.Runs.{run_global}
use Rattle.path_theory.specs.OpenFrames.{at_entry}
use Rattle.path_theory.specs.Facts.{NoObject, HasObject, Fact, Gives, GivesNone, GivesState, Objects, IsFollowed, IfNoObject}
use Rattle.path_theory.specs.Flows.{EventFlow, EventNone, EventObject, ReturnFlow, ReturnNone, ReturnObject}
use Rattle.path_theory.specs.Tabulation.{PathEdge}
use Rattle.path_theory.specs.Realised.{Realised}
use Rattle.path_theory.specs.Relevant.{IsClosed, EventOf}
use Rattle.path_theory.specs.FrameEdges.{FrameEdge, AtEntryIn, AlongSkipIn, AlongEventIn, OverCallIn, AroundCallIn}
use Rattle.path_theory.proofs.FrameSound.{fits, begun, at_frame}
use Rattle.path_theory.proofs.FrameComplete.{costed, begun_by, begins_fact}
use Rattle.path_theory.proofs.Known.{event_of, origin_in}
use Rattle.path_theory.proofs.Assembly.{parts, assembled}

module _ (M : Model) (K : Supergraph M) (L : Origins M) (I : IsLocal M L) (A : Objects M) where
  -- each path edge is on a path
  pub realised : {f : M.Fn} {k : Bool} {g₀ g : M.Global} {t₀ t : Fact M} {p : K.Place}
      → PathEdge M K L A f k g₀ t₀ p g t → Realised M K L f k g₀ t₀ p g t
  realised {k = k} D =
      let w = parts M K L A D in
      let b = begun M K L I A w.begins in
      let v = fits M K L I A w.edge in
      record { below = b.below; opened = b.opened; run = v.run; entry = b.global; global = ap (run_global M K v.run k) b.global ∙ v.global; tracked = at_frame M K L I A b v }

  moved_to : {f : M.Fn} {k : Bool} {g h i j : M.Global} {t u v w : Fact M} {p : K.Place}
      → PathEdge M K L A f k g t p i v → g ≡ h → t ≡ u → i ≡ j → v ≡ w → PathEdge M K L A f k h u p j w
  moved_to {f = f} {k = k} {g = g} {h = h} {i = i} {j = j} {t = t} {u = u} {v = v} {w = w} {p = p} D a b c d =
      subst (λ y. PathEdge M K L A f k h u p j y) d (subst (λ y. PathEdge M K L A f k h u p y v) c (subst (λ y. PathEdge M K L A f k h y p i v) b (subst (λ y. PathEdge M K L A f k y t p i v) a D)))

  module _ (Q : IsClosed M K L A) where
    -- an object to which a followed one leads is followed
    followed_gives : {f : M.Fn} {e : M.Event} (o : M.Obj) (z : Option M.Obj) {t : Fact M} {x : Option M.State}
        → EventOf M K f e → L.source e o ≡ z → Gives z t x → IfNoObject t (A f o) → IsFollowed M A f t → A f o
    followed_gives o _ v d GivesNone a i = a
    followed_gives o _ v d (GivesState {o = b}) a i = Q.source_on o b v d i

    followed_move : {f : M.Fn} {k : Bool} {e : M.Event} {g : M.Global} {t u : Fact M} → EventOf M K f e
        → EventFlow M L A f k e g t u → IsFollowed M A f t → IsFollowed M A f u
    followed_move v EventNone i = tt
    followed_move {e = e} v (EventObject o x a w) i = followed_gives o (L.source e o) v refl w a i

    followed_return : {s : M.Site} {f : M.Fn} {t u : Fact M} → ReturnFlow M L A s f t u → IsFollowed M A f u
    followed_return ReturnNone = tt
    followed_return (ReturnObject o c x a d) = a

    followed_edge : {f : M.Fn} {k : Bool} {g₀ g : M.Global} {t₀ t : Fact M} {p : K.Place} {n : ℕ}
        → FrameEdge M K L A f k g₀ t₀ p g t n → IsFollowed M A f t
    followed_edge (AtEntryIn a) = a
    followed_edge (AlongSkipIn D t) = followed_edge D
    followed_edge (AlongEventIn D e t a) = followed_move (event_of M K (fits M K L I A D).run e t) a (followed_edge D)
    followed_edge (OverCallIn D s t a C e b) = followed_return b
    followed_edge (AroundCallIn D s t C e d) = followed_edge D

    -- the object of a path edge is followed
    pub followed : {f : M.Fn} {k : Bool} {g₀ g : M.Global} {t₀ t : Fact M} {p : K.Place}
        → PathEdge M K L A f k g₀ t₀ p g t → IsFollowed M A f t
    followed D = followed_edge (parts M K L A D).edge

    -- each tuple on a path is that of a path edge
    pub path_edge : {f : M.Fn} {k : Bool} {g₀ g : M.Global} {t₀ : Fact M} (t : Fact M) {p : K.Place}
        → Realised M K L f k g₀ t₀ p g t → IsFollowed M A f t → PathEdge M K L A f k g₀ t₀ p g t
    path_edge NoObject w a =
        moved_to (assembled M K L A (begun_by M K L I A Q w.opened).bare (costed M K L I A Q w.run _ _ (at_entry M K w.opened).here).bare) w.entry (sym w.tracked) w.global refl
    path_edge (HasObject o x) w a =
        let b = begun_by M K L I A Q w.opened in
        moved_to (assembled M K L A (begins_fact M K L I A Q w.opened b _ (λ z d. origin_in M K L I A Q w.run o z d a)) ((costed M K L I A Q w.run _ _ (at_entry M K w.opened).here).object o a)) w.entry (sym w.tracked.1) w.global (ap (HasObject o) w.tracked.0)

    -- the path edges are exactly what is realised, of the objects that are followed
    pub entries : (f : M.Fn) (k : Bool) (g₀ : M.Global) (t₀ : Fact M) (p : K.Place) (g : M.Global) (t : Fact M)
        → PathEdge M K L A f k g₀ t₀ p g t ↔ (Realised M K L f k g₀ t₀ p g t × IsFollowed M A f t)
    entries f k g₀ t₀ p g t = ((λ D. (realised D, followed D)), (λ w. path_edge t w.0 w.1))
