-- What flows from what is followed under a mask is what flows in the checker itself, with origins within what is followed. So an
-- engine needs no events and call sites with functions at them.
-- Where the mask is strict the same holds of whatever flows.
use Rattle.std.proofs.Common.{◌≡◌, ◌↔◌, ◌⊎◌, inl, inr, Bool, true, false, cond, IsTrue, Option, List, [], ◌∷◌, refl, sym, ◌∙◌, subst}
use Rattle.path_theory.specs.Model.{Model}
use Rattle.path_theory.specs.Origins.{Origins}
use Rattle.path_theory.specs.Facts.{HasObject, Fact, Gives, GivesNone, GivesState, IsFollowed, IfNoObject}
use Rattle.path_theory.specs.Flows.{EventFlow, EventNone, EventObject}
use Rattle.path_theory.specs.BlockEdges.{Crosses, CrossesNone, CrossesOne, Shows, ShowsObject, ShowsGlobal, ShowsLater}
use Rattle.masked_paths.specs.Masked.{Mask, kept, masked, masked_origins, masked_events}
use Rattle.masked_paths.specs.Within.{origins_within}
use Rattle.masked_paths.proofs.Masks.{within_some, within_strict}

chosen_by : {S : Type 0} (t : Bool) (x y : S) → IsTrue t → cond t x y ≡ x
chosen_by true x y i = refl
chosen_by false x y i = cc

module _ (M : Model) (L : Origins M) (a : Mask M) (f h : M.Fn) where
  abbrev N : Model
  N = masked M L a

  abbrev W : Origins M
  W = origins_within M L a f h

  -- the mask is strict, or the object of the tuple is followed
  abbrev pub Flows : Fact M → Type 0
  Flows t = (a.loose ≡ false) ⊎ IsFollowed M (kept M a) f t

  -- then so is each to which it flows
  gives_followed : (e : M.Event) (o : M.Obj) (z : Option M.Obj) {t : Fact M} {x : Option M.State} → W.source e o ≡ z → Gives z t x
      → IfNoObject t (IsTrue (a.follows f o)) → Flows t → IsTrue (a.follows f o)
  gives_followed e o _ d GivesNone i w = i
  gives_followed e o _ d (GivesState {o = b}) i w = elim w [
    | inl s ↦ within_strict a.loose (a.follows f o) (a.follows f) (L.source e o) b d s
    | inr v ↦ (within_some a.loose (a.follows f o) (a.follows f) (L.source e o) b d).1 ∙ v
  ]

  event_out : {k : Bool} {e : M.Event} {g : M.Global} {t u : Fact M} → Flows t
      → EventFlow N (masked_origins M L a) (kept M a) f k (record { fn = f; event = e }) g t u → EventFlow M W (kept M a) f k e g t u
  event_out w EventNone = EventNone
  event_out {k = k} {e = e} {g = g} {t = t} w (EventObject o x i v) =
      subst (λ y. EventFlow M W (kept M a) f k e g t (HasObject o y)) (sym (chosen_by (a.follows f o) (M.choose e f k g o x) x (gives_followed e o (W.source e o) refl v i w))) (EventObject o x i v)

  event_in : {k : Bool} {e : M.Event} {g : M.Global} {t u : Fact M} → Flows t
      → EventFlow M W (kept M a) f k e g t u → EventFlow N (masked_origins M L a) (kept M a) f k (record { fn = f; event = e }) g t u
  event_in w EventNone = EventNone
  event_in {k = k} {e = e} {g = g} {t = t} w (EventObject o x i v) =
      subst (λ y. EventFlow N (masked_origins M L a) (kept M a) f k (record { fn = f; event = e }) g t (HasObject o y)) (chosen_by (a.follows f o) (M.choose e f k g o x) x (gives_followed e o (W.source e o) refl v i w)) (EventObject o x i v)

  -- what flows is followed
  event_followed : {k : Bool} {e : M.Event} {g : M.Global} {t u : Fact M} → Flows t → EventFlow M W (kept M a) f k e g t u
      → IsFollowed M (kept M a) f u
  event_followed w EventNone = tt
  event_followed {e = e} w (EventObject o x i v) = gives_followed e o (W.source e o) refl v i w

  -- over an event
  pub same_event : (k : Bool) (e : M.Event) (g : M.Global) (t u : Fact M) → Flows t
      → EventFlow N (masked_origins M L a) (kept M a) f k (record { fn = f; event = e }) g t u ↔ EventFlow M W (kept M a) f k e g t u
  same_event k e g t u w = (event_out w, event_in w)

  crosses_out : {k : Bool} (es : List M.Event) {g i : M.Global} {t v : Fact M} → Flows t
      → Crosses N (masked_origins M L a) (kept M a) f k (masked_events M f es) g t i v → Crosses M W (kept M a) f k es g t i v
  crosses_out [] w CrossesNone = CrossesNone
  crosses_out (e ∷ es) w (CrossesOne x y) = let z = event_out w x in CrossesOne z (crosses_out es (inr (event_followed w z)) y)

  crosses_in : {k : Bool} (es : List M.Event) {g i : M.Global} {t v : Fact M} → Flows t
      → Crosses M W (kept M a) f k es g t i v → Crosses N (masked_origins M L a) (kept M a) f k (masked_events M f es) g t i v
  crosses_in [] w CrossesNone = CrossesNone
  crosses_in (e ∷ es) w (CrossesOne x y) = CrossesOne (event_in w x) (crosses_in es (inr (event_followed w x)) y)

  -- over the events of a block
  pub same_crossing : (k : Bool) (es : List M.Event) (g i : M.Global) (t v : Fact M) → Flows t
      → Crosses N (masked_origins M L a) (kept M a) f k (masked_events M f es) g t i v ↔ Crosses M W (kept M a) f k es g t i v
  same_crossing k es g i t v w = (crosses_out es w, crosses_in es w)

  -- and what comes out of it is followed
  pub crossing_followed : (k : Bool) (es : List M.Event) (g i : M.Global) (t v : Fact M) → IsFollowed M (kept M a) f t
      → Crosses M W (kept M a) f k es g t i v → IsFollowed M (kept M a) f v
  crossing_followed k [] g i t v w CrossesNone = w
  crossing_followed k (e ∷ es) g i t v w (CrossesOne {u = u} x y) = crossing_followed k es _ i u v (event_followed (inr w) x) y

  shows_out : {k : Bool} {r : M.Report} (es : List M.Event) {g : M.Global} {t : Fact M} → Flows t
      → Shows N (masked_origins M L a) (kept M a) f k r (masked_events M f es) g t → Shows M W (kept M a) f k r es g t
  shows_out [] w x = elim x [ ]
  shows_out (e ∷ es) w (ShowsObject o x i v y) = ShowsObject o x i v y.1
  shows_out (e ∷ es) w (ShowsGlobal y) = ShowsGlobal y
  shows_out (e ∷ es) w (ShowsLater x y) = let z = event_out w x in ShowsLater z (shows_out es (inr (event_followed w z)) y)

  shows_in : {k : Bool} {r : M.Report} (es : List M.Event) {g : M.Global} {t : Fact M} → Flows t
      → Shows M W (kept M a) f k r es g t → Shows N (masked_origins M L a) (kept M a) f k r (masked_events M f es) g t
  shows_in [] w x = elim x [ ]
  shows_in (e ∷ es) w (ShowsObject o x i v y) = ShowsObject o x i v (gives_followed e o (W.source e o) refl v i w, y)
  shows_in (e ∷ es) w (ShowsGlobal y) = ShowsGlobal y
  shows_in (e ∷ es) w (ShowsLater x y) = ShowsLater (event_in w x) (shows_in es (inr (event_followed w x)) y)

  -- and the reports there
  pub same_shows : (k : Bool) (r : M.Report) (es : List M.Event) (g : M.Global) (t : Fact M) → Flows t
      → Shows N (masked_origins M L a) (kept M a) f k r (masked_events M f es) g t ↔ Shows M W (kept M a) f k r es g t
  same_shows k r es g t w = (shows_out es w, shows_in es w)
