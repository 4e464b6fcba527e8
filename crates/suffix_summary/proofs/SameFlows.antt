-- Two masks that follow the same objects, over origins that agree on these: the same flows from what is followed.
use Rattle.std.proofs.Common.{◌≡◌, Bool, IsTrue, Option, List, [], ◌∷◌, refl, sym, subst, ◌∙◌}
use Rattle.path_theory.specs.Model.{Model}
use Rattle.path_theory.specs.Origins.{Origins}
use Rattle.path_theory.specs.Facts.{FactOf, Fact, Gives, GivesNone, GivesState, Objects, IsFollowed, IfNoObject}
use Rattle.path_theory.specs.Flows.{Starts, StartsNone, StartsUnknown, EventFlow, EventNone, EventObject, CallFlow, CallNone, CallObject, ReturnFlow, ReturnNone, ReturnObject}
use Rattle.path_theory.specs.BlockEdges.{Crosses, CrossesNone, CrossesOne, Shows, ShowsObject, ShowsGlobal, ShowsLater}
use Rattle.masked_paths.specs.Masked.{Mask, masked, masked_origins, masked_events}
use Rattle.masked_paths.proofs.Masks.{within_some}

pub gives_too : {O S : Type 0} {y z : Option O} {t : FactOf O S} {x : Option S} → y ≡ z → Gives y t x → Gives z t x
gives_too {t = t} {x = x} d v = subst (λ u. Gives u t x) d v

module _ (M : Model) (L O : Origins M) (follows : M.Fn → M.Obj → Bool) (l n : Bool) where
  -- the masks
  abbrev pub a : Mask M
  a = record { follows = follows; loose = l }

  abbrev pub b : Mask M
  b = record { follows = follows; loose = n }

  -- each object that is followed has its state from the same one
  pub record SameOrigins : Type 0 where
    pub source : (f : M.Fn) (e : M.Event) (o : M.Obj) → IsTrue (follows f o)
        → (masked_origins M L a).source (record { fn = f; event = e }) o ≡ (masked_origins M O b).source (record { fn = f; event = e }) o
    pub into : (f h : M.Fn) (s : M.Site) (c : M.Obj) → IsTrue (follows h c)
        → (masked_origins M L a).into (record { caller = f; site = s; callee = h }) c ≡ (masked_origins M O b).into (record { caller = f; site = s; callee = h }) c
    pub out : (f h : M.Fn) (s : M.Site) (o : M.Obj) → IsTrue (follows f o)
        → (masked_origins M L a).out (record { caller = f; site = s; callee = h }) o ≡ (masked_origins M O b).out (record { caller = f; site = s; callee = h }) o

-- and the other way round
pub turned : (M : Model) (L O : Origins M) (follows : M.Fn → M.Obj → Bool) (l n : Bool) → SameOrigins M L O follows l n → SameOrigins M O L follows n l
turned M L O follows l n S = record {
  source = λ f e o i. sym (S.source f e o i);
  into = λ f h s c i. sym (S.into f h s c i);
  out = λ f h s o i. sym (S.out f h s o i);
}

module _ (M : Model) (L O : Origins M) (follows : M.Fn → M.Obj → Bool) (l n : Bool) (S : SameOrigins M L O follows l n) where
  abbrev N : Model
  N = masked M L (a M L O follows l n)

  abbrev P : Model
  P = masked M O (b M L O follows l n)

  abbrev NO : Origins N
  NO = masked_origins M L (a M L O follows l n)

  abbrev PO : Origins P
  PO = masked_origins M O (b M L O follows l n)

  abbrev A : Objects M
  A f o = IsTrue (follows f o)

  abbrev pub Followed : M.Fn → Fact M → Type 0
  Followed = IsFollowed M A

  gives_followed : (f : M.Fn) (e : M.Event) (o : M.Obj) (z : Option M.Obj) {t : Fact M} {x : Option M.State}
      → NO.source (record { fn = f; event = e }) o ≡ z → Gives z t x → IfNoObject t (A f o) → Followed f t → A f o
  gives_followed f e o _ d GivesNone i w = i
  gives_followed f e o _ d (GivesState {o = c}) i w = (within_some l (follows f o) (follows f) (L.source e o) c d).1 ∙ w

  -- at the entry of a root
  pub starts_on : {f : M.Fn} {t : Fact M} → Starts N NO A f t → Starts P PO A f t × Followed f t
  starts_on StartsNone = (StartsNone, tt)
  starts_on (StartsUnknown o i) = (StartsUnknown o i, i)

  -- over an event
  pub event_on : {f : M.Fn} {k : Bool} {e : M.Event} {g : M.Global} {t u : Fact M} → Followed f t
      → EventFlow N NO A f k (record { fn = f; event = e }) g t u → EventFlow P PO A f k (record { fn = f; event = e }) g t u × Followed f u
  event_on w EventNone = (EventNone, tt)
  event_on {f = f} {e = e} w (EventObject o x i v) =
      let j = gives_followed f e o (NO.source (record { fn = f; event = e }) o) refl v i w in
      (EventObject o x i (gives_too (S.source f e o j) v), j)

  -- over the events of a block
  pub crosses_on : {f : M.Fn} {k : Bool} (es : List M.Event) {g i : M.Global} {t v : Fact M} → Followed f t
      → Crosses N NO A f k (masked_events M f es) g t i v → Crosses P PO A f k (masked_events M f es) g t i v × Followed f v
  crosses_on [] w CrossesNone = (CrossesNone, w)
  crosses_on (e ∷ es) w (CrossesOne x y) =
      let z = event_on w x in
      let rest = crosses_on es z.1 y in
      (CrossesOne z.0 rest.0, rest.1)

  -- the reports there
  pub shows_on : {f : M.Fn} {k : Bool} {r : M.Report} (es : List M.Event) {g : M.Global} {t : Fact M} → Followed f t
      → Shows N NO A f k r (masked_events M f es) g t → Shows P PO A f k r (masked_events M f es) g t
  shows_on [] w x = elim x [ ]
  shows_on {f = f} (e ∷ es) w (ShowsObject o x i v y) = ShowsObject o x i (gives_too (S.source f e o y.0) v) y
  shows_on (e ∷ es) w (ShowsGlobal y) = ShowsGlobal y
  shows_on (e ∷ es) w (ShowsLater x y) = let z = event_on w x in ShowsLater z.0 (shows_on es z.1 y)

  -- into a callee
  pub call_on : {f h : M.Fn} {s : M.Site} {t u : Fact M} → CallFlow N NO A (record { caller = f; site = s; callee = h }) h t u
      → CallFlow P PO A (record { caller = f; site = s; callee = h }) h t u × Followed h u
  call_on CallNone = (CallNone, tt)
  call_on {f = f} {h = h} {s = s} (CallObject c x i v) = (CallObject c x i (gives_too (S.into f h s c i) v), i)

  -- and back
  pub return_on : {f h : M.Fn} {s : M.Site} {t u : Fact M} → ReturnFlow N NO A (record { caller = f; site = s; callee = h }) f t u
      → ReturnFlow P PO A (record { caller = f; site = s; callee = h }) f t u × Followed f u
  return_on ReturnNone = (ReturnNone, tt)
  return_on {f = f} {h = h} {s = s} (ReturnObject o c x i d) = (ReturnObject o c x i (sym (S.out f h s o i) ∙ d), i)
