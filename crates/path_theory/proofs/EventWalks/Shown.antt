-- Reports on the way are those of what happens there.
use Rattle.std.proofs.Common.{◌≡◌, ◌↔◌, ℕ, zero, suc, Bool, List, [], ◌∷◌, Option, None, Some, refl, subst}
use Rattle.std.specs.Prelude.{slice_get}
use Rattle.path_theory.specs.Model.{Model}
use Rattle.path_theory.specs.Origins.{Origins}
use Rattle.path_theory.specs.Facts.{Fact, Objects}
use Rattle.path_theory.specs.Flows.{EventFlow}
use Rattle.path_theory.specs.BlockEdges.{Shows, ShowsObject, ShowsGlobal, ShowsLater}
use Rattle.path_theory.specs.EventWalks.Happenings.{ToObjects, ToGlobals, HappensHere, ToObject, ToGlobal, HappensAt, Here, Later}

module _ (M : Model) (L : Origins M) (A : Objects M) {R : Type 0} (O : ToObjects M R) (G : ToGlobals M R) (f : M.Fn) (k : Bool)
    (Says : M.Event → Option M.Obj → R → M.Report → Type 0)
    (objects : (e : M.Event) (g : M.Global) (o : M.Obj) (x : Option M.State) (r : M.Report) → M.Fires e f k g o x r ↔ ((a : R) × O e f k g o x a × Says e (Some o) a r))
    (globals : (e : M.Event) (g : M.Global) (r : M.Report) → M.FiresGlobal e f k g r ↔ ((a : R) × G e f k g a × Says e None a r)) where
  -- something that happens at an event of the list says the report
  pub record Reported (es : List M.Event) (g : M.Global) (t : Fact M) (r : M.Report) : Type 0 where
    pub number : ℕ
    pub event : M.Event
    pub object : Option M.Obj
    pub what : R
    pub there : slice_get es number ≡ Some event
    pub happens : HappensAt M L A O G f k es number g t object what
    pub says : Says event object what r

  from-later : (e : M.Event) (es : List M.Event) (g : M.Global) (t u : Fact M) (r : M.Report) → EventFlow M L A f k e g t u
      → Reported es (M.next_global e f k g) u r → Reported (e ∷ es) g t r
  from-later e es g t u r w s = record {
    number = suc s.number;
    event = s.event;
    object = s.object;
    what = s.what;
    there = s.there;
    happens = Later w s.happens;
    says = s.says;
  }

  pub shown : (es : List M.Event) (g : M.Global) (t : Fact M) (r : M.Report) → Shows M L A f k r es g t → Reported es g t r
  shown [] g t r w = elim w [ ]
  shown (e ∷ es) g t r (ShowsObject o x i s w) =
      let b = (objects e g o x r).0 w in
      record { number = zero; event = e; object = Some o; what = b.0; there = refl; happens = Here (ToObject o x i s b.1); says = b.2 }
  shown (e ∷ es) g _ r (ShowsGlobal w) =
      let b = (globals e g r).0 w in
      record { number = zero; event = e; object = None; what = b.0; there = refl; happens = Here (ToGlobal b.1); says = b.2 }
  shown (e ∷ es) g t r (ShowsLater {u = u} w s) = from-later e es g t u r w (shown es (M.next_global e f k g) u r s)

  shows-here : (e d : M.Event) (es : List M.Event) (g : M.Global) (t : Fact M) (q : Option M.Obj) (a : R) (r : M.Report) → Some e ≡ Some d
      → HappensHere M L A O G f k e g t q a → Says d q a r → Shows M L A f k r (e ∷ es) g t
  shows-here e d es g t _ a r same (ToObject o x i s w) says =
      let one : d ≡ e = cc in
      ShowsObject o x i s ((objects e g o x r).1 (a, w, subst (λ z. Says z (Some o) a r) one says))
  shows-here e d es g _ _ a r same (ToGlobal w) says =
      let one : d ≡ e = cc in
      ShowsGlobal ((globals e g r).1 (a, w, subst (λ z. Says z None a r) one says))

  pub shows : (es : List M.Event) (n : ℕ) (d : M.Event) (g : M.Global) (t : Fact M) (q : Option M.Obj) (a : R) (r : M.Report) → slice_get es n ≡ Some d
      → HappensAt M L A O G f k es n g t q a → Says d q a r → Shows M L A f k r es g t
  shows [] n d g t q a r at w says = elim w [ ]
  shows (e ∷ es) _ d g t q a r at (Here w) says = shows-here e d es g t q a r at w says
  shows (e ∷ es) _ d g t q a r at (Later {n = n} {u = u} w x) says = ShowsLater w (shows es n d (M.next_global e f k g) u q a r at x says)

  -- A REPORT IS SHOWN exactly where something that happens on the way says it
  pub shown_where : (es : List M.Event) (g : M.Global) (t : Fact M) (r : M.Report) → Shows M L A f k r es g t ↔ Reported es g t r
  shown_where es g t r = (shown es g t r, λ s. shows es s.number s.event g t s.object s.what r s.there s.happens s.says)
