-- What the kinds of frame have in common they have under a mask as well: the laws under which contexts of both kinds are
-- merged carry over.
-- That an exit moves nothing of what a call hands back is asked of the exits of all functions, also of those that don't follow
-- that object: so the mask has to be loose.
use Rattle.std.proofs.Common.{◌≡◌, Bool, true, false, cond, IsTrue, Option, Some, None, List, [], ◌∷◌, inl, inr, refl, ap}
use Rattle.path_theory.specs.Model.{Model}
use Rattle.path_theory.specs.Origins.{Origins}
use Rattle.path_theory.specs.Facts.{NoObject, HasObject, Fact}
use Rattle.path_theory.specs.FlowGraphs.{FlowGraphs}
use Rattle.path_theory.specs.FrameEnds.{IgnoresKind, EndsQuietly, Exits, EachStays, ExitsApart}
use Rattle.path_theory.specs.Merged.{IsUnknown, Kinds}
use Rattle.masked_paths.specs.Masked.{EventIn, SiteIn, Mask, masked, masked_origins, CallIn, CallAt, masked_events, masked_graphs}
use Rattle.masked_paths.proofs.Masks.{within_some, within_kept, alike_loose}

cond_same : {S : Type 0} (t : Bool) (x y : S) → x ≡ y → cond t x y ≡ y
cond_same true x y d = d
cond_same false x y d = refl

module _ (M : Model) (L : Origins M) (a : Mask M) where
  abbrev N : Model
  N = masked M L a

  pub masked_ignores : {Stays : M.Event → Type 0} → IgnoresKind M Stays → IgnoresKind N (λ e. Stays e.event)
  masked_ignores S = record {
    global = λ e i f k l g. S.global e.event i f k l g;
    choice = λ e i f k l g o x. ap (λ y. cond (a.follows f o) y x) (S.choice e.event i f k l g o x);
    fires = λ e i f k l g o x r d. (d.0, S.fires e.event i f k l g o x r d.1);
    fires_global = λ e i f k l g r d. S.fires_global e.event i f k l g r d;
  }

  pub masked_quiet : {IsExit : M.Event → Type 0} → EndsQuietly M IsExit → EndsQuietly N (λ e. IsExit e.event)
  masked_quiet Q = record {
    global = λ e i f g. Q.global e.event i f g;
    fires = λ e i f g o x r d. (d.0, Q.fires e.event i f g o x r d.1);
    fires_global = λ e i f g r d. Q.fires_global e.event i f g r d;
  }

  abbrev pub masked_exits : Exits M → Exits N
  masked_exits E = record { IsExit = λ e. E.IsExit e.event; Stays = λ e. E.Stays e.event; same = masked_ignores E.same; quiet = masked_quiet E.quiet }

  pub unknown_in : (t : Fact M) → IsUnknown M t → IsUnknown N t
  unknown_in NoObject u = tt
  unknown_in (HasObject o None) u = tt
  unknown_in (HasObject o (Some x)) u = u

  pub unknown_out : (t : Fact M) → IsUnknown N t → IsUnknown M t
  unknown_out NoObject u = tt
  unknown_out (HasObject o None) u = tt
  unknown_out (HasObject o (Some x)) u = u

  module _ (G : FlowGraphs M) where
    pub masked_kinds : Kinds M G → Kinds N (masked_graphs M L a G)
    masked_kinds C = record {
      kind = C.kind;
      of_root = λ t r u. C.of_root t r (unknown_out t u);
      is_root = λ {f = f} {g = g} {t = t} d. let w = C.is_root {f = f} {g = g} {t = t} d in (w.0, w.1, unknown_in t w.2);
    }

    module _ (E : Exits M) (W : ExitsApart M L E G) (l : IsTrue a.loose) where
      stay_in : (f : M.Fn) (es : List M.Event) → EachStays E es → EachStays (masked_exits E) (masked_events M f es)
      stay_in f [] i = tt
      stay_in f (e ∷ es) i = (i.0, stay_in f es i.1)

      call_stays : {f h : M.Fn} {s : SiteIn M.Fn M.Site} {b c : G.Block} → CallIn M L a G f b s h c
          → EachStays (masked_exits E) (masked_events M f (G.events f b))
      call_stays {f = f} {b = b} (CallAt j) = stay_in f (G.events f b) (W.call j)

      unmoved_in : {f h : M.Fn} {s : SiteIn M.Fn M.Site} {b c : G.Block} → CallIn M L a G f b s h c
          → (e : EventIn M.Fn M.Event) → E.IsExit e.event → (o d : M.Obj) → (masked_origins M L a).out s o ≡ Some d
          → (masked_origins M L a).source e d ≡ Some d
      unmoved_in {f = f} (CallAt {h = h} {s = s} j) e i o d w =
          within_kept a.loose (a.follows e.fn d) (a.follows e.fn) (L.source e.event d) d (W.unmoved j e.event i o d ((within_some a.loose (a.follows f o) (a.follows h) (L.out s o) d w).0)) refl (alike_loose a.loose (a.follows e.fn d) l)

      kept_in : {f h : M.Fn} {s : SiteIn M.Fn M.Site} {b c : G.Block} → CallIn M L a G f b s h c
          → (e : EventIn M.Fn M.Event) → E.IsExit e.event → (g : M.Global) (o d : M.Obj)
          → (masked_origins M L a).out s o ≡ Some d → (x : Option M.State) → N.choose e h false g d x ≡ x
      kept_in {f = f} (CallAt {h = h} {s = s} j) e i g o d w x =
          cond_same (a.follows h d) (M.choose e.event h false g d x) x (W.kept j e.event i g o d ((within_some a.loose (a.follows f o) (a.follows h) (L.out s o) d w).0) x)

      pub masked_apart : ExitsApart N (masked_origins M L a) (masked_exits E) (masked_graphs M L a G)
      masked_apart = record {
        next = λ {f = f} {b = b} n. stay_in f (G.events f b) (W.next n);
        call = call_stays;
        last = λ {f = f} n. let w = W.last n in (record { fn = f; event = w.0 }, w.1, ap (masked_events M f) w.2);
        unmoved = unmoved_in;
        kept = kept_in;
        either = λ f b. elim (W.either f b) [ inl w ↦ inl (stay_in f (G.events f b) w) | inr w ↦ inr w ];
      }
