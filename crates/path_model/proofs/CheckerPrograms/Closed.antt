-- The relevant objects of a base are closed, as the theory wants the objects that are followed, where the base has what rules may give a state;
-- and they are objects, where rules bind the base.
use Rattle.std.proofs.Common.{◌≡◌, ℕ, List, [], ◌∷◌, Option, None, Some, sym, subst}
use Rattle.c_objects.specs.Facts.{Facts}
use Rattle.c_objects.specs.Objects.{Object, Deref, IsObject}
use Rattle.c_objects.specs.ObjectOf.{object_of}
use Rattle.c_objects.specs.Paths.{append}
use Rattle.c_objects.proofs.Plain.{object-object, append-object}
use Rattle.path_model.specs.CheckerModel.Calls.{AreObjects}
use Rattle.path_model.specs.CheckerModel.Checkers.{model, origins}
use Rattle.path_model.specs.CheckerModel.Choices.{Binds, Gives, scene}
use Rattle.path_model.specs.CheckerModel.Happenings.{Function, Happening, Site}
use Rattle.path_model.specs.CheckerModel.Moves.{move_of}
use Rattle.path_model.specs.CheckerModel.Reports.{Checker}
use Rattle.path_model.proofs.CheckerModel.MovedObjects.{move-is, actuals-are}
use Rattle.path_model.proofs.CheckerModel.Sources.{given, source-object, into-object, out-object}
use Rattle.path_model.specs.CheckerPrograms.Paths.{program}
use Rattle.path_model.specs.CheckerPrograms.Relevant.{RelevantFrom, Relevant, Followed, Bound, Taken, Given, PassedBy, PassedOn, HandedBy, HandedBack}
use Rattle.path_model.specs.CheckerPrograms.Texts.{objects_in, site}
use Rattle.typed_unit.specs.Texts.{Text}
use Rattle.path_model.proofs.CheckerPrograms.Bound.{chosen-gives, fires-gives}
use Rattle.hole_matching.specs.Alternatives.{object_taken}
use Rattle.hole_matching.specs.Holes.{Setting}
use Rattle.hole_matching.specs.Matching as matching
use Rattle.hole_matching.specs.Subjects.{subject_object}
use Rattle.c_tree.specs.PathSubjects.Subjects as subjects
use Rattle.path_theory.specs.Relevant.{CallOf, IsClosed}

subject-object : (u : Facts) (depth : ℕ) (s : subjects.Subject) (o : Object) → subject_object u depth s ≡ Some o → IsObject depth o
subject-object u depth (subjects.Tree e) o h = object-object u depth e o h
subject-object u depth (subjects.DerefOf e) o h =
    let g = given (object_of u depth e) (λ a. append depth a (Deref ∷ [])) o h in
    append-object depth g.0 o (Deref ∷ []) (object-object u depth e g.0 g.1) g.2

taken-object : (g : Setting) (x : Option matching.Taken) (o : Object) → object_taken g x ≡ Some o → IsObject g.depth o
taken-object g None o h = cc
taken-object g (Some (matching.One s)) o h = subject-object g.facts g.depth s o h
taken-object g (Some (matching.Many ss)) o h = cc

pub binds-object : (c : Checker) (f : Function) (h : Happening) (o : Object) → Binds c.machine c.depth f h o → IsObject c.depth o
binds-object c f h o b = taken-object (scene c.machine c.depth h f) (matching.slot b.variable b.binding) o b.bound

module _ (c : Checker) (ts : List Text) where
  -- the actuals of the calls of a program are objects
  pub site-objects : (f g : Function) (s : Site) → CallOf (model c) (program c ts) f s g → AreObjects c.depth s.actuals
  site-objects f g s w =
      let n = w.calls.0.0 in
      let same : s ≡ site c.depth ts f n = w.calls.0.4 in
      subst (λ z. AreObjects c.depth z.actuals) (sym same) (actuals-are (objects_in ts f.place.file) c.depth n)

  module _ {Base : Function → Happening → Object → Type 0} where
    pub from-object : ((f : Function) (h : Happening) (o : Object) → Base f h o → Binds c.machine c.depth f h o) → (f : Function) (o : Object) → RelevantFrom c ts Base f o → IsObject c.depth o
    from-object b f o (Bound _ h _ e k) = binds-object c f h o (b f h o k)
    from-object k f b (Taken _ h o _ e s r) = (source-object c.depth (move_of h.facts c.depth h.event) o b (move-is h.facts c.depth h.event) s).1
    from-object k f o (Given _ h _ b e s r) = (source-object c.depth (move_of h.facts c.depth h.event) o b (move-is h.facts c.depth h.event) s).0
    from-object k f b (PassedBy _ g s o _ e i r) = (into-object c.depth s o b (site-objects f g s e) i).1
    from-object k g o (PassedOn f _ s _ b e i r) = (into-object c.depth s o b (site-objects f g s e) i).0
    from-object k g b (HandedBy f _ s o _ e i r) = (out-object c.depth s o b (site-objects f g s e) i).0 (from-object k f o r)
    from-object k f o (HandedBack _ g s _ b e i r) = (out-object c.depth s o b (site-objects f g s e) i).1 (from-object k g b r)

    pub closed-from : ((f : Function) (h : Happening) (o : Object) → Gives c.machine c.depth f h o → Base f h o) → IsClosed (model c) (program c ts) (origins c) (RelevantFrom c ts Base)
    closed-from has = record {
      source = λ {f} {e = h} o b e s r. Taken f h o b e s r;
      source_on = λ {f} {e = h} o b e s r. Given f h o b e s r;
      into = λ {f} {h = g} {s} a o e i r. PassedBy f g s a o e i r;
      into_on = λ {f} {h = g} {s} a o e i r. PassedOn f g s a o e i r;
      out = λ {f} {h = g} {s} o a e i r. HandedBy f g s o a e i r;
      out_on = λ {f} {h = g} {s} o a e i r. HandedBack f g s o a e i r;
      binds = λ {f} {e = h} k g o x e b. Bound f h o e (has f h o (chosen-gives c f h o k g x b));
      fires = λ {f} {e = h} k g o r e b. Bound f h o e (has f h o (fires-gives c f h o k g r b));
    }

  -- a larger base has all that the smaller one has
  pub from-larger : {A B : Function → Happening → Object → Type 0} → ((f : Function) (h : Happening) (o : Object) → A f h o → B f h o) → (f : Function) (o : Object) → RelevantFrom c ts A f o → RelevantFrom c ts B f o
  from-larger k f o (Bound _ h _ e b) = Bound f h o e (k f h o b)
  from-larger k f b (Taken _ h o _ e s r) = Taken f h o b e s (from-larger k f o r)
  from-larger k f o (Given _ h _ b e s r) = Given f h o b e s (from-larger k f b r)
  from-larger k f b (PassedBy _ g s o _ e i r) = PassedBy f g s o b e i (from-larger k g o r)
  from-larger k g o (PassedOn f _ s _ b e i r) = PassedOn f g s o b e i (from-larger k f b r)
  from-larger k g b (HandedBy f _ s o _ e i r) = HandedBy f g s o b e i (from-larger k f o r)
  from-larger k f o (HandedBack _ g s _ b e i r) = HandedBack f g s o b e i (from-larger k g b r)

  pub relevant-object : (f : Function) (o : Object) → Relevant c ts f o → IsObject c.depth o
  relevant-object = from-object (λ f h o b. b)

  pub followed-relevant : (f : Function) (o : Object) → Followed c ts f o → Relevant c ts f o
  followed-relevant = from-larger (λ f h o g. g.binds)

  pub closed : IsClosed (model c) (program c ts) (origins c) (Relevant c ts)
  closed = closed-from (λ f h o g. g.binds)

  pub followed-closed : IsClosed (model c) (program c ts) (origins c) (Followed c ts)
  followed-closed = closed-from (λ f h o g. g)
