-- No frame knows another function's local: the objects that are of no variable of a block, or of one that the function names, are closed, as the
-- theory wants the objects that are followed; so each object with a known state on a path is one of them.
use Rattle.std.proofs.Common.{◌≡◌, ◌⊎◌, ℕ, nat_eq, List, Bool, true, false, not, ◌||◌, Option, None, Some, inl, inr, refl, sym, ap, subst, ◌∙◌}
use Rattle.std.proofs.lemmas.Bool.{true≢false}
use Rattle.c_objects.specs.Facts.{Facts}
use Rattle.c_objects.specs.Objects.{Object}
use Rattle.c_tree.specs.Node.{Node}
use Rattle.hole_matching.specs.Callouts.{is_local}
use Rattle.metal_tree.specs.MetalMachines.Machine.{stop}
use Rattle.path_model.specs.CheckerModel.Calls.{into, out}
use Rattle.path_model.specs.CheckerModel.Checkers.{model, origins, source_at}
use Rattle.path_model.specs.CheckerModel.Choices.{State, Gives, Taken, first_some, is_asked, is_exit, object_rule, scene, taken}
use Rattle.path_model.specs.CheckerModel.Happenings.{Function, Happening, Site}
use Rattle.path_model.specs.CheckerModel.Reports.{Checker}
use Rattle.path_model.specs.CheckerPrograms.Paths.{program}
use Rattle.path_model.specs.CheckerPrograms.Texts.{definition_of, happening, objects_in, site}
use Rattle.path_model.proofs.CheckerModel.Laws.{local}
use Rattle.path_model.proofs.CheckerModel.Sources.{given, untested}
use Rattle.path_model.proofs.CheckerPrograms.Bound.{chosen-gives, fires-gives, taken-gives}
use Rattle.path_theory.specs.Callers.{Callers}
use Rattle.path_theory.specs.Paths.{Now, Path, after}
use Rattle.path_theory.specs.Relevant.{EventOf, CallOf, IsClosed}
use Rattle.path_theory.proofs.Known.{event_of}
use Rattle.path_theory.proofs.KnownObjects.{known_after}
use Rattle.path_theory.proofs.Splitting.{split}
use Rattle.type_rules.specs.Options.{◌>?◌}
use Rattle.type_rules.specs.Parts.{flat}
use Rattle.type_rules.specs.Vars.{CVar}
use Rattle.typed_unit.specs.Texts.{Text}
use Rattle.event_places.specs.Naming.{IsNodeOf, IsNamedIn}
use Rattle.event_places.proofs.EachNode.{Everywhere, everywhere}
use Rattle.event_places.proofs.Events.{text-event, text-call}
use Rattle.path_model.proofs.CheckerPrograms.Formals.{site-other}
use Rattle.event_places.proofs.Holes.{bound-name}
use Rattle.event_places.proofs.Objects.{IsOfName, actuals-named, source-named}
use Rattle.event_places.proofs.Passing.{Passes, into-named, out-named}
use Rattle.event_places.proofs.Walks.{event-in-text, call-in-text}

-- what is asked at the end of a called function is of a variable of a block
asked-local : (b l : Bool) → b ≡ true → (not b || false || l) ≡ true → l ≡ true
asked-local true l e h = h
asked-local false l e h = cc

second-holds : (a b : Bool) → (a || not b) ≡ false → b ≡ true
second-holds false true h = refl
second-holds false false h = cc
second-holds true b h = cc

module _ (c : Checker) (ts : List Text) where
  -- the nodes of a function's body, and what is known of its unit
  abbrev InBody : Function → Node → Type 0
  InBody f n = IsNodeOf n (flat (definition_of ts f).body)

  abbrev unit_of : Function → Facts
  unit_of f = objects_in ts f.place.file

  whole-body : (f : Function) → Everywhere (InBody f) (flat (definition_of ts f).body)
  whole-body f = everywhere (InBody f) (flat (definition_of ts f).body) (λ n h. h)

  named-in : (f : Function) (v : CVar) → IsOfName (InBody f) (unit_of f) v → IsNamedIn ts f v
  named-in f v n = record { name = n.name; identifier = n.identifier; inside = n.has; variable = n.variable }

  -- it is of no variable of a block, or of one that the function names
  abbrev pub IsOwn : Function → Object → Type 0
  IsOwn f o = is_local o.base ≡ true → IsNamedIn ts f o.base

  same-own : (f : Function) (o b : Object) → b.base ≡ o.base → IsOwn f o → IsOwn f b
  same-own f o b same own i = subst (IsNamedIn ts f) (sym same) (own (ap is_local (sym same) ∙ i))

  -- at an event
  source-own : (f : Function) (h : Happening) (o b : Object) → EventOf (model c) (program c ts) f h → source_at c.depth h o ≡ Some b → (b.base ≡ o.base) ⊎ (IsNamedIn ts f o.base × IsNamedIn ts f b.base)
  source-own f h o b e s =
      let w = event-in-text c ts f h e in
      elim (source-named (InBody f) (unit_of f) c.depth w.event o b (text-event c ts f (InBody f) (whole-body f) (unit_of f) h w) (subst (λ (z : Happening). source_at c.depth z o ≡ Some b) w.is s)) [
        | inl same ↦ inl same
        | inr n ↦ inr (named-in f o.base n.0, named-in f b.base n.1)
      ]

  gives-own : (f : Function) (h : Happening) (o : Object) → EventOf (model c) (program c ts) f h → Gives c.machine c.depth f h o → IsNamedIn ts f o.base
  gives-own f h o e g =
      let w = event-in-text c ts f h e in
      let there = subst (λ (z : Happening). Gives c.machine c.depth f z o) w.is g in
      let b = there.binds in
      let scene_here = scene c.machine c.depth (happening ts f w.event) f in
      named-in f o.base (bound-name (InBody f) scene_here w.event b.rule.dest b.items b.binding b.variable o (text-event c ts f (InBody f) (whole-body f) (unit_of f) h w) b.applies b.bound)

  -- at a call, and at its return
  into-own : (f g : Function) (s : Site) (a o : Object) → CallOf (model c) (program c ts) f s g → into c.depth s a ≡ Some o → Passes (InBody f) (unit_of f) a o
  into-own f g s a o w e =
      let t = call-in-text c ts f g s w in
      into-named (InBody f) (unit_of f) c.depth (site c.depth ts f t.call) a o (site-other c.depth ts f t.call)
      (actuals-named (InBody f) (unit_of f) c.depth t.call (text-call c ts f (InBody f) (whole-body f) s t))
      (subst (λ (z : Site). into c.depth z a ≡ Some o) t.is e)

  out-own : (f g : Function) (s : Site) (o a : Object) → CallOf (model c) (program c ts) f s g → out c.depth s o ≡ Some a → Passes (InBody f) (unit_of f) a o
  out-own f g s o a w e =
      let t = call-in-text c ts f g s w in
      out-named (InBody f) (unit_of f) c.depth (site c.depth ts f t.call) o a (site-other c.depth ts f t.call)
      (actuals-named (InBody f) (unit_of f) c.depth t.call (text-call c ts f (InBody f) (whole-body f) s t))
      (subst (λ (z : Site). out c.depth z o ≡ Some a) t.is e)

  callee-own : (f g : Function) (a o : Object) → Passes (InBody f) (unit_of f) a o → IsOwn g a
  callee-own f g a o p i = absurd (true≢false (sym i ∙ p.callee))

  caller-own : (f : Function) (a o : Object) → Passes (InBody f) (unit_of f) a o → IsOwn f o
  caller-own f a o p i = named-in f o.base (p.caller i)

  source-closed : (f : Function) (o b : Object) → (b.base ≡ o.base) ⊎ (IsNamedIn ts f o.base × IsNamedIn ts f b.base) → (IsOwn f o → IsOwn f b) × (IsOwn f b → IsOwn f o)
  source-closed f o b (inl same) = (same-own f o b same, same-own f b o (sym same))
  source-closed f o b (inr n) = (λ own i. n.1, λ own i. n.0)

  -- SUCH OBJECTS ARE CLOSED
  pub own-closed : IsClosed (model c) (program c ts) (origins c) IsOwn
  own-closed = record {
    source = λ {f} {e = h} o b e s a. (source-closed f o b (source-own f h o b e s)).0 a;
    source_on = λ {f} {e = h} o b e s a. (source-closed f o b (source-own f h o b e s)).1 a;
    into = λ {f} {h = g} {s} a o e i r. caller-own f a o (into-own f g s a o e i);
    into_on = λ {f} {h = g} {s} a o e i r. callee-own f g a o (into-own f g s a o e i);
    out = λ {f} {h = g} {s} o a e i r. callee-own f g a o (out-own f g s o a e i);
    out_on = λ {f} {h = g} {s} o a e i r. caller-own f a o (out-own f g s o a e i);
    binds = λ {f} {e = h} k g o x e b. λ i. gives-own f h o e (chosen-gives c f h o k g x b);
    fires = λ {f} {e = h} k g o r e b. λ i. gives-own f h o e (fires-gives c f h o k g r b);
  }

  -- THE OBJECTS OF A PATH with known states are of that sort
  pub known-own : {f : Function} {k : Bool} {p : (program c ts).Place} {b : Callers (model c) (program c ts)} (P : Path (model c) (program c ts) f k p b) (o : Object) (x : State)
      → (after (model c) (program c ts) P).here o ≡ Some x → IsOwn f o
  known-own P o x e = known_after (model c) (program c ts) (origins c) (local c) IsOwn own-closed P o x e

  -- AN OBJECT THAT TAKES A RULE at an event of a path is one too
  pub taken-own : {f : Function} {k : Bool} {p q : (program c ts).Place} {b : Callers (model c) (program c ts)} (P : Path (model c) (program c ts) f k p b) (h : Happening) → (program c ts).Goes f p h q
      → (o : Object) (t : Taken) → taken c.machine c.depth h f k (after (model c) (program c ts) P).global o (source_at c.depth h o >? (after (model c) (program c ts) P).here) ≡ Some t → IsOwn f o
  taken-own {f = f} {k = k} {b = b} P h goes o t e = by (source_at c.depth h o >? now.here) refl e
    where
      now : Now (model c) (program c ts) b
      now = after (model c) (program c ts) P

      there : EventOf (model c) (program c ts) f h
      there = let w = split (model c) (program c ts) P in event_of (model c) (program c ts) w.run h goes

      by : (x : Option State) → (source_at c.depth h o >? now.here) ≡ x → taken c.machine c.depth h f k now.global o x ≡ Some t → IsOwn f o
      by None s e = λ i. gives-own f h o there (taken-gives c f h o k now.global t e)
      by (Some x) s e =
          let g = given (source_at c.depth h o) now.here x s in
          (source-closed f o g.0 (source-own f h o g.0 there g.1)).1 (known-own P g.0 x g.2)

  -- and at the end of a called function it is of a variable of a block
  pub end-local : (f : Function) (h : Happening) (g : ℕ) (o : Object) (x : Option State) (t : Taken) → is_exit h.event ≡ true → taken c.machine c.depth h f false g o x ≡ Some t → is_local o.base ≡ true
  end-local f h g o x t exit e =
      let u = untested (nat_eq g stop || not (is_asked h.event false o)) (first_some (object_rule (scene c.machine c.depth h f) h.event g o x) c.machine.rules) t e in
      asked-local (is_exit h.event) (is_local o.base) exit (second-holds (nat_eq g stop) (is_asked h.event false o) u.0)
