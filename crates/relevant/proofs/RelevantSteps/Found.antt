-- What is found in steps is relevant to the rules from whose bindings it is found, and what is relevant to them is found.
use Rattle.std.proofs.Common.{◌≡◌, ◌↔◌, ◌⊎◌, inl, inr, ℕ, List, Some, ◌∙◌, sym, subst}
use Rattle.c_objects.specs.Objects.{Object}
use Rattle.flow_graph.specs.CPaths.Building.{Graph}
use Rattle.flow_graph.specs.CPaths.Events.{Event}
use Rattle.path_model.specs.CheckerGraphs.Graphs.{AreGraphs, AreApartPlaces, function_at, graph_at}
use Rattle.path_model.proofs.CheckerGraphs.Numbers.{one-number}
use Rattle.path_model.specs.CheckerModel.Choices.{scene}
use Rattle.path_model.specs.CheckerModel.Checkers.{model, source_at}
use Rattle.path_model.specs.CheckerModel.Happenings.{Function, Happening}
use Rattle.path_model.specs.CheckerModel.Reports.{Checker}
use Rattle.path_model.specs.CheckerPrograms.Paths.{program}
use Rattle.path_model.specs.CheckerPrograms.Relevant.{Bound, Taken, Given, PassedBy, PassedOn, HandedBy, HandedBack}
use Rattle.path_model.specs.CheckerPrograms.Texts.{functions_in, happening}
use Rattle.typed_unit.specs.Texts.{Text}
use Rattle.least_set.specs.OnePremise.{Least, LeastBase, LeastOne}
use Rattle.path_theory.specs.Relevant.{EventOf}
use Rattle.flow_graph.specs.ReachedBlocks.Reached.{Happens}
use Rattle.relevant.specs.RelevantSteps.Families.{RelevantTo}
use Rattle.state_tuples.specs.AppliedRules.Bound.{BindsFrom}
use Rattle.state_tuples.specs.declared.applied_rules.sources.RuleSources.{RuleSources}
use Rattle.relevant.proofs.RelevantSteps.Sources.{rule-binds}
use Rattle.relevant.specs.RelevantSteps.Steps.{IsBound, Moves, Takes, AtEvent, AtEntry, AtReturn, Base, Goes}
use Rattle.path_model.specs.CheckerGraphs.Members.{Member}
use Rattle.relevant.proofs.RelevantSteps.Empty.{alone, exit, only-exit, numbered, exit-binds}
use Rattle.relevant.proofs.RelevantSteps.Traced.{one-some, own-graph, event-of, of-event, call-of, of-call}

-- an object bound at an exit
bound-exit : (sources : RuleSources) (c : Checker) (ts : List Text) (f : Function) (o : Object) (e : Event) → e ≡ exit f.place → BindsFrom sources c.machine c.depth f (happening ts f e) o → ⊥
bound-exit sources c ts f o e same b =
    let k = rule-binds sources c.machine c.depth f (happening ts f (exit f.place)) o (subst (λ x. BindsFrom sources c.machine c.depth f (happening ts f x) o) same b) in
    exit-binds (scene c.machine c.depth (happening ts f (exit f.place)) f) f.place f.place k.rule.dest k.items k.binding k.variable o k.applies k.bound

module _ (sources : RuleSources) (c : Checker) (ts : List Text) (gs : List Graph) (A : AreGraphs ts gs) (apart : AreApartPlaces (functions_in ts)) where
  -- a number has one function
  one-function : (n : ℕ) (f g : Function) → function_at ts n ≡ Some f → function_at ts n ≡ Some g → f ≡ g
  one-function n f g d e = one-some f g (sym d ∙ e)

  -- ---- what is found is relevant

  bound-relevant : (n : ℕ) (o : Object) (f : Function) → IsBound c ts gs sources n o → function_at ts n ≡ Some f → RelevantTo sources c ts f o
  bound-relevant n o f b e =
      subst (λ g. RelevantTo sources c ts g o) (one-function n b.function f b.is.named e)
      (Bound b.function (happening ts b.function b.event) o (event-of c ts gs A apart n b.function b.graph b.event b.is b.happens) b.binds)

  -- both are relevant, or neither is
  abbrev Alike : Function → Object → Function → Object → Type 0
  Alike f o g b = RelevantTo sources c ts f o ↔ RelevantTo sources c ts g b

  abbrev IsAlike : ℕ → Object → ℕ → Object → Type 0
  IsAlike n o m b = (f : Function) × (function_at ts n ≡ Some f) × (g : Function) × (function_at ts m ≡ Some g) × Alike f o g b

  takes-alike : (n : ℕ) (o : Object) (m : ℕ) (b : Object) → Takes c ts gs n o m b → IsAlike n o m b
  takes-alike _ _ _ _ (AtEvent {n} {o} {b} v) =
      let f = v.function in
      let h = happening ts f v.event in
      let w = event-of c ts gs A apart n f v.graph v.event v.is v.happens in
      (f, v.is.named, f, v.is.named, (Taken f h o b w v.source, Given f h o b w v.source))
  takes-alike _ _ _ _ (AtEntry {n} {m} {o} {b} s k i) =
      let w = call-of c ts gs A apart n m s k in
      (k.callee, k.named, k.function, k.is.named, (PassedBy k.function k.callee s o b w i, PassedOn k.function k.callee s o b w i))
  takes-alike _ _ _ _ (AtReturn {n} {m} {o} {b} s k i) =
      let w = call-of c ts gs A apart n m s k in
      (k.function, k.is.named, k.callee, k.named, (HandedBy k.function k.callee s o b w i, HandedBack k.function k.callee s o b w i))

  goes-alike : (x y : Member) → Goes c ts gs x y → (f : Function) × (function_at ts x.0 ≡ Some f) × (g : Function) × (function_at ts y.0 ≡ Some g) × (RelevantTo sources c ts f x.1 → RelevantTo sources c ts g y.1)
  goes-alike x y (inl t) = let k = takes-alike x.0 x.1 y.0 y.1 t in (k.0, k.1, k.2, k.3, k.4.0)
  goes-alike x y (inr t) = let k = takes-alike y.0 y.1 x.0 x.1 t in (k.2, k.3, k.0, k.1, k.4.1)

  pub found-relevant : {x : Member} → Least (Base c ts gs sources) (Goes c ts gs) x → (f : Function) → function_at ts x.0 ≡ Some f → RelevantTo sources c ts f x.1
  found-relevant (LeastBase {c = x} b) f e = bound-relevant x.0 x.1 f b e
  found-relevant (LeastOne {a = x} {c = y} l k) f e =
      let a = goes-alike x y k in
      subst (λ g. RelevantTo sources c ts g y.1) (one-function y.0 a.2 f a.3 e) (a.4 (found-relevant l a.0 a.1))

  -- ---- what is relevant is found

  -- it is found of a function of the program
  pub record IsFound (f : Function) (o : Object) : Type 0 where
    pub number : ℕ
    pub named : function_at ts number ≡ Some f
    pub least : Least (Base c ts gs sources) (Goes c ts gs) (number, o)

  -- a step from what is found
  onward : (f g : Function) (o b : Object) (n m : ℕ) → function_at ts n ≡ Some f → function_at ts m ≡ Some g → Goes c ts gs (n, o) (m, b) → IsFound f o → IsFound g b
  onward f g o b n m d e k x =
      let same : x.number ≡ n = one-number ts apart x.number n f x.named d in
      record { number = m; named = e; least = LeastOne (subst (λ i. Least (Base c ts gs sources) (Goes c ts gs) (i, o)) same x.least) k }

  moves : (f : Function) (h : Happening) (o b : Object) (n : ℕ) → EventOf (model c) (program c ts) f h → source_at c.depth h o ≡ Some b → function_at ts n ≡ Some f → Moves c ts gs n o b
  moves f h o b n w s e =
      let v = of-event c ts gs A apart f h w in
      record { function = f; graph = graph_at ts gs f; is = own-graph c ts gs A apart n f e; event = v.0; happens = v.1; source = subst (λ z. source_at c.depth z o ≡ Some b) v.2 s }

  -- an object is bound in a function that has a number
  pub numbered-bound : (f : Function) (h : Happening) (o : Object) → EventOf (model c) (program c ts) f h → BindsFrom sources c.machine c.depth f h o → (n : ℕ) × (function_at ts n ≡ Some f) × IsBound c ts gs sources n o
  numbered-bound f h o w k = by (numbered ts gs f)
    where
      by : ((n : ℕ) × (function_at ts n ≡ Some f)) ⊎ (graph_at ts gs f ≡ alone f.place) → (n : ℕ) × (function_at ts n ≡ Some f) × IsBound c ts gs sources n o
      by (inl x) =
          let v = of-event c ts gs A apart f h w in (
            x.0,
            x.1,
            record { function = f; graph = graph_at ts gs f; is = own-graph c ts gs A apart x.0 f x.1; event = v.0; happens = v.1; binds = subst (λ z. BindsFrom sources c.machine c.depth f z o) v.2 k },
          )
      by (inr e) =
          let v = of-event c ts gs A apart f h w in
          absurd (bound-exit sources c ts f o v.0 (only-exit f.place v.0 (subst (λ g. Happens g v.0) e v.1)) (subst (λ z. BindsFrom sources c.machine c.depth f z o) v.2 k))

  bound : (f : Function) (h : Happening) (o : Object) → EventOf (model c) (program c ts) f h → BindsFrom sources c.machine c.depth f h o → IsFound f o
  bound f h o w k = let b = numbered-bound f h o w k in record { number = b.0; named = b.1; least = LeastBase b.2 }

  pub relevant-found : (f : Function) (o : Object) → RelevantTo sources c ts f o → IsFound f o
  relevant-found f o (Bound _ h _ w b) = bound f h o w b
  relevant-found f b (Taken _ h o _ w s r) =
      let x = relevant-found f o r in
      onward f f o b x.number x.number x.named x.named (inl (AtEvent (moves f h o b x.number w s x.named))) x
  relevant-found f o (Given _ h _ b w s r) =
      let x = relevant-found f b r in
      onward f f b o x.number x.number x.named x.named (inr (AtEvent (moves f h o b x.number w s x.named))) x
  relevant-found f b (PassedBy _ g s o _ w i r) =
      let k = of-call c ts gs A apart f g s w in
      onward g f o b k.callee k.caller k.called k.calls (inl (AtEntry s k.call i)) (relevant-found g o r)
  relevant-found g o (PassedOn f _ s _ b w i r) =
      let k = of-call c ts gs A apart f g s w in
      onward f g b o k.caller k.callee k.calls k.called (inr (AtEntry s k.call i)) (relevant-found f b r)
  relevant-found g b (HandedBy f _ s o _ w i r) =
      let k = of-call c ts gs A apart f g s w in
      onward f g o b k.caller k.callee k.calls k.called (inl (AtReturn s k.call i)) (relevant-found f o r)
  relevant-found f o (HandedBack _ g s _ b w i r) =
      let k = of-call c ts gs A apart f g s w in
      onward g f b o k.callee k.caller k.called k.calls (inr (AtReturn s k.call i)) (relevant-found g b r)

  -- THE RELEVANT OBJECTS of a function are what is found
  pub found : (n : ℕ) (f : Function) (o : Object) → function_at ts n ≡ Some f → Least (Base c ts gs sources) (Goes c ts gs) (n, o) ↔ RelevantTo sources c ts f o
  found n f o e = (
    λ l. found-relevant l f e,
    λ r. let x = relevant-found f o r in subst (λ i. Least (Base c ts gs sources) (Goes c ts gs) (i, o)) (one-number ts apart x.number n f x.named e) x.least,
  )
