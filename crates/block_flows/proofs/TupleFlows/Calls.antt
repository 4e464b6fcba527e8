-- Tuples at entries of callees and behind calls: the lists that the code makes have exactly these.
use Rattle.std.proofs.Common.{◌≡◌, ◌⊎◌, inl, inr, ℕ, List, [], ◌∷◌, ◌++◌, Option, None, Some, true, refl, sym, ap, subst, ◌∙◌}
use Rattle.c_objects.specs.Objects.{Object}
use Rattle.path_model.specs.CheckerModel.Checkers.{model}
use Rattle.path_model.specs.CheckerModel.Choices.{State}
use Rattle.path_model.specs.CheckerModel.Happenings.{Function, Site}
use Rattle.path_model.specs.CheckerModel.Reports.{Checker}
use Rattle.least_set.specs.Logs.{IsExactly, SomeGives}
use Rattle.path_theory.specs.Facts.{FactOf, NoObject, HasObject, Gives}
use Rattle.path_theory.specs.Flows.{CallFlow, CallNone, CallObject, ReturnFlow, ReturnNone, ReturnObject}
use Rattle.state_tuples.specs.declared.tuple.Tuple.{Tuple}
use Rattle.block_flows.specs.TupleFlows.Facts.{fact_of, fact_in, is_in, listed, origins_in, with_object, without_object}
use Rattle.block_flows.specs.TupleFlows.Passed.{into_in, out_in, IsEntered, IsReturned}
use Rattle.block_flows.proofs.TupleFlows.Followed.{contains-in, in-contains}
use Rattle.block_flows.proofs.TupleFlows.Lists.{exactly-push, exactly-same, exactly-alone}
use Rattle.block_flows.proofs.TupleFlows.Tuples.{same-tuple, given-object, given-state, gives}

some≢none : (o : Object) → Some o ≡ None → ⊥
some≢none o h = cc

no≢has : (o : Object) (x : Option State) → NoObject ≡ HasObject o x → ⊥
no≢has o x h = cc

-- a tuple with one of these objects, in the state of the tuple before, where the object that it has its state from is this one, or none
abbrev pub Taking : (Object → Option Object) → Option Object → Tuple → Object → Tuple → Type 0
Taking S q t o u = (S o ≡ q) × (with_object t o ≡ u)

-- where it is that of the tuple before
abbrev pub From : (Object → Option Object) → Tuple → Object → Tuple → Type 0
From S t = Taking S t.object t

module _ (c : Checker) (s : Site) (f : Function) (here there : List Object) (t : Tuple) where
  abbrev Into : FactOf Object State → FactOf Object State → Type 0
  Into = CallFlow (model c) (origins_in c here there) (listed c there) s f

  abbrev Back : FactOf Object State → FactOf Object State → Type 0
  Back = ReturnFlow (model c) (origins_in c here there) (listed c here) s f

  abbrev Enters : Object → Option Object
  Enters = into_in c.depth s here there

  abbrev Returns : Object → Option Object
  Returns = out_in c.depth s here there

  entered-with : (o : Object) → is_in there o ≡ true → Enters o ≡ t.object → IsEntered c s f here there t (with_object t o)
  entered-with o m e = record {
    global = refl;
    fact = CallObject o t.state m (gives (Enters o) t.object t.state t.bare e);
  }

  entered-object : (u v : FactOf Object State) (o : Object) (x : Option State) → HasObject o x ≡ v → Into u v → (is_in there o ≡ true) × Gives (Enters o) u x
  entered-object u _ o x e CallNone = absurd (no≢has o x (sym e))
  entered-object u _ o x e (CallObject p y m g) =
      let a : p ≡ o = cc in
      let b : y ≡ x = cc in
      (subst (λ z. is_in there z ≡ true) a m, subst (λ z. Gives (Enters z) u x) a (subst (λ z. Gives (Enters p) u z) b g))

  entered-none : (u v : FactOf Object State) → NoObject ≡ v → Into u v → u ≡ NoObject
  entered-none _ _ e CallNone = refl
  entered-none u _ e (CallObject p y m g) = absurd (no≢has p y e)

  no-object-there : (q : Option Object) (x : Option State) → fact_of q x ≡ NoObject → q ≡ None
  no-object-there None x e = refl
  no-object-there (Some o) x e = absurd (no≢has o x (sym e))

  from-entered : (u : Tuple) → IsEntered c s f here there t u → (v : FactOf Object State) → v ≡ fact_in u
      → SomeGives (From Enters t) there u ⊎ ((t.object ≡ None) × (without_object t ≡ u))
  from-entered u w NoObject e = inr (no-object-there t.object t.state (entered-none (fact_in t) (fact_in u) e w.fact), same-tuple (without_object t) u (sym w.global) e)
  from-entered u w (HasObject o x) e =
      let b = entered-object (fact_in t) (fact_in u) o x e w.fact in
      let same : x ≡ t.state = given-state (Enters o) t.object t.state x t.bare b.1 in
      let source = given-object (Enters o) t.object t.state x b.1 in
      inl (o, in-contains there o b.0, (source, same-tuple (with_object t o) u (sym w.global) (ap (HasObject o) (sym same) ∙ e)))

  from-one : (u : Tuple) → SomeGives (From Enters t) there u → IsEntered c s f here there t u
  from-one u m = subst (IsEntered c s f here there t) m.2.1 (entered-with m.0 (contains-in there m.0 m.1) m.2.0)

  -- at an entry, where there is no object and where there is one
  pub entered-without : (out : List Tuple) → t.object ≡ None → IsExactly out (SomeGives (From Enters t) there) → IsExactly (out ++ without_object t ∷ []) (IsEntered c s f here there t)
  entered-without out e x = exactly-push (SomeGives (From Enters t) there) (IsEntered c s f here there t) out (without_object t) x
      (record { global = refl; fact = subst (λ z. Into (fact_of z t.state) NoObject) (sym e) CallNone })
      from-one
      (λ u w. elim (from-entered u w (fact_in u) refl) [ inl m ↦ inl m | inr m ↦ inr m.1 ])

  pub entered-object-alone : (out : List Tuple) (b : Object) → t.object ≡ Some b → IsExactly out (SomeGives (From Enters t) there) → IsExactly out (IsEntered c s f here there t)
  entered-object-alone out b e x = exactly-same (SomeGives (From Enters t) there) (IsEntered c s f here there t) out x from-one
      (λ u w. elim (from-entered u w (fact_in u) refl) [ inl m ↦ m | inr m ↦ absurd (some≢none b (sym e ∙ m.0)) ])

  -- behind a call
  returned-with : (o b : Object) → is_in here o ≡ true → t.object ≡ Some b → Returns o ≡ t.object → IsReturned c s f here there t (with_object t o)
  returned-with o b m h e = record {
    global = refl;
    fact = by t.object t.state h (Returns o) refl e;
  }
    where
      by : (q : Option Object) (x : Option State) → q ≡ Some b → (p : Option Object) → Returns o ≡ p → p ≡ q
          → Back (fact_of q x) (HasObject o x)
      by None x k p at same = absurd (some≢none b (sym k))
      by (Some d) x k p at same = ReturnObject o d x m (at ∙ same)

  returned-object : (u v : FactOf Object State) (o : Object) (x : Option State) → HasObject o x ≡ v → Back u v
      → (is_in here o ≡ true) × (d : Object) × (Returns o ≡ Some d) × (HasObject d x ≡ u)
  returned-object _ _ o x e ReturnNone = absurd (no≢has o x (sym e))
  returned-object _ _ o x e (ReturnObject p d y m g) =
      let a : p ≡ o = cc in
      let b : y ≡ x = cc in
      (subst (λ z. is_in here z ≡ true) a m, d, subst (λ z. Returns z ≡ Some d) a g, ap (HasObject d) (sym b))

  returned-none : (u v : FactOf Object State) → NoObject ≡ v → Back u v → u ≡ NoObject
  returned-none _ _ e ReturnNone = refl
  returned-none _ _ e (ReturnObject p d y m g) = absurd (no≢has p y e)

  by-fact : (q : Option Object) (x y : Option State) (d : Object) → HasObject d y ≡ fact_of q x → (q ≡ Some d) × (y ≡ x)
  by-fact None x y d e = absurd (no≢has d y (sym e))
  by-fact (Some p) x y d e = (cc, cc)

  from-returned : (u : Tuple) → IsReturned c s f here there t u → (v : FactOf Object State) → v ≡ fact_in u
      → SomeGives (From Returns t) here u ⊎ ((t.object ≡ None) × (without_object t ≡ u))
  from-returned u w NoObject e = inr (no-object-there t.object t.state (returned-none (fact_in t) (fact_in u) e w.fact), same-tuple (without_object t) u (sym w.global) e)
  from-returned u w (HasObject o x) e =
      let b = returned-object (fact_in t) (fact_in u) o x e w.fact in
      let p = by-fact t.object t.state x b.1 b.3 in
      inl (o, in-contains here o b.0, (b.2 ∙ sym p.0, same-tuple (with_object t o) u (sym w.global) (ap (HasObject o) (sym p.1) ∙ e)))

  pub returned-without : t.object ≡ None → IsExactly (without_object t ∷ []) (IsReturned c s f here there t)
  returned-without e = exactly-alone (IsReturned c s f here there t) (without_object t)
      (record { global = refl; fact = subst (λ z. Back (fact_of z t.state) NoObject) (sym e) ReturnNone })
      (λ u w. by u w (fact_in u) refl)
    where
      by : (u : Tuple) → IsReturned c s f here there t u → (v : FactOf Object State) → v ≡ fact_in u → without_object t ≡ u
      by u w NoObject h = same-tuple (without_object t) u (sym w.global) h
      by u w (HasObject o x) h =
          let b = returned-object (fact_in t) (fact_in u) o x h w.fact in
          absurd (some≢none b.1 (sym (by-fact t.object t.state x b.1 b.3).0 ∙ e))

  pub returned-object-alone : (list : List Tuple) (b : Object) → t.object ≡ Some b → IsExactly list (SomeGives (From Returns t) here) → IsExactly list (IsReturned c s f here there t)
  returned-object-alone list b e x = exactly-same (SomeGives (From Returns t) here) (IsReturned c s f here there t) list x
      (λ u m. subst (IsReturned c s f here there t) m.2.1 (returned-with m.0 b (contains-in here m.0 m.1) e m.2.0))
      (λ u w. elim (from-returned u w (fact_in u) refl) [ inl m ↦ m | inr m ↦ absurd (some≢none b (sym e ∙ m.0)) ])

-- what is said of a site of the program, and of the object of a tuple, is said of a call that passes the same, and of the tuple
module _ (depth d : ℕ) (r s : Site) (here there : List Object) (t : Tuple) (q : Option Object) (list : List Tuple) (e : d ≡ depth) (f : s.formals ≡ r.formals) (a : s.actuals ≡ r.actuals) (is : t.object ≡ q) where
  from-object : (S : Object → Option Object) (objects : List Object) → IsExactly list (SomeGives (Taking S q t) objects) → IsExactly list (SomeGives (From S t) objects)
  from-object S objects x = subst (λ z. IsExactly list (SomeGives (Taking S z t) objects)) (sym is) x

  pub into-there : IsExactly list (SomeGives (Taking (into_in depth r here there) q t) there) → IsExactly list (SomeGives (From (into_in d s here there) t) there)
  into-there x = subst (λ (S : Object → Option Object). IsExactly list (SomeGives (From S t) there))
      (λ i o. into_in (sym e i) (record { callee = None; formals = sym f i; actuals = sym a i }) here there o) (from-object (into_in depth r here there) there x)

  pub out-there : IsExactly list (SomeGives (Taking (out_in depth r here there) q t) here) → IsExactly list (SomeGives (From (out_in d s here there) t) here)
  out-there x = subst (λ (S : Object → Option Object). IsExactly list (SomeGives (From S t) here))
      (λ i o. out_in (sym e i) (record { callee = None; formals = sym f i; actuals = sym a i }) here there o) (from-object (out_in depth r here there) here x)
