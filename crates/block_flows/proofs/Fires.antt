-- What is noted of rules with an action that are taken at one event, and on the way over all.
use Rattle.std.proofs.Common.{◌≡◌, ◌⊎◌, inl, inr, ℕ, zero, ◌+◌, ◌<◌, Bool, List, [], ◌∷◌, ◌++◌, map, take, length, get_or, Option, None, Some, Contains, refl, sym, ap, subst, ◌∙◌, append-nil}
use Rattle.std.specs.List.{filter_map, cons_option}
use Rattle.std.specs.Option.{option_map}
use Rattle.std.proofs.lemmas.List.{take_more, map-append}
use Rattle.std.proofs.lemmas.List.Elements.{filter_map-append, Contains-append_left, Contains-append_right, Contains-append_cases}
use Rattle.block_flows.specs.Firings.{acting, ObjectActs, GlobalActs, Fire, TakenHere, TakenAt, fires_here, fire_of}
use Rattle.block_flows.proofs.Standing.{standing, alone, no-other, walks}
use Rattle.c_objects.specs.Objects.{Object}
use Rattle.type_rules.specs.Options.{if_there}
use Rattle.path_model.specs.CheckerModel.Checkers.{model}
use Rattle.path_model.specs.CheckerModel.Choices.{State, Taken, taken, taken_global}
use Rattle.path_model.specs.CheckerModel.Happenings.{Function, Happening}
use Rattle.path_model.specs.CheckerModel.Moves.{move_of}
use Rattle.path_model.specs.CheckerModel.Reports.{Checker}
use Rattle.path_theory.specs.EventWalks.Happenings.{HappensHere, ToObject, ToGlobal, Noted, Notes}
use Rattle.path_theory.proofs.EventWalks.Noting.{noted-start, noted-next, noted-end}
use Rattle.least_set.specs.Logs.{IsExactly, SomeGives}
use Rattle.least_set.proofs.Growing.{nothing}
use Rattle.path_theory.specs.Facts.{FactOf, NoObject, HasObject}
use Rattle.state_tuples.specs.declared.tuple.Tuple.{Tuple}
use Rattle.block_flows.specs.TupleFlows.Behind.{IsBehind}
use Rattle.block_flows.specs.TupleFlows.Facts.{fact_of, fact_in, listed, origins_in}
use Rattle.block_flows.specs.TupleFlows.Moved.{MoveFlow, MovesNone, MovesObject, IsMoved}
use Rattle.block_flows.proofs.TupleFlows.Lists.{contains-first, contains-later, contains-cases}
use Rattle.block_flows.proofs.TupleFlows.Tuples.{tuple_of}

-- lists of what some values give
module _ {T B : Type 0} (F : T → Option B) where
  front : (x : T) (xs : List T) (b : B) (o : Option B) → F x ≡ o → Contains (cons_option o (filter_map F xs)) b
      → (Contains (filter_map F xs) b → (y : T) × Contains xs y × (F y ≡ Some b)) → (y : T) × Contains (x ∷ xs) y × (F y ≡ Some b)
  front x xs b None e m later = let r = later m in (r.0, contains-later x r.0 xs r.1, r.2)
  front x xs b (Some d) e m later = elim (contains-cases d b (filter_map F xs) m) [
    | inl s ↦ (x, contains-first x xs, e ∙ ap Some s)
    | inr k ↦ let r = later k in (r.0, contains-later x r.0 xs r.1, r.2)
  ]

  pub gives-some : (xs : List T) (b : B) → Contains (filter_map F xs) b → (x : T) × Contains xs x × (F x ≡ Some b)
  gives-some [] b m = absurd (nothing b m)
  gives-some (x ∷ xs) b m = front x xs b (F x) refl m (λ n. gives-some xs b n)

  pub some-gives : (xs : List T) (x : T) (b : B) → Contains xs x → F x ≡ Some b → Contains (filter_map F xs) b
  some-gives [] x b m e = absurd (nothing x m)
  some-gives (y ∷ ys) x b m e = elim (contains-cases y x ys m) [
    | inl s ↦ here (F y) (ap F s ∙ e)
    | inr k ↦ there (F y) (some-gives ys x b k e)
  ]
    where
      here : (o : Option B) → o ≡ Some b → Contains (cons_option o (filter_map F ys)) b
      here o h = subst (λ z. Contains (cons_option z (filter_map F ys)) b) (sym h) (contains-first b (filter_map F ys))

      there : (o : Option B) → Contains (filter_map F ys) b → Contains (cons_option o (filter_map F ys)) b
      there None k = k
      there (Some d) k = contains-later d b (filter_map F ys) k

-- a list that grows by what the next value gives
module _ {A T B : Type 0} (view : A → B) (F : T → Option B) (xs : List T) (i : ℕ) (x : T) (out : List A) (within : i < length xs) (is : x ≡ get_or xs i x)
    (before : map view out ≡ filter_map F (take i xs)) where
  whole : filter_map F (take (i + 1) xs) ≡ map view out ++ filter_map F (x ∷ [])
  whole =
      ap (filter_map F) (take_more xs i x within)
      ∙ filter_map-append F (take i xs) (get_or xs i x ∷ [])
      ∙ ap (λ z. z ++ filter_map F (get_or xs i x ∷ [])) (sym before)
      ∙ ap (λ z. map view out ++ filter_map F (z ∷ [])) (sym is)

  one : (b : B) (o : Option B) → o ≡ Some b → cons_option o [] ≡ b ∷ []
  one b o h = ap (λ z. cons_option z []) h

  pub gave : (new : List A) (d : A) → new ≡ out ++ d ∷ [] → F x ≡ Some (view d) → map view new ≡ filter_map F (take (i + 1) xs)
  gave new d pushed e = ap (map view) pushed ∙ map-append view out (d ∷ []) ∙ ap (λ z. map view out ++ z) (sym (one (view d) (F x) e)) ∙ sym whole

  pub gave-none : F x ≡ None → map view out ≡ filter_map F (take (i + 1) xs)
  gave-none e = sym (append-nil (map view out)) ∙ ap (λ z. map view out ++ cons_option z []) (sym e) ∙ sym whole

-- lists one behind the other
pub exactly-joined : {T B : Type 0} (G : T → B → Type 0) (xs : List T) (i : ℕ) (x : T) (out more : List B) → i < length xs → x ≡ get_or xs i x
    → IsExactly out (SomeGives G (take i xs)) → IsExactly more (G x) → IsExactly (out ++ more) (SomeGives G (take (i + 1) xs))
exactly-joined G xs i x out more within is o m = subst (λ l. IsExactly (out ++ more) (SomeGives G l)) (sym (take_more xs i x within)) (
  λ b c. elim (Contains-append_cases out more b c) [
    | inl l ↦ let s = o.0 b l in (s.0, Contains-append_left (take i xs) (get_or xs i x ∷ []) s.0 s.1, s.2)
    | inr r ↦ (get_or xs i x, Contains-append_right (take i xs) (get_or xs i x ∷ []) (get_or xs i x) (contains-first (get_or xs i x) []), subst (λ z. G z b) is (m.0 b r))
  ],
  λ b s. elim (Contains-append_cases (take i xs) (get_or xs i x ∷ []) s.0 s.1) [
    | inl l ↦ Contains-append_left out more b (o.1 b (s.0, l, s.2))
    | inr r ↦ Contains-append_right out more b (m.1 b (subst (λ z. G z b) (sym (at s.0 r)) s.2))
  ],
)
  where
    at : (y : _) → Contains (get_or xs i x ∷ []) y → x ≡ y
    at y r = elim (contains-cases (get_or xs i x) y [] r) [ inl e ↦ is ∙ e | inr n ↦ absurd (nothing y n) ]

mapped : {A B : Type 0} (g : A → B) (o : Option A) (b : B) → option_map g o ≡ Some b → (a : A) × (o ≡ Some a) × (g a ≡ b)
mapped g None b h = cc
mapped g (Some a) b h = (a, refl, cc)

abbrev pub fire : ℕ → Option Object → Taken → Fire
fire n o r = record { event = n; object = o; taken = r }

module _ (c : Checker) (f : Function) (k : Bool) (followed : List Object) where
  abbrev Here : Happening → ℕ → FactOf Object State → Option Object → Taken → Type 0
  Here h = HappensHere (model c) (origins_in c followed followed) (listed c followed) (ObjectActs c) (GlobalActs c) f k h

  abbrev Moves : Happening → FactOf Object State → FactOf Object State → Type 0
  Moves h = MoveFlow c.depth (move_of h.facts c.depth h.event) followed

  -- what a tuple behind the move takes
  takes-none : (h : Happening) (g : ℕ) (v : FactOf Object State) (r : Taken) → Moves h v NoObject → GlobalActs c h f k g r → Here h g v None r
  takes-none h g _ r MovesNone a = ToGlobal a

  takes-object : (h : Happening) (g : ℕ) (v : FactOf Object State) (b : Object) (x : Option State) (r : Taken) → Moves h v (HasObject b x) → ObjectActs c h f k g b x r
      → Here h g v (Some b) r
  takes-object h g v _ _ r (MovesObject b x i s) a = ToObject b x i s a

  takes : (h : Happening) (g : ℕ) (v : FactOf Object State) (o : Option Object) (x : Option State) (r : Taken) → Moves h v (fact_of o x)
      → if_there o (acting (taken_global c.machine c.depth h f k g)) (λ b. acting (taken c.machine c.depth h f k g b x)) ≡ Some r → Here h g v o r
  takes h g v None x r w a = takes-none h g v r w a
  takes h g v (Some b) x r w a = takes-object h g v b x r w a

  -- what is taken is taken by one of those behind the move
  taken-by : (h : Happening) (g : ℕ) (v : FactOf Object State) (q : Option Object) (r : Taken) → Here h g v q r
      → (u : Tuple) × (u.global ≡ g) × Moves h v (fact_in u) × (fires_here c h f k u ≡ Some r) × (u.object ≡ q)
  taken-by h g v _ r (ToObject o x i s a) = (tuple_of g (HasObject o x), refl, MovesObject o x i s, a, refl)
  taken-by h g _ _ r (ToGlobal a) = (tuple_of g NoObject, refl, MovesNone, a, refl)

  fires-here : (h : Happening) (n : ℕ) (t u : Tuple) (y : Fire) → IsMoved c.depth (move_of h.facts c.depth h.event) followed t u → fire_of c h f k n u ≡ Some y
      → TakenHere c h f k followed n t y
  fires-here h n t u y w e =
      let p = mapped (fire n u.object) (fires_here c h f k u) y e in
      let at = takes h u.global (fact_in t) u.object u.state p.0 w.fact p.1 in
      let there = subst (λ g. Here h g (fact_in t) u.object p.0) w.global at in
      record { event = ap (λ (z : Fire). z.event) (sym p.2); here = subst (λ (z : Fire). Here h t.global (fact_in t) z.object z.taken) p.2 there }

  fired-by : (h : Happening) (n : ℕ) (t : Tuple) (y : Fire) → TakenHere c h f k followed n t y
      → (u : Tuple) × IsMoved c.depth (move_of h.facts c.depth h.event) followed t u × (fire_of c h f k n u ≡ Some y)
  fired-by h n t y w =
      let b = taken-by h t.global (fact_in t) y.object y.taken w.here in
      let same : fire n b.0.object y.taken ≡ y = λ i. record { event = sym w.event i; object = b.4 i; taken = y.taken } in
      (b.0, record { global = b.1; fact = b.2 }, ap (option_map (fire n b.0.object)) b.3 ∙ ap Some same)

  -- WHAT IS TAKEN AT AN EVENT is what those behind the move take
  pub fires : (h : Happening) (n : ℕ) (t : Tuple) (before : List Tuple) → IsExactly before (IsMoved c.depth (move_of h.facts c.depth h.event) followed t)
      → IsExactly (filter_map (fire_of c h f k n) before) (TakenHere c h f k followed n t)
  fires h n t before e = (
    λ y m. let s = gives-some (fire_of c h f k n) before y m in fires-here h n t s.0 y (e.0 s.0 s.1) s.2,
    λ y w. let b = fired-by h n t y w in some-gives (fire_of c h f k n) before b.0 y (e.1 b.0 b.1) b.2,
  )

  -- on the way over all events
  abbrev noted_in : List Fire → ℕ → Option Object → Taken → Type 0
  noted_in list n q r = Contains list (fire n q r)

  abbrev pub IsNoted : List Happening → List Happening → ℕ → Tuple → List Tuple → List Fire → Type 0
  IsNoted hs left n t now list =
      Noted (model c) (origins_in c followed followed) (listed c followed) (ObjectActs c) (GlobalActs c) f k hs left n t.global (fact_in t) (standing now) (noted_in list)

  pub notes-start : (hs : List Happening) (t : Tuple) → IsNoted hs hs zero t (t ∷ []) []
  notes-start hs t = noted-start (model c) (origins_in c followed followed) (listed c followed) (ObjectActs c) (GlobalActs c) f k hs t.global (fact_in t) (standing (t ∷ [])) (noted_in [])
      (alone t) (no-other t) (λ m q a o. nothing (fire m q a) o)

  notes : (h : Happening) (n : ℕ) (now : List Tuple) (old more : List Fire) → IsExactly more (SomeGives (TakenHere c h f k followed n) now)
      → Notes (model c) (origins_in c followed followed) (listed c followed) (ObjectActs c) (GlobalActs c) f k h n (standing now) (noted_in old) (noted_in (old ++ more))
  notes h n now old more e = record { real = real; kept = λ m q a o. Contains-append_left old more (fire m q a) o; added = added }
    where
      real : (m : ℕ) (q : Option Object) (a : Taken) → noted_in (old ++ more) m q a
          → noted_in old m q a ⊎ ((m ≡ n) × (g : ℕ) × (u : FactOf Object State) × standing now g u × Here h g u q a)
      real m q a o = elim (Contains-append_cases old more (fire m q a) o) [
        | inl l ↦ inl l
        | inr r ↦ let s = e.0 (fire m q a) r in inr (s.2.event, s.0.global, fact_in s.0, (s.0, s.1, refl, refl), s.2.here)
      ]

      added : (g : ℕ) (u : FactOf Object State) (q : Option Object) (a : Taken) → standing now g u → Here h g u q a → noted_in (old ++ more) n q a
      added g u q a (v, m, p, r) w =
          let at = subst (λ z. Here h z u q a) (sym p) w in
          let there = subst (λ z. Here h v.global z q a) (sym r) at in
          Contains-append_right old more (fire n q a) (e.1 (fire n q a) (v, m, record { event = refl; here = there }))

  pub notes-next : (hs : List Happening) (h : Happening) (was left : List Happening) (n : ℕ) (t : Tuple) (now new : List Tuple) (old more : List Fire) → was ≡ h ∷ left
      → IsNoted hs was n t now old → IsExactly new (SomeGives (IsBehind c h f k followed) now) → IsExactly more (SomeGives (TakenHere c h f k followed n) now)
      → IsNoted hs left (n + 1) t new (old ++ more)
  notes-next hs h was left n t now new old more e s x y =
      noted-next (model c) (origins_in c followed followed) (listed c followed) (ObjectActs c) (GlobalActs c) f k hs h left n t.global (fact_in t) (standing now) (standing new) (noted_in old) (noted_in (old ++ more))
      (subst (λ z. IsNoted hs z n t now old) e s) (walks c f k followed h now new x) (notes h n now old more y)

  pub notes-end : (hs left : List Happening) (n : ℕ) (t : Tuple) (now : List Tuple) (list : List Fire) → left ≡ [] → IsNoted hs left n t now list → IsExactly list (TakenAt c hs f k followed t)
  notes-end hs left n t now list e s =
      let at = subst (λ z. IsNoted hs z n t now list) e s in (
        λ y m. at.noted y.event y.object y.taken m,
        λ y w. noted-end (model c) (origins_in c followed followed) (listed c followed) (ObjectActs c) (GlobalActs c) f k hs n t.global (fact_in t) (standing now) (noted_in list) at y.event y.object y.taken w,
      )
