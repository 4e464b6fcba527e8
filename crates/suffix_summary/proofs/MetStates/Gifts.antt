-- What the events of a block give, from one object at one event up to all of them: each loop adds what it goes through.
use Rattle.std.proofs.Common.{◌≡◌, ◌↔◌, inl, inr, ℕ, ◌+◌, ◌<◌, ◌≤◌, Bool, true, false, List, [], ◌∷◌, ◌++◌, Contains, length, take, get_or, Option, None, Some, refl, sym, ap, subst, ◌∙◌}
use Rattle.std.specs.Option.{option_map}
use Rattle.std.specs.Prelude.{is_some}
use Rattle.std.proofs.lemmas.List.{take_all, take_more}
use Rattle.std.proofs.lemmas.List.Elements.{Contains-push, Contains-push_cases}
use Rattle.std.proofs.lemmas.Option.{get_or_from_slice_get, slice_get_read, slice_get_within}
use Rattle.block_flows.specs.Events.{AreOfEvents}
use Rattle.c_objects.specs.Objects.{Object}
use Rattle.least_set.specs.Logs.{Adds, SomeGives}
use Rattle.least_set.proofs.Growing.{adds_both, adds_none, adds_same, nothing}
use Rattle.masked_paths.specs.Met.{global_behind}
use Rattle.path_model.proofs.CheckerPrograms.Bound.{taken-gives}
use Rattle.path_model.specs.CheckerGraphs.Members.{Member, member}
use Rattle.path_model.specs.CheckerModel.Checkers.{model}
use Rattle.path_model.specs.CheckerModel.Choices.{Gives, next_global, taken}
use Rattle.path_model.specs.CheckerModel.Happenings.{Function, Happening}
use Rattle.path_model.specs.CheckerModel.Reports.{Checker}
use Rattle.suffix_summary.proofs.MetStates.AmongEvents.{behind-more, among-more, among-left, among-at, rules-at, as-many, none-among}
use Rattle.suffix_summary.specs.MetStates.{TakesUnknown, GivesOne, GivesAt, GivesAmong}
use Rattle.state_tuples.specs.AppliedRules.Events.{AreOfEvent}
use Rattle.state_tuples.specs.declared.applied_rules.rules.EventRules.{EventRules}

there : {A : Type 0} (q : Option A) → is_some q ≡ true → (a : A) × (q ≡ Some a)
there None e = cc
there (Some a) e = (a, refl)

pub some-mapped : {A B : Type 0} (f : A → B) (q : Option A) → is_some q ≡ is_some (option_map f q)
some-mapped f None = refl
some-mapped f (Some a) = refl

not-both : (b : Bool) → b ≡ false → b ≡ true → ⊥
not-both b e h = cc

-- what takes a rule is bound by one that begins in a global state
pub takes-gives : (c : Checker) (f : Function) (k : Bool) (h : Happening) (g : ℕ) (o : Object) → TakesUnknown c f k h g o → Gives c.machine c.depth f h o
takes-gives c f k h g o w = let t = there (taken c.machine c.depth h f k g o None) w in taken-gives c f h o k g t.0 t.1

module _ (c : Checker) (f : Function) (k : Bool) (n : ℕ) where
  -- at one event
  module _ (h : Happening) (g : ℕ) where
    pub gives-one : (o : Object) (old new : List Member) (b : Bool) → b ≡ true → b ≡ is_some (taken c.machine c.depth h f k g o None) → new ≡ old ++ member n o ∷ []
        → Adds (GivesOne c f k h g n o) old new
    gives-one o old new b true-is is pushed = record {
      more = member n o ∷ [];
      whole = pushed;
      added = λ y w. subst (λ l. Contains l y) (sym pushed) (subst (Contains (old ++ member n o ∷ [])) w.0 (Contains-push old (member n o)));
      only = λ y m. elim (Contains-push_cases [] (member n o) y m) [ inl n ↦ absurd (nothing y n) | inr s ↦ (s, sym is ∙ true-is) ];
    }

    pub gives-none : (o : Object) (old : List Member) (b : Bool) → b ≡ false → b ≡ is_some (taken c.machine c.depth h f k g o None) → Adds (GivesOne c f k h g n o) old old
    gives-none o old b false-is is = adds_none old (λ y w. not-both b false-is (is ∙ w.1))

    -- all that rules bind that begin in a global state were asked
    pub gives-at : (os : List Object) (old new : List Member) → ((o : Object) → Contains os o ↔ Gives c.machine c.depth f h o) → Adds (SomeGives (GivesOne c f k h g n) os) old new → Adds (GivesAt c f k h g n) old new
    gives-at os old new is v = adds_same v to from
      where
        to : (y : Member) → SomeGives (GivesOne c f k h g n) os y → GivesAt c f k h g n y
        to y s = (ap (λ (z : Member). z.0) (s.2).0, subst (λ (z : Member). TakesUnknown c f k h g z.1) (s.2).0 (s.2).1)

        from : (y : Member) → GivesAt c f k h g n y → SomeGives (GivesOne c f k h g n) os y
        from y w = (y.1, (is y.1).1 (takes-gives c f k h g y.1 w.1), (ap (λ m. member m y.1) w.0, w.1))

-- ---- at the events of a block, which begin in this global state

module _ (c : Checker) (f : Function) (k : Bool) (n first : ℕ) where
  abbrev behind : List Happening → ℕ
  behind hs = global_behind (model c) f k hs first

  abbrev Among : List Happening → Member → Type 0
  Among hs = GivesAmong c f k hs first n

  one-more : (xs : List Happening) (h : Happening) (old mid new : List Member) → Adds (Among xs) old mid → Adds (GivesAt c f k h (behind xs) n) mid new → Adds (Among (xs ++ h ∷ [])) old new
  one-more xs h old mid new v w = adds_both {R = Among (xs ++ h ∷ [])} v w
      (λ y r. elim (among-more c f k xs h first y.1 r.1) [ inl a ↦ inl (r.0, a) | inr t ↦ inr (r.0, t) ])
      (λ y p. (p.0, among-left c f k xs h first y.1 p.1))
      (λ y q. (q.0, among-at c f k xs h [] first y.1 q.1))

  pub none-yet : (old : List Member) → Adds (Among []) old old
  none-yet old = adds_none old (λ y w. w.1)

  module _ (hs : List Happening) (rules : List EventRules) (are : AreOfEvents c.machine c.depth f hs rules) where
    -- the events up to a place, and the one there
    record IsNext (i : ℕ) (r : EventRules) : Type 0 where
      event : Happening
      is : AreOfEvent c.machine c.depth event f r
      grown : take (i + 1) hs ≡ take i hs ++ event ∷ []

    next-event : (i : ℕ) (r : EventRules) → i < length rules → r ≡ get_or rules i r → IsNext i r
    next-event i r l q =
        let p = rules-at c.machine c.depth f hs rules i r are (slice_get_read rules (length rules) i r refl l q) in
        record {
          event = p.0;
          is = p.2;
          grown = take_more hs i p.0 (slice_get_within hs i p.0 p.1) ∙ ap (λ (z : Happening). take i hs ++ z ∷ []) (get_or_from_slice_get hs i p.0 p.0 p.1);
        }

    pub events-next : (i : ℕ) (r : EventRules) (g : ℕ) (old mid new : List Member) → i < length rules → r ≡ get_or rules i r → g ≡ behind (take i hs) → Adds (Among (take i hs)) old mid
        → ((h : Happening) → AreOfEvent c.machine c.depth h f r → Adds (GivesAt c f k h g n) mid new) → Adds (Among (take (i + 1) hs)) old new
    events-next i r g old mid new l q s v w =
        let x = next-event i r l q in
        subst (λ z. Adds (Among z) old new) (sym x.grown)
        (one-more (take i hs) x.event old mid new v (subst (λ z. Adds (GivesAt c f k x.event z n) mid new) s (w x.event x.is)))

    pub behind-next : (i : ℕ) (r : EventRules) (g m : ℕ) → i < length rules → r ≡ get_or rules i r → g ≡ behind (take i hs)
        → ((h : Happening) → AreOfEvent c.machine c.depth h f r → m ≡ next_global c.machine c.depth h f k g) → m ≡ behind (take (i + 1) hs)
    behind-next i r g m l q s w =
        let x = next-event i r l q in
        w x.event x.is ∙ ap (next_global c.machine c.depth x.event f k) s ∙ behind-more c f k (take i hs) x.event first ∙ ap behind (sym x.grown)

    pub events-all : (i : ℕ) (old new : List Member) → length rules ≤ i → Adds (Among (take i hs)) old new → Adds (Among hs) old new
    events-all i old new l v =
        let within : length hs ≤ i = subst (λ k. k ≤ i) (sym (as-many c.machine c.depth f hs rules are)) l in
        subst (λ z. Adds (Among z) old new) (take_all i hs within) v

  -- a block without events
  pub no-events : (hs : List Happening) (old : List Member) → AreOfEvents c.machine c.depth f hs [] → Adds (Among hs) old old
  no-events hs old are = adds_none old (λ y w. none-among c f k hs first y.1 are w.1)
