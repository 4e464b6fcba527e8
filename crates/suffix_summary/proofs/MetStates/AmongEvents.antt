-- What takes a rule at one of some events while it is unknown: one event more, and the event at which it is.
use Rattle.std.proofs.Common.{◌≡◌, ◌⊎◌, inl, inr, ℕ, zero, suc, Bool, List, [], ◌∷◌, ◌++◌, length, slice_get, Some, refl, ap, subst}
use Rattle.block_flows.specs.Events.{AreOfEvents}
use Rattle.c_objects.specs.Objects.{Object}
use Rattle.masked_paths.specs.Met.{global_behind}
use Rattle.metal_tree.specs.MetalMachines.Machine.{Machine}
use Rattle.path_model.specs.CheckerModel.Checkers.{model}
use Rattle.path_model.specs.CheckerModel.Choices.{next_global}
use Rattle.path_model.specs.CheckerModel.Happenings.{Function, Happening}
use Rattle.path_model.specs.CheckerModel.Reports.{Checker}
use Rattle.suffix_summary.specs.MetStates.{TakesUnknown, TakesAmong}
use Rattle.state_tuples.specs.AppliedRules.Events.{AreOfEvent}
use Rattle.state_tuples.specs.declared.applied_rules.rules.EventRules.{EventRules}

module _ (c : Checker) (f : Function) (k : Bool) where
  abbrev behind : List Happening → ℕ → ℕ
  behind = global_behind (model c) f k

  abbrev next : Happening → ℕ → ℕ
  next h = next_global c.machine c.depth h f k

  -- the global state behind one event more
  pub behind-more : (hs : List Happening) (h : Happening) (g : ℕ) → next h (behind hs g) ≡ behind (hs ++ h ∷ []) g
  behind-more [] h g = refl
  behind-more (d ∷ hs) h g = behind-more hs h (next d g)

  -- one event more
  pub among-more : (hs : List Happening) (h : Happening) (g : ℕ) (o : Object) → TakesAmong c f k (hs ++ h ∷ []) g o
      → TakesAmong c f k hs g o ⊎ TakesUnknown c f k h (behind hs g) o
  among-more [] h g o (inl t) = inr t
  among-more [] h g o (inr n) = absurd n
  among-more (d ∷ hs) h g o (inl t) = inl (inl t)
  among-more (d ∷ hs) h g o (inr w) = elim (among-more hs h (next d g) o w) [ inl a ↦ inl (inr a) | inr t ↦ inr t ]

  pub among-left : (hs : List Happening) (h : Happening) (g : ℕ) (o : Object) → TakesAmong c f k hs g o → TakesAmong c f k (hs ++ h ∷ []) g o
  among-left [] h g o w = absurd w
  among-left (d ∷ hs) h g o (inl t) = inl t
  among-left (d ∷ hs) h g o (inr w) = inr (among-left hs h (next d g) o w)

  pub among-at : (before : List Happening) (h : Happening) (later : List Happening) (g : ℕ) (o : Object) → TakesUnknown c f k h (behind before g) o
      → TakesAmong c f k (before ++ h ∷ later) g o
  among-at [] h later g o t = inl t
  among-at (d ∷ before) h later g o t = inr (among-at before h later (next d g) o t)

  -- and at which event it is
  pub record TakesBehind (hs : List Happening) (g : ℕ) (o : Object) : Type 0 where
    pub before : List Happening
    pub event : Happening
    pub later : List Happening
    pub events : hs ≡ before ++ event ∷ later
    pub takes : TakesUnknown c f k event (behind before g) o

  pub split-at : (hs : List Happening) (g : ℕ) (o : Object) → TakesAmong c f k hs g o → TakesBehind hs g o
  split-at [] g o w = absurd w
  split-at (h ∷ hs) g o (inl t) = record { before = []; event = h; later = hs; events = refl; takes = t }
  split-at (h ∷ hs) g o (inr w) =
      let s = split-at hs (next h g) o w in
      record { before = h ∷ s.before; event = s.event; later = s.later; events = ap (λ (l : List Happening). h ∷ l) s.events; takes = s.takes }

-- the event with rules is that at their place
module _ (m : Machine) (depth : ℕ) (f : Function) where
  pub rules-at : (hs : List Happening) (rs : List EventRules) (i : ℕ) (r : EventRules) → AreOfEvents m depth f hs rs → slice_get rs i ≡ Some r
      → (h : Happening) × (slice_get hs i ≡ Some h) × AreOfEvent m depth h f r
  rules-at [] [] i r a e = cc
  rules-at [] (x ∷ rs) i r a e = absurd a
  rules-at (h ∷ hs) [] i r a e = absurd a
  rules-at (h ∷ hs) (x ∷ rs) zero r a e = let same : x ≡ r = cc in (h, refl, subst (AreOfEvent m depth h f) same a.0)
  rules-at (h ∷ hs) (x ∷ rs) (suc i) r a e = rules-at hs rs i r a.1 e

  pub as-many : (hs : List Happening) (rs : List EventRules) → AreOfEvents m depth f hs rs → length hs ≡ length rs
  as-many [] [] a = refl
  as-many [] (x ∷ rs) a = absurd a
  as-many (h ∷ hs) [] a = absurd a
  as-many (h ∷ hs) (x ∷ rs) a = ap suc (as-many hs rs a.1)

pub none-among : (c : Checker) (f : Function) (k : Bool) (hs : List Happening) (g : ℕ) (o : Object) → AreOfEvents c.machine c.depth f hs [] → TakesAmong c f k hs g o → ⊥
none-among c f k [] g o a w = w
none-among c f k (h ∷ hs) g o a w = a
