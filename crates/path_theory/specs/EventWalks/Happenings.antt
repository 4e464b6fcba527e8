-- What happens to objects and to the global state while a tuple crosses events, as a report does, and at which of them.
use Rattle.std.specs.Prelude.{◌≡◌, ℕ, ◌+◌, zero, suc, Bool, List, ◌∷◌, Option, None, Some, ◌⊎◌}
use Rattle.path_theory.specs.Model.{Model}
use Rattle.path_theory.specs.Origins.{Origins}
use Rattle.path_theory.specs.Facts.{NoObject, Fact, Gives, Objects, IfNoObject}
use Rattle.path_theory.specs.Flows.{EventFlow}
use Rattle.path_theory.specs.EventWalks.Walks.{Tuples}

-- what may happen at an event in a frame: to an object, by its state behind the event's move, and to the global state
abbrev pub ToObjects : Model → Type 0 → Type 1
ToObjects M R = M.Event → M.Fn → Bool → M.Global → M.Obj → Option M.State → R → Type 0

abbrev pub ToGlobals : Model → Type 0 → Type 1
ToGlobals M R = M.Event → M.Fn → Bool → M.Global → R → Type 0

module _ (M : Model) (L : Origins M) (A : Objects M) {R : Type 0} (O : ToObjects M R) (G : ToGlobals M R) (f : M.Fn) (k : Bool) where
  -- IT HAPPENS at an event, to an object of the tuple that stands before, or to the global state
  pub data HappensHere (e : M.Event) (g : M.Global) : Fact M → Option M.Obj → R → Type 0 where
    ToObject : {t : Fact M} {a : R} (o : M.Obj) (x : Option M.State) → IfNoObject t (A f o) → Gives (L.source e o) t x → O e f k g o x a
        → HappensHere e g t (Some o) a
    ToGlobal : {a : R} → G e f k g a → HappensHere e g NoObject None a

  -- at the event with this number, counted from 0
  pub data HappensAt : List M.Event → ℕ → M.Global → Fact M → Option M.Obj → R → Type 0 where
    Here : {e : M.Event} {es : List M.Event} {g : M.Global} {t : Fact M} {q : Option M.Obj} {a : R} → HappensHere e g t q a
        → HappensAt (e ∷ es) zero g t q a
    Later : {e : M.Event} {es : List M.Event} {n : ℕ} {g : M.Global} {t u : Fact M} {q : Option M.Obj} {a : R} → EventFlow M L A f k e g t u
        → HappensAt es n (M.next_global e f k g) u q a → HappensAt (e ∷ es) (suc n) g t q a

  -- the events before the one with this number are gone over: what happens to a tuple over all of them has been noted, or happens to
  -- the set that stands before those that are left
  pub record Noted (all left : List M.Event) (n : ℕ) (g : M.Global) (t : Fact M) (X : Tuples M) (Out : ℕ → Option M.Obj → R → Type 0) : Type 0 where
    pub noted : (m : ℕ) (q : Option M.Obj) (a : R) → Out m q a → HappensAt all m g t q a
    pub coming : (h : M.Global) (u : Fact M) (m : ℕ) (q : Option M.Obj) (a : R) → X h u → HappensAt left m h u q a → HappensAt all (n + m) g t q a
    pub whole : (m : ℕ) (q : Option M.Obj) (a : R) → HappensAt all m g t q a
        → Out m q a ⊎ ((j : ℕ) × (m ≡ n + j) × (h : M.Global) × (u : Fact M) × X h u × HappensAt left j h u q a)

  -- what happens at one more event is noted
  pub record Notes (e : M.Event) (n : ℕ) (X : Tuples M) (Old New : ℕ → Option M.Obj → R → Type 0) : Type 0 where
    pub real : (m : ℕ) (q : Option M.Obj) (a : R) → New m q a
        → Old m q a ⊎ ((m ≡ n) × (h : M.Global) × (u : Fact M) × X h u × HappensHere e h u q a)
    pub kept : (m : ℕ) (q : Option M.Obj) (a : R) → Old m q a → New m q a
    pub added : (h : M.Global) (u : Fact M) (q : Option M.Obj) (a : R) → X h u → HappensHere e h u q a → New n q a
