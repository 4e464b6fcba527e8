-- The flow functions of the exploded supergraph, as relations between facts: at the entry of a root, over an event,
-- into a callee, and back from it.
-- An object begins in the fact without object, where a move gives it no source; that is asked only of objects that are
-- followed.
use Rattle.std.specs.Prelude.{◌≡◌, Bool, Option, Some, None}
use Rattle.path_theory.specs.Model.{Model}
use Rattle.path_theory.specs.Origins.{Origins}
use Rattle.path_theory.specs.Facts.{NoObject, HasObject, Fact, Gives, Objects, IfNoObject}

module _ (M : Model) (L : Origins M) (A : Objects M) where
  pub data Starts (f : M.Fn) : Fact M → Type 0 where
    StartsNone : Starts f NoObject
    StartsUnknown : (o : M.Obj) → A f o → Starts f (HasObject o None)

  pub data EventFlow (f : M.Fn) (k : Bool) (e : M.Event) (g : M.Global) : Fact M → Fact M → Type 0 where
    EventNone : EventFlow f k e g NoObject NoObject
    EventObject : {t : Fact M} (o : M.Obj) (x : Option M.State) → IfNoObject t (A f o) → Gives (L.source e o) t x
        → EventFlow f k e g t (HasObject o (M.choose e f k g o x))

  pub data CallFlow (s : M.Site) (h : M.Fn) : Fact M → Fact M → Type 0 where
    CallNone : CallFlow s h NoObject NoObject
    CallObject : {t : Fact M} (c : M.Obj) (x : Option M.State) → A h c → Gives (L.into s c) t x
        → CallFlow s h t (HasObject c x)

  pub data ReturnFlow (s : M.Site) (f : M.Fn) : Fact M → Fact M → Type 0 where
    ReturnNone : ReturnFlow s f NoObject NoObject
    ReturnObject : (o c : M.Obj) (x : Option M.State) → A f o → L.out s o ≡ Some c
        → ReturnFlow s f (HasObject c x) (HasObject o x)
