-- What one block does to a tuple: the edges of a block summary, from its head to its end, and the reports on the way.
-- An engine enters a block once for each tuple at its head, and needs these alone.
use Rattle.std.specs.Prelude.{Bool, Option, List, [], ◌∷◌}
use Rattle.path_theory.specs.Model.{Model}
use Rattle.path_theory.specs.Origins.{Origins}
use Rattle.path_theory.specs.Facts.{NoObject, Fact, Gives, Objects, IfNoObject}
use Rattle.path_theory.specs.Flows.{EventFlow}

module _ (M : Model) (L : Origins M) (A : Objects M) where
  -- a tuple crosses a list of events and becomes another
  pub data Crosses (f : M.Fn) (k : Bool) : List M.Event → M.Global → Fact M → M.Global → Fact M → Type 0 where
    CrossesNone : {g : M.Global} {t : Fact M} → Crosses f k [] g t g t
    CrossesOne : {e : M.Event} {es : List M.Event} {g i : M.Global} {t u v : Fact M} → EventFlow M L A f k e g t u
        → Crosses f k es (M.next_global e f k g) u i v → Crosses f k (e ∷ es) g t i v

  -- and gives a report on the way
  pub data Shows (f : M.Fn) (k : Bool) (r : M.Report) : List M.Event → M.Global → Fact M → Type 0 where
    ShowsObject : {e : M.Event} {es : List M.Event} {g : M.Global} {t : Fact M} (o : M.Obj) (x : Option M.State)
        → IfNoObject t (A f o) → Gives (L.source e o) t x → M.Fires e f k g o x r → Shows f k r (e ∷ es) g t
    ShowsGlobal : {e : M.Event} {es : List M.Event} {g : M.Global} → M.FiresGlobal e f k g r
        → Shows f k r (e ∷ es) g NoObject
    ShowsLater : {e : M.Event} {es : List M.Event} {g : M.Global} {t u : Fact M} → EventFlow M L A f k e g t u
        → Shows f k r es (M.next_global e f k g) u → Shows f k r (e ∷ es) g t
