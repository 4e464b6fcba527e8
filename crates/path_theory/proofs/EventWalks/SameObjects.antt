-- What is said of a function asks which objects are followed there alone, so sets of objects that agree there say the same.
use Rattle.std.proofs.Common.{Bool, List}
use Rattle.path_theory.specs.Model.{Model}
use Rattle.path_theory.specs.Origins.{Origins}
use Rattle.path_theory.specs.Facts.{FactOf, NoObject, HasObject, Fact, Objects, IfNoObject}
use Rattle.path_theory.specs.Flows.{EventFlow, EventNone, EventObject, CallFlow, CallNone, CallObject, ReturnFlow, ReturnNone, ReturnObject}
use Rattle.path_theory.specs.BlockEdges.{Crosses, CrossesNone, CrossesOne, Shows, ShowsObject, ShowsGlobal, ShowsLater}

if-none : {O S : Type 0} {P Q : Type 0} (t : FactOf O S) → (P → Q) → IfNoObject t P → IfNoObject t Q
if-none NoObject h p = h p
if-none (HasObject o x) h p = p

module _ (M : Model) (L : Origins M) (A B : Objects M) (f : M.Fn) (same : (o : M.Obj) → A f o → B f o) where
  pub event-flow : {k : Bool} {e : M.Event} {g : M.Global} {t u : Fact M} → EventFlow M L A f k e g t u → EventFlow M L B f k e g t u
  event-flow EventNone = EventNone
  event-flow (EventObject {t = t} o x i s) = EventObject o x (if-none t (same o) i) s

  pub call-flow : {s : M.Site} {t u : Fact M} → CallFlow M L A s f t u → CallFlow M L B s f t u
  call-flow CallNone = CallNone
  call-flow (CallObject c x a s) = CallObject c x (same c a) s

  pub return-flow : {s : M.Site} {t u : Fact M} → ReturnFlow M L A s f t u → ReturnFlow M L B s f t u
  return-flow ReturnNone = ReturnNone
  return-flow (ReturnObject o c x a s) = ReturnObject o c x (same o a) s

  pub crosses : {k : Bool} {es : List M.Event} {g i : M.Global} {t v : Fact M} → Crosses M L A f k es g t i v → Crosses M L B f k es g t i v
  crosses CrossesNone = CrossesNone
  crosses (CrossesOne w c) = CrossesOne (event-flow w) (crosses c)

  pub shows : {k : Bool} {r : M.Report} {es : List M.Event} {g : M.Global} {t : Fact M} → Shows M L A f k r es g t → Shows M L B f k r es g t
  shows (ShowsObject {t = t} o x i s w) = ShowsObject o x (if-none t (same o) i) s w
  shows (ShowsGlobal w) = ShowsGlobal w
  shows (ShowsLater w s) = ShowsLater (event-flow w) (shows s)
