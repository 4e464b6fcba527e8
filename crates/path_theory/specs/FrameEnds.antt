-- The events that end a frame, as the exit at a return statement or at a body's closing brace.
-- A checker may treat the end of a root's own frame otherwise than that of a called frame, and nothing else. Two laws
-- say so of the checker; a third one ties its ends to the blocks of the flow graphs.
use Rattle.std.specs.Prelude.{◌≡◌, Bool, true, false, Option, Some, List, [], ◌∷◌, ◌⊎◌}
use Rattle.path_theory.specs.Model.{Model}
use Rattle.path_theory.specs.Origins.{Origins}
use Rattle.path_theory.specs.FlowGraphs.{FlowGraphs}

-- An event that ends no frame does the same in both kinds of frame.
pub record IgnoresKind (M : Model) (Stays : M.Event → Type 0) : Type 0 where
  pub global : (e : M.Event) → Stays e → (f : M.Fn) (k l : Bool) (g : M.Global)
      → M.next_global e f k g ≡ M.next_global e f l g
  pub choice : (e : M.Event) → Stays e → (f : M.Fn) (k l : Bool) (g : M.Global) (o : M.Obj) (x : Option M.State)
      → M.choose e f k g o x ≡ M.choose e f l g o x
  pub fires : (e : M.Event) → Stays e
      → (f : M.Fn) (k l : Bool) (g : M.Global) (o : M.Obj) (x : Option M.State) (r : M.Report) → M.Fires e f k g o x r
      → M.Fires e f l g o x r
  pub fires_global : (e : M.Event) → Stays e → (f : M.Fn) (k l : Bool) (g : M.Global) (r : M.Report)
      → M.FiresGlobal e f k g r → M.FiresGlobal e f l g r

-- The end of a called frame leaves the global state, and gives no report that the end of the root's own frame wouldn't.
pub record EndsQuietly (M : Model) (IsExit : M.Event → Type 0) : Type 0 where
  pub global : (e : M.Event) → IsExit e → (f : M.Fn) (g : M.Global) → M.next_global e f false g ≡ g
  pub fires : (e : M.Event) → IsExit e → (f : M.Fn) (g : M.Global) (o : M.Obj) (x : Option M.State) (r : M.Report)
      → M.Fires e f false g o x r → M.Fires e f true g o x r
  pub fires_global : (e : M.Event) → IsExit e → (f : M.Fn) (g : M.Global) (r : M.Report) → M.FiresGlobal e f false g r
      → M.FiresGlobal e f true g r

-- which events end a frame and which don't, with both laws
pub record Exits (M : Model) : Type 1 where
  pub IsExit : M.Event → Type 0
  pub Stays : M.Event → Type 0
  pub same : IgnoresKind M Stays
  pub quiet : EndsQuietly M IsExit

abbrev pub EachStays : {M : Model} → Exits M → List M.Event → Type 0
EachStays E [] = Unit {0}
EachStays E (e ∷ es) = E.Stays e × EachStays E es

-- A block that ends a frame has that event alone, and no other block has such an event.
pub record ExitsApart (M : Model) (L : Origins M) (E : Exits M) (G : FlowGraphs M) : Type 0 where
  pub next : {f : M.Fn} {b c : G.Block} → G.Next f b c → EachStays E (G.events f b)
  pub call : {f h : M.Fn} {s : M.Site} {b c : G.Block} → G.Call f b s h c → EachStays E (G.events f b)
  pub last : {f : M.Fn} {b : G.Block} → G.Ends f b → (e : M.Event) × E.IsExit e × (G.events f b ≡ e ∷ [])
  -- what a call site hands back to the caller: the end of a called frame moves no state of it
  pub unmoved : {f h : M.Fn} {s : M.Site} {b c : G.Block} → G.Call f b s h c → (e : M.Event) → E.IsExit e
      → (o a : M.Obj) → L.out s o ≡ Some a → L.source e a ≡ Some a
  -- and leaves that state as it is
  pub kept : {f h : M.Fn} {s : M.Site} {b c : G.Block} → G.Call f b s h c → (e : M.Event) → E.IsExit e
      → (g : M.Global) (o a : M.Obj) → L.out s o ≡ Some a → (x : Option M.State) → M.choose e h false g a x ≡ x
  pub either : (f : M.Fn) (b : G.Block) → EachStays E (G.events f b) ⊎ G.Ends f b
