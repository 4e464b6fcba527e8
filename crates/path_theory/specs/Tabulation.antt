-- The path edges of tabulation: which tuple stands at which place, for the tuple with which the frame was entered.
-- The rules are those of an engine and name no path. The three cases of a return are: handed back with what went in,
-- handed back with what began inside the callee, and saved.
use Rattle.std.specs.Prelude.{◌≡◌, Bool, true, false, Option, None}
use Rattle.path_theory.specs.Model.{Model}
use Rattle.path_theory.specs.Supergraph.{Supergraph}
use Rattle.path_theory.specs.Origins.{Origins}
use Rattle.path_theory.specs.Facts.{NoObject, HasObject, Fact, Gives, Objects, IfNoObject}
use Rattle.path_theory.specs.Flows.{Starts, EventFlow, CallFlow, ReturnFlow}

module _ (M : Model) (K : Supergraph M) (L : Origins M) (A : Objects M) where
  -- in the frame of this function, of this kind, entered with this global state and fact, this place comes with that
  -- global state and fact
  pub data PathEdge : M.Fn → Bool → M.Global → Fact M → K.Place → M.Global → Fact M → Type 0 where
    AtRoot : {f : M.Fn} {t : Fact M} → K.IsRoot f → Starts M L A f t → PathEdge f true M.start t (K.entry f) M.start t
    AlongSkip : {f : M.Fn} {k : Bool} {g₀ g : M.Global} {t₀ t : Fact M} {p q : K.Place} → PathEdge f k g₀ t₀ p g t
        → K.Skips f p q → PathEdge f k g₀ t₀ q g t
    AlongEvent : {f : M.Fn} {k : Bool} {g₀ g : M.Global} {t₀ t u : Fact M} {p q : K.Place} → PathEdge f k g₀ t₀ p g t
        → (e : M.Event) → K.Goes f p e q → EventFlow M L A f k e g t u → PathEdge f k g₀ t₀ q (M.next_global e f k g) u
    IntoCallee : {f h : M.Fn} {k : Bool} {g₀ g : M.Global} {t₀ t u : Fact M} {p q : K.Place}
        → PathEdge f k g₀ t₀ p g t → (s : M.Site) → K.Calls f p s h q → CallFlow M L A s h t u
        → PathEdge h false g u (K.entry h) g u
    -- over a call by the callee's summary: from its entry with what goes in to its end with what comes out
    OverCall : {f h : M.Fn} {k : Bool} {g₀ g i : M.Global} {t₀ t u v w : Fact M} {p q r : K.Place}
        → PathEdge f k g₀ t₀ p g t → (s : M.Site) → K.Calls f p s h q → CallFlow M L A s h t u
        → PathEdge h false g u r i v → K.Ends h r → ReturnFlow M L A s f v w → PathEdge f k g₀ t₀ q i w
    -- a saved object keeps its state, beside the global state of the callee's end
    AroundCall : {f h : M.Fn} {k : Bool} {g₀ g i : M.Global} {t₀ : Fact M} {o : M.Obj} {x : Option M.State}
        {p q r : K.Place}
        → PathEdge f k g₀ t₀ p g (HasObject o x) → (s : M.Site) → K.Calls f p s h q
        → PathEdge h false g NoObject r i NoObject → K.Ends h r → L.out s o ≡ None
        → PathEdge f k g₀ t₀ q i (HasObject o x)

  -- the reports of path edges, at an event behind their places
  pub data Found (r : M.Report) : Type 0 where
    FoundObject : {f : M.Fn} {k : Bool} {g₀ g : M.Global} {t₀ t : Fact M} {p q : K.Place} → PathEdge f k g₀ t₀ p g t
        → (e : M.Event) → K.Goes f p e q → (o : M.Obj) (x : Option M.State) → IfNoObject t (A f o)
        → Gives (L.source e o) t x → M.Fires e f k g o x r → Found r
    FoundGlobal : {f : M.Fn} {k : Bool} {g₀ g : M.Global} {t₀ : Fact M} {p q : K.Place}
        → PathEdge f k g₀ t₀ p g NoObject → (e : M.Event) → K.Goes f p e q → M.FiresGlobal e f k g r → Found r
