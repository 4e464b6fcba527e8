-- Path edges with lengths, taken apart: what a frame comes to from its entry tuple if some path begins it, and which
-- entry tuples paths begin.
-- The first speaks of the context alone, so it stays the same where the rest of a program changes; the lengths of both
-- add up to that of a path.
use Rattle.std.specs.Prelude.{◌≡◌, ℕ, suc, ◌+◌, Bool, true, false, Option, None}
use Rattle.path_theory.specs.Model.{Model}
use Rattle.path_theory.specs.Supergraph.{Supergraph}
use Rattle.path_theory.specs.Origins.{Origins}
use Rattle.path_theory.specs.Facts.{NoObject, HasObject, Fact, Gives, Objects, IsFollowed, IfNoObject}
use Rattle.path_theory.specs.Flows.{Starts, EventFlow, CallFlow, ReturnFlow}

module _ (M : Model) (K : Supergraph M) (L : Origins M) (A : Objects M) where
  -- a frame that is entered with this global state and fact comes to this place with that global state and fact, by a
  -- run of this length
  pub data FrameEdge : M.Fn → Bool → M.Global → Fact M → K.Place → M.Global → Fact M → ℕ → Type 0 where
    AtEntryIn : {f : M.Fn} {k : Bool} {g : M.Global} {t : Fact M} → IsFollowed M A f t
        → FrameEdge f k g t (K.entry f) g t 0
    AlongSkipIn : {f : M.Fn} {k : Bool} {g₀ g : M.Global} {t₀ t : Fact M} {p q : K.Place} {n : ℕ}
        → FrameEdge f k g₀ t₀ p g t n → K.Skips f p q → FrameEdge f k g₀ t₀ q g t n
    AlongEventIn : {f : M.Fn} {k : Bool} {g₀ g : M.Global} {t₀ t u : Fact M} {p q : K.Place} {n : ℕ}
        → FrameEdge f k g₀ t₀ p g t n → (e : M.Event) → K.Goes f p e q → EventFlow M L A f k e g t u
        → FrameEdge f k g₀ t₀ q (M.next_global e f k g) u (suc n)
    OverCallIn : {f h : M.Fn} {k : Bool} {g₀ g i : M.Global} {t₀ t u v w : Fact M} {p q r : K.Place} {n m : ℕ}
        → FrameEdge f k g₀ t₀ p g t n → (s : M.Site) → K.Calls f p s h q → CallFlow M L A s h t u
        → FrameEdge h false g u r i v m → K.Ends h r → ReturnFlow M L A s f v w
        → FrameEdge f k g₀ t₀ q i w (suc (suc (n + m)))
    AroundCallIn : {f h : M.Fn} {k : Bool} {g₀ g i : M.Global} {t₀ : Fact M} {o : M.Obj} {x : Option M.State}
        {p q r : K.Place} {n m : ℕ}
        → FrameEdge f k g₀ t₀ p g (HasObject o x) n → (s : M.Site) → K.Calls f p s h q
        → FrameEdge h false g NoObject r i NoObject m → K.Ends h r → L.out s o ≡ None
        → FrameEdge f k g₀ t₀ q i (HasObject o x) (suc (suc (n + m)))

  -- a path of this length begins such a frame
  pub data Begins : M.Fn → Bool → M.Global → Fact M → ℕ → Type 0 where
    BeginsRoot : {f : M.Fn} {t : Fact M} → K.IsRoot f → Starts M L A f t → Begins f true M.start t 0
    BeginsCall : {f h : M.Fn} {k : Bool} {g₀ g : M.Global} {t₀ t u : Fact M} {p q : K.Place} {m n : ℕ}
        → Begins f k g₀ t₀ m → FrameEdge f k g₀ t₀ p g t n → (s : M.Site) → K.Calls f p s h q → CallFlow M L A s h t u
        → Begins h false g u (suc (m + n))

  -- the reports of path edges, with lengths
  pub data FoundIn (r : M.Report) : ℕ → Type 0 where
    FoundObjectIn : {f : M.Fn} {k : Bool} {g₀ g : M.Global} {t₀ t : Fact M} {p q : K.Place} {m n : ℕ}
        → Begins f k g₀ t₀ m → FrameEdge f k g₀ t₀ p g t n → (e : M.Event) → K.Goes f p e q
        → (o : M.Obj) (x : Option M.State) → IfNoObject t (A f o) → Gives (L.source e o) t x → M.Fires e f k g o x r
        → FoundIn r (suc (m + n))
    FoundGlobalIn : {f : M.Fn} {k : Bool} {g₀ g : M.Global} {t₀ : Fact M} {p q : K.Place} {m n : ℕ}
        → Begins f k g₀ t₀ m → FrameEdge f k g₀ t₀ p g NoObject n → (e : M.Event) → K.Goes f p e q
        → M.FiresGlobal e f k g r → FoundIn r (suc (m + n))
