-- A path edge is a beginning of its frame and a frame edge, and such a pair is a path edge.
-- Where an object is saved, the callee's frame begins without object: the caller's frame comes to the call without
-- object too.
use Rattle.std.proofs.Common.{◌↔◌, ℕ, Bool}
use Rattle.path_theory.specs.Model.{Model}
use Rattle.path_theory.specs.Supergraph.{Supergraph}
use Rattle.path_theory.specs.Origins.{Origins}
use Rattle.path_theory.specs.Facts.{NoObject, Fact, Objects, IsFollowed}
use Rattle.path_theory.specs.Flows.{Starts, StartsNone, StartsUnknown, EventNone, CallFlow, CallNone, CallObject, ReturnNone}
use Rattle.path_theory.specs.Tabulation.{PathEdge, AtRoot, AlongSkip, AlongEvent, IntoCallee, OverCall, AroundCall}
use Rattle.path_theory.specs.FrameEdges.{FrameEdge, AtEntryIn, AlongSkipIn, AlongEventIn, OverCallIn, AroundCallIn, Begins, BeginsRoot, BeginsCall}

module _ (M : Model) (K : Supergraph M) (L : Origins M) (A : Objects M) where
  -- the two parts of a path edge
  pub record Parts (f : M.Fn) (k : Bool) (g₀ : M.Global) (t₀ : Fact M) (p : K.Place) (g : M.Global)
      (t : Fact M) : Type 0 where
    pub begin_length : ℕ
    pub begins : Begins M K L A f k g₀ t₀ begin_length
    pub edge_length : ℕ
    pub edge : FrameEdge M K L A f k g₀ t₀ p g t edge_length

  start_followed : {f : M.Fn} {t : Fact M} → Starts M L A f t → IsFollowed M A f t
  start_followed StartsNone = tt
  start_followed (StartsUnknown o a) = a

  flow_followed : {s : M.Site} {h : M.Fn} {t u : Fact M} → CallFlow M L A s h t u → IsFollowed M A h u
  flow_followed CallNone = tt
  flow_followed (CallObject c x a v) = a

  pub parts : {f : M.Fn} {k : Bool} {g₀ g : M.Global} {t₀ t : Fact M} {p : K.Place} → PathEdge M K L A f k g₀ t₀ p g t
      → Parts f k g₀ t₀ p g t
  parts (AtRoot r a) = record { begin_length = _; begins = BeginsRoot r a; edge_length = _; edge = AtEntryIn (start_followed a) }
  parts (AlongSkip D t) = let w = parts D in record { begin_length = _; begins = w.begins; edge_length = _; edge = AlongSkipIn w.edge t }
  parts (AlongEvent D e t a) = let w = parts D in record { begin_length = _; begins = w.begins; edge_length = _; edge = AlongEventIn w.edge e t a }
  parts (IntoCallee D s t a) = let w = parts D in record { begin_length = _; begins = BeginsCall w.begins w.edge s t a; edge_length = _; edge = AtEntryIn (flow_followed a) }
  parts (OverCall D s t a C e b) = let w = parts D in record { begin_length = _; begins = w.begins; edge_length = _; edge = OverCallIn w.edge s t a (parts C).edge e b }
  parts (AroundCall D s t C e d) = let w = parts D in record { begin_length = _; begins = w.begins; edge_length = _; edge = AroundCallIn w.edge s t (parts C).edge e d }

  -- the path edge at a place, and that without object
  record Both (f : M.Fn) (k : Bool) (g₀ : M.Global) (t₀ : Fact M) (p : K.Place) (g : M.Global) (t : Fact M) : Type 0 where
    bare : PathEdge M K L A f k g₀ NoObject p g NoObject
    edge : PathEdge M K L A f k g₀ t₀ p g t

  both : {f : M.Fn} {k : Bool} {g₀ g : M.Global} {t₀ t : Fact M} {p : K.Place} {n : ℕ}
      → Both f k g₀ t₀ (K.entry f) g₀ t₀ → FrameEdge M K L A f k g₀ t₀ p g t n → Both f k g₀ t₀ p g t
  both E (AtEntryIn a) = E
  both E (AlongSkipIn D t) = let w = both E D in record { bare = AlongSkip w.bare t; edge = AlongSkip w.edge t }
  both E (AlongEventIn D e t a) = let w = both E D in record { bare = AlongEvent w.bare e t EventNone; edge = AlongEvent w.edge e t a }
  both E (OverCallIn D s t a C e b) =
      let w = both E D in
      let v = both (record { bare = IntoCallee w.bare s t CallNone; edge = IntoCallee w.edge s t a }) C in
      record { bare = OverCall w.bare s t CallNone v.bare e ReturnNone; edge = OverCall w.edge s t a v.edge e b }
  both E (AroundCallIn D s t C e d) =
      let w = both E D in
      let v = both (record { bare = IntoCallee w.bare s t CallNone; edge = IntoCallee w.bare s t CallNone }) C in
      record { bare = OverCall w.bare s t CallNone v.bare e ReturnNone; edge = AroundCall w.edge s t v.bare e d }

  both_begin : {f : M.Fn} {k : Bool} {g₀ : M.Global} {t₀ : Fact M} {n : ℕ} → Begins M K L A f k g₀ t₀ n
      → Both f k g₀ t₀ (K.entry f) g₀ t₀
  both_begin (BeginsRoot r a) = record { bare = AtRoot r StartsNone; edge = AtRoot r a }
  both_begin (BeginsCall B D s t a) =
      let w = both (both_begin B) D in
      record { bare = IntoCallee w.bare s t CallNone; edge = IntoCallee w.edge s t a }

  pub assembled : {f : M.Fn} {k : Bool} {g₀ g : M.Global} {t₀ t : Fact M} {p : K.Place} {m n : ℕ}
      → Begins M K L A f k g₀ t₀ m → FrameEdge M K L A f k g₀ t₀ p g t n → PathEdge M K L A f k g₀ t₀ p g t
  assembled B D = (both (both_begin B) D).edge

  -- the path edges of a context that some path begins are its frame edges
  pub in_context : {f : M.Fn} {k : Bool} {g₀ g : M.Global} {t₀ t : Fact M} {p : K.Place} {m : ℕ}
      → Begins M K L A f k g₀ t₀ m → PathEdge M K L A f k g₀ t₀ p g t ↔ ((n : ℕ) × FrameEdge M K L A f k g₀ t₀ p g t n)
  in_context B = ((λ D. let w = parts D in (w.edge_length, w.edge)), (λ w. assembled B w.1))
