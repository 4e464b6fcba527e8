-- Two paths, without a mask and with it, that end in the same state.
use Rattle.std.specs.Prelude.{◌≡◌, Bool}
use Rattle.path_theory.specs.Model.{Model}
use Rattle.path_theory.specs.Supergraph.{Supergraph}
use Rattle.path_theory.specs.Callers.{Callers, NoCaller, Waiting}
use Rattle.path_theory.specs.Paths.{Maps, Path, after}
use Rattle.path_theory.specs.Origins.{Origins}
use Rattle.path_theory.specs.PathLengths.{path_length}
use Rattle.masked_paths.specs.Masked.{Mask, masked, masked_supergraph}

module _ (M : Model) (L : Origins M) (a : Mask M) (K : Supergraph M) where
  -- the frames below that of a function stand at the same calls, with the same states
  abbrev pub BelowAlike : M.Fn → (b : Callers M K) → Maps M K b → (c : Callers (masked M L a) (masked_supergraph M L a K))
      → Maps (masked M L a) (masked_supergraph M L a K) c → Type 0
  BelowAlike h NoCaller m NoCaller n = Unit {0}
  BelowAlike h (Waiting f k s q b) m (Waiting g l t r c) n =
      (g ≡ f) × (l ≡ k) × (t ≡ record { caller = f; site = s; callee = h }) × (r ≡ q) × ((o : M.Obj) → n.0 o ≡ m.0 o) × BelowAlike f b m.1 c n.1
  BelowAlike h NoCaller m (Waiting g l t r c) n = ⊥
  BelowAlike h (Waiting f k s q b) m NoCaller n = ⊥

  -- they end in the same function, kind of frame and place, with the same global state, the same state of each object there
  -- and in the frames below, after as many steps
  pub record EndAlike {f : M.Fn} {k : Bool} {p : K.Place} {b : Callers M K} {c : Callers (masked M L a) (masked_supergraph M L a K)}
      (P : Path M K f k p b) (Q : Path (masked M L a) (masked_supergraph M L a K) f k p c) : Type 0 where
    pub global : (after (masked M L a) (masked_supergraph M L a K) Q).global ≡ (after M K P).global
    pub here : (o : M.Obj) → (after (masked M L a) (masked_supergraph M L a K) Q).here o ≡ (after M K P).here o
    pub below : BelowAlike f b (after M K P).below c (after (masked M L a) (masked_supergraph M L a K) Q).below
    pub length : path_length (masked M L a) (masked_supergraph M L a K) Q ≡ path_length M K P

  -- a path without the mask has one with it
  pub record Masked {f : M.Fn} {k : Bool} {p : K.Place} {b : Callers M K} (P : Path M K f k p b) : Type 0 where
    pub below : Callers (masked M L a) (masked_supergraph M L a K)
    pub path : Path (masked M L a) (masked_supergraph M L a K) f k p below
    pub same : EndAlike P path

  -- and the other way round
  pub record Unmasked {f : M.Fn} {k : Bool} {p : K.Place} {c : Callers (masked M L a) (masked_supergraph M L a K)}
      (Q : Path (masked M L a) (masked_supergraph M L a K) f k p c) : Type 0 where
    pub below : Callers M K
    pub path : Path M K f k p below
    pub same : EndAlike path Q
