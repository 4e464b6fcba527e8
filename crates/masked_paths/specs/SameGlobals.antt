-- Two paths, without a mask and with it, that come to the same place with the same global state; their objects may differ.
use Rattle.std.specs.Prelude.{◌≡◌, Bool}
use Rattle.path_theory.specs.Model.{Model}
use Rattle.path_theory.specs.Supergraph.{Supergraph}
use Rattle.path_theory.specs.Callers.{Callers}
use Rattle.path_theory.specs.Paths.{Path, after}
use Rattle.path_theory.specs.Origins.{Origins}
use Rattle.path_theory.specs.PathLengths.{path_length}
use Rattle.masked_paths.specs.Masked.{Mask, masked, masked_supergraph}

module _ (M : Model) (L : Origins M) (a : Mask M) (K : Supergraph M) where
  -- a path without the mask has one with it, in the same function, kind of frame and place, after as many steps
  pub record MaskedGlobal {f : M.Fn} {k : Bool} {p : K.Place} {b : Callers M K} (P : Path M K f k p b) : Type 0 where
    pub below : Callers (masked M L a) (masked_supergraph M L a K)
    pub path : Path (masked M L a) (masked_supergraph M L a K) f k p below
    pub global : (after (masked M L a) (masked_supergraph M L a K) path).global ≡ (after M K P).global
    pub length : path_length (masked M L a) (masked_supergraph M L a K) path ≡ path_length M K P

  -- and the other way round
  pub record UnmaskedGlobal {f : M.Fn} {k : Bool} {p : K.Place} {c : Callers (masked M L a) (masked_supergraph M L a K)}
      (Q : Path (masked M L a) (masked_supergraph M L a K) f k p c) : Type 0 where
    pub below : Callers M K
    pub path : Path M K f k p below
    pub global : (after (masked M L a) (masked_supergraph M L a K) Q).global ≡ (after M K path).global
    pub length : path_length (masked M L a) (masked_supergraph M L a K) Q ≡ path_length M K path
