-- The types of the holes of a machine by their numbers.
use Rattle.std.proofs.Common.{◌≡◌, ℕ, zero, suc, List, [], ◌∷◌, map, refl}
use Rattle.std.specs.Prelude.{slice_get}
use Rattle.std.specs.Option.{option_map}
use Rattle.metal_tree.specs.declared.holes.HoleDecl.{HoleDecl}
use Rattle.metal_tree.specs.Views.{hole_view, hole_type_view}

pub types_at : (hs : List HoleDecl) (n : ℕ) → slice_get (map (λ h. h.of) (map hole_view hs)) n ≡ option_map (λ (h : HoleDecl). hole_type_view h.of) (slice_get hs n)
types_at [] n = refl
types_at (h ∷ hs) zero = refl
types_at (h ∷ hs) (suc n) = types_at hs n
