-- One part more is made, of one thing more.
use Rattle.std.proofs.Common.{◌≡◌, ℕ, ◌+◌, ◌<◌, List, [], ◌∷◌, ◌++◌, length, get_or, take, drop, map, ap, ◌∙◌, sym, subst}
use Rattle.metal_tree.specs.declared.rules.Rule.{Rule}
use Rattle.metal_written.specs.declared.placed.PlacedRule as kept
use Rattle.metal_written.specs.Placed.{placed_view, placed_views}
use Rattle.metal_written.proofs.Any.{mapped-drop}
use Rattle.metal_numbers.proofs.MetalDeclared.InHoles.{map_joined, viewed_more, twice_more}
use Rattle.metal_numbers.specs.Numbers.{AreNamed}
use Rattle.metal_numbers.specs.MetalBuilding.Places.{HasPlaces}

pub mapped_push : {A B C : Type 0} (view : A → C) (f : B → C) (all pushed : List A) (x : A) (ys : List B) (i : ℕ) (y : B)
    → pushed ≡ all ++ (x ∷ []) → map view all ≡ map f (take i ys) → i < length ys → view x ≡ f y → y ≡ get_or ys i y → map view pushed ≡ map f (take (i + 1) ys)
mapped_push view f all pushed x ys i y p m h v e =
    ap (map view) p ∙ map_joined view all (x ∷ []) ∙ ap (λ zs. zs ++ (view x ∷ [])) m ∙ ap (λ z. map f (take i ys) ++ (z ∷ [])) (v ∙ ap f e) ∙ sym (viewed_more f ys i y h)

-- the same of things that are seen as others first
pub twice_push : {A B C D : Type 0} (view : A → D) (g : C → D) (w : B → C) (all pushed : List A) (x : A) (ys : List B) (i : ℕ) (y : B)
    → pushed ≡ all ++ (x ∷ []) → map view all ≡ map g (map w (take i ys)) → i < length ys → view x ≡ g (w y) → y ≡ get_or ys i y → map view pushed ≡ map g (map w (take (i + 1) ys))
twice_push view g w all pushed x ys i y p m h v e =
    ap (map view) p ∙ map_joined view all (x ∷ []) ∙ ap (λ zs. zs ++ (view x ∷ [])) m ∙ ap (λ z. map g (map w (take i ys)) ++ (z ∷ [])) (v ∙ ap (λ k. g (w k)) e)
    ∙ sym (twice_more g w ys i y h)

places-push : (file : ℕ) (rs : List Rule) (r : Rule) → HasPlaces file rs → r.place.file ≡ file → HasPlaces file (rs ++ (r ∷ []))
places-push file [] r h e = (e, tt)
places-push file (q ∷ rs) r h e = (h.0, places-push file rs r h.1 e)

-- one rule more stands in the file
pub places_push : (file : ℕ) (all pushed : List Rule) (r : Rule) → pushed ≡ all ++ (r ∷ []) → HasPlaces file all → r.place.file ≡ file → HasPlaces file pushed
places_push file all pushed r p h e = subst (HasPlaces file) (sym p) (places-push file all r h e)

-- the rules behind one have their names
pub named_rest : (variables : List ℕ) (rs : List kept.PlacedRule) (i : ℕ) (d : kept.PlacedRule) → i < length rs → AreNamed variables (placed_views (drop i rs)) → AreNamed variables (placed_views (drop (i + 1) rs))
named_rest variables rs i d h w =
    let all : AreNamed variables (placed_view (get_or rs i d) ∷ placed_views (drop (i + 1) rs)) = subst (AreNamed variables) (mapped-drop placed_view rs i d h) w in
    all.1
