-- Holes in their order.
use Rattle.std.proofs.Common.{◌≡◌, ℕ, suc, ◌+◌, ◌≤◌, Bool, true, false, cond, not, List, [], ◌∷◌, ◌++◌, length, take, map, filter, ap, refl, ◌∙◌, sym, arith, length-append}
use Rattle.std.proofs.lemmas.List.{length-map}
use Rattle.metal_grammar.specs.Holes.{DeclaredHole}
use Rattle.metal_grammar.specs.Meaning.{in_order}
use Rattle.metal_grammar.specs.Rules.{variables_among}
use Rattle.metal_tree.specs.MetalMachines.Limits.{most_holes}
use Rattle.metal_numbers.specs.declared.metal_declared.declared_holes.DeclaredHole as kept
use Rattle.metal_numbers.specs.MetalDeclared.DeclaredHoles.{declared_view, declared_views}

front : (xs ys : List DeclaredHole) → take (length (map (λ h. h.name) xs)) (map (λ h. h.name) (xs ++ ys)) ≡ map (λ h. h.name) xs
front [] ys = refl
front (x ∷ xs) ys = ap (λ zs. x.name ∷ zs) (front xs ys)

-- the state variables are the first of the holes in order
pub variables_first : (holes : List DeclaredHole) → variables_among holes ≡ take (length (variables_among holes)) (map (λ h. h.name) (in_order holes))
variables_first holes = sym (front (filter (λ h. h.is_state) holes) (filter (λ h. not h.is_state) holes))

split-step : (b : Bool) (h : DeclaredHole) (xs ys : List DeclaredHole) (n : ℕ) → length xs + length ys ≡ n → length (cond b (h ∷ xs) xs) + length (cond (not b) (h ∷ ys) ys) ≡ suc n
split-step true h xs ys n e = omega (arith, e)
split-step false h xs ys n e = omega (arith, e)

split : (hs : List DeclaredHole) → length (filter (λ h. h.is_state) hs) + length (filter (λ h. not h.is_state) hs) ≡ length hs
split [] = refl
split (h ∷ hs) = split-step h.is_state h (filter (λ h. h.is_state) hs) (filter (λ h. not h.is_state) hs) (length hs) (split hs)

-- in order they are as many
pub ordered_length : (holes : List DeclaredHole) → length (map (λ h. h.name) (in_order holes)) ≡ length holes
ordered_length holes = length-map (in_order holes) (λ h. h.name) ∙ length-append (filter (λ h. h.is_state) holes) (filter (λ h. not h.is_state) holes) ∙ split holes

-- where there are few holes, there are few of them in order
pub few_in_order : (holes ordered : List kept.DeclaredHole) (names : List ℕ) → declared_views ordered ≡ in_order (declared_views holes) → names ≡ map (λ h. h.name) (declared_views ordered) → length holes ≤ most_holes → length names ≤ most_holes
few_in_order holes ordered names e n h =
    let a : length names ≡ length (map (λ h. h.name) (declared_views ordered)) = ap length n in
    let b : length (map (λ h. h.name) (declared_views ordered)) ≡ length (map (λ h. h.name) (in_order (declared_views holes))) = ap (λ hs. length (map (λ h. h.name) hs)) e in
    let c = ordered_length (declared_views holes) in
    let d = length-map holes declared_view in
    omega (arith, a, b, c, d, h)
