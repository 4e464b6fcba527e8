-- The items of an alternative, one by one.
use Rattle.std.proofs.Common.{arith, ◌≡◌, ◌<◌, ◌≤◌, ℕ, ◌+◌, List, [], ◌∷◌, length, get_or, drop, drop-cons, add-one, map, Bool, true, false, refl, ◌∙◌, sym, ap, ◌||◌}
use Rattle.std.proofs.lemmas.List.{drop_all}
use Rattle.hole_matching.specs.Alternatives.{has_end_of_path}
use Rattle.metal_tree.specs.MetalMachines.Machine as machine
use Rattle.metal_tree.specs.declared.patterns.Item.{Item}
use Rattle.metal_tree.specs.Views.{item_view}

end-step : (x : machine.Item) (xs : List machine.Item) → has_end_of_path (x ∷ xs) ≡ (has_end_of_path (x ∷ []) || has_end_of_path xs)
end-step (machine.Base e) xs = refl
end-step (machine.Holds c) xs = refl
end-step machine.EndOfPath xs = refl

item-at : (items : List Item) (i : ℕ) (d : Item) → i < length items → map item_view (drop i items) ≡ (item_view (get_or items i d) ∷ map item_view (drop (i + 1) items))
item-at items i d h = ap (map item_view) (drop-cons items i d h) ∙ ap (λ j. item_view (get_or items i d) ∷ map item_view (drop j items)) (sym (add-one i))

end-at : (items : List Item) (i : ℕ) (d : Item) (r : Bool) (whole : Bool) → i < length items
    → r ≡ has_end_of_path (item_view (get_or items i d) ∷ []) → has_end_of_path (map item_view (drop i items)) ≡ whole
    → (r || has_end_of_path (map item_view (drop (i + 1) items))) ≡ whole
end-at items i d r whole h e k =
    ap (λ y. y || has_end_of_path (map item_view (drop (i + 1) items))) e
    ∙ sym (ap has_end_of_path (item-at items i d h) ∙ end-step (item_view (get_or items i d)) (map item_view (drop (i + 1) items)))
    ∙ k

pub end_next : (items : List Item) (i : ℕ) (d : Item) (r : Bool) (whole : Bool) → i < length items
    → r ≡ has_end_of_path (item_view (get_or items i d) ∷ []) → r ≡ false → has_end_of_path (map item_view (drop i items)) ≡ whole
    → has_end_of_path (map item_view (drop (i + 1) items)) ≡ whole
end_next items i d r whole h e t k = ap (λ y. y || has_end_of_path (map item_view (drop (i + 1) items))) (sym t) ∙ end-at items i d r whole h e k

pub end_here : (items : List Item) (i : ℕ) (d : Item) (r : Bool) (whole : Bool) → i < length items
    → r ≡ has_end_of_path (item_view (get_or items i d) ∷ []) → r ≡ true → has_end_of_path (map item_view (drop i items)) ≡ whole → true ≡ whole
end_here items i d r whole h e t k = ap (λ y. y || has_end_of_path (map item_view (drop (i + 1) items))) (sym t) ∙ end-at items i d r whole h e k

pub end_past : (items : List Item) (i : ℕ) (whole : Bool) → length items ≤ i → has_end_of_path (map item_view (drop i items)) ≡ whole → false ≡ whole
end_past items i whole h k = sym (ap (λ xs. has_end_of_path (map item_view xs)) (drop_all i items h)) ∙ k
