-- The items of an alternative, one by one.
use Rattle.std.proofs.Common.{arith, ◌≡◌, ◌<◌, ◌≤◌, ℕ, zero, suc, ◌+◌, List, [], ◌∷◌, length, get_or, drop, drop-cons, add-one, map, Bool, true, false, Option, None, Some, refl, ◌∙◌, sym, ap, ◌&&◌}
use Rattle.std.specs.Option.{option_map}
use Rattle.std.specs.Prelude.{slice_get}
use Rattle.std.proofs.lemmas.List.{drop_all}
use Rattle.type_rules.specs.Options.{◌>?◌}
use Rattle.hole_matcher.specs.HoleBindings.Bindings.{behind}
use Rattle.hole_matcher.specs.Items.{matched_item, item_holds}
use Rattle.hole_matching.specs.Alternatives.{matched_bases, all_hold}
use Rattle.hole_matching.specs.Holes.{Setting}
use Rattle.hole_matching.specs.Matching.{Binding}
use Rattle.metal_tree.specs.MetalMachines.Machine as machine
use Rattle.metal_tree.specs.declared.patterns.Alternative.{Alternative}
use Rattle.metal_tree.specs.declared.patterns.Item.{Item}
use Rattle.metal_tree.specs.Views.{item_view, items_view}
use Rattle.c_tree.specs.PathSubjects.Subjects.{Subject}

bases-step : (g : Setting) (x : machine.Item) (xs : List machine.Item) (s : Subject) (b : Binding) → matched_bases g (x ∷ xs) s b ≡ (matched_item g x s b >? matched_bases g xs s)
bases-step g (machine.Base e) xs s b = refl
bases-step g (machine.Holds c) xs s b = refl
bases-step g machine.EndOfPath xs s b = refl

hold-step : (g : Setting) (x : machine.Item) (xs : List machine.Item) (b : Binding) → all_hold g (x ∷ xs) b ≡ (item_holds g x b && all_hold g xs b)
hold-step g (machine.Base e) xs b = refl
hold-step g (machine.Holds c) xs b = refl
hold-step g machine.EndOfPath xs b = refl

item-at : (items : List Item) (i : ℕ) (d : Item) → i < length items → map item_view (drop i items) ≡ (item_view (get_or items i d) ∷ map item_view (drop (i + 1) items))
item-at items i d h = ap (map item_view) (drop-cons items i d h) ∙ ap (λ j. item_view (get_or items i d) ∷ map item_view (drop j items)) (sym (add-one i))

pub bases_next : (g : Setting) (items : List Item) (i : ℕ) (d : Item) (s : Subject) (b c : Binding) (r : Bool) (whole : Option Binding) → i < length items
    → behind r c ≡ matched_item g (item_view (get_or items i d)) s b → r ≡ true → matched_bases g (map item_view (drop i items)) s b ≡ whole
    → matched_bases g (map item_view (drop (i + 1) items)) s c ≡ whole
bases_next g items i d s b c r whole h e t k =
    ap (λ o. o >? matched_bases g (map item_view (drop (i + 1) items)) s) (sym (ap (λ y. behind y c) t) ∙ e)
    ∙ sym (ap (λ xs. matched_bases g xs s b) (item-at items i d h) ∙ bases-step g (item_view (get_or items i d)) (map item_view (drop (i + 1) items)) s b)
    ∙ k

pub bases_stop : (g : Setting) (items : List Item) (i : ℕ) (d : Item) (s : Subject) (b c : Binding) (r : Bool) (whole : Option Binding) → i < length items
    → behind r c ≡ matched_item g (item_view (get_or items i d)) s b → r ≡ false → matched_bases g (map item_view (drop i items)) s b ≡ whole
    → None ≡ whole
bases_stop g items i d s b c r whole h e t k =
    ap (λ o. o >? matched_bases g (map item_view (drop (i + 1) items)) s) (sym (ap (λ y. behind y c) t) ∙ e)
    ∙ sym (ap (λ xs. matched_bases g xs s b) (item-at items i d h) ∙ bases-step g (item_view (get_or items i d)) (map item_view (drop (i + 1) items)) s b)
    ∙ k

pub bases_end : (g : Setting) (items : List Item) (i : ℕ) (s : Subject) (b : Binding) (whole : Option Binding) → length items ≤ i → matched_bases g (map item_view (drop i items)) s b ≡ whole → Some b ≡ whole
bases_end g items i s b whole h k = sym (ap (λ xs. matched_bases g (map item_view xs) s b) (drop_all i items h)) ∙ k

pub hold_next : (g : Setting) (items : List Item) (i : ℕ) (d : Item) (b : Binding) (r : Bool) (whole : Bool) → i < length items
    → r ≡ item_holds g (item_view (get_or items i d)) b → r ≡ true → all_hold g (map item_view (drop i items)) b ≡ whole → all_hold g (map item_view (drop (i + 1) items)) b ≡ whole
hold_next g items i d b r whole h e t k =
    ap (λ y. y && all_hold g (map item_view (drop (i + 1) items)) b) (sym t ∙ e)
    ∙ sym (ap (λ xs. all_hold g xs b) (item-at items i d h) ∙ hold-step g (item_view (get_or items i d)) (map item_view (drop (i + 1) items)) b)
    ∙ k

pub hold_stop : (g : Setting) (items : List Item) (i : ℕ) (d : Item) (b : Binding) (r : Bool) (whole : Bool) → i < length items
    → r ≡ item_holds g (item_view (get_or items i d)) b → r ≡ false → all_hold g (map item_view (drop i items)) b ≡ whole → false ≡ whole
hold_stop g items i d b r whole h e t k =
    ap (λ y. y && all_hold g (map item_view (drop (i + 1) items)) b) (sym t ∙ e)
    ∙ sym (ap (λ xs. all_hold g xs b) (item-at items i d h) ∙ hold-step g (item_view (get_or items i d)) (map item_view (drop (i + 1) items)) b)
    ∙ k

pub hold_end : (g : Setting) (items : List Item) (i : ℕ) (b : Binding) (whole : Bool) → length items ≤ i → all_hold g (map item_view (drop i items)) b ≡ whole → true ≡ whole
hold_end g items i b whole h k = sym (ap (λ xs. all_hold g (map item_view xs) b) (drop_all i items h)) ∙ k

pub alternative_at : (xs : List Alternative) (n : ℕ) → option_map items_view (slice_get xs n) ≡ slice_get (map items_view xs) n
alternative_at [] n = refl
alternative_at (x ∷ xs) zero = refl
alternative_at (x ∷ xs) (suc n) = alternative_at xs n
