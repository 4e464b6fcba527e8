-- Loops over lists of trees and over lists that are seen as others, of which all have to be something.
use Rattle.std.proofs.Common.{◌≡◌, ℕ, ◌+◌, ◌<◌, ◌≤◌, Bool, true, false, cond, nat_eq, ◌&&◌, List, [], ◌∷◌, length, get_or, drop, map, ap, refl, ◌∙◌, sym, arith}
use Rattle.std.proofs.lemmas.Bool.Decides.{nat_tests}
use Rattle.std.proofs.lemmas.List.{length-drop}
use Rattle.c_tree.specs.declared.tree.Tree.{Tree}
use Rattle.c_tree.specs.Syntax.{more}
use Rattle.c_tree.specs.Forget.{view, view_all}
use Rattle.metal_grammar.specs.Holes.{DeclaredHole, Position, Operand, LastArgument, are_placed, are_placed_in_elements, are_placed_in_arguments, are_placed_in_path, are_placed_in_designator}
use Rattle.metal_tree.specs.MetalMachines.Kept.{all_of}
use Rattle.metal_written.proofs.Any.{mapped-drop, mapped-end}
use Rattle.metal_written.proofs.Nodes.{view_drop}

-- one more of a list that is seen as another
pub each-step : {A B : Type 0} (view : A → B) (is : B → Bool) (xs : List A) (i : ℕ) (x : A) (here whole : Bool) → i < length xs → x ≡ get_or xs i x → here ≡ is (view x)
    → all_of is (map view (drop i xs)) ≡ whole → (here && all_of is (map view (drop (i + 1) xs))) ≡ whole
each-step view is xs i x here whole h e n w =
    ap (λ b. b && all_of is (map view (drop (i + 1) xs))) (n ∙ ap (λ y. is (view y)) e) ∙ sym (ap (all_of is) (mapped-drop view xs i x h)) ∙ w

pub each-end : {A B : Type 0} (view : A → B) (is : B → Bool) (xs : List A) (i : ℕ) (whole : Bool) → length xs ≤ i → all_of is (map view (drop i xs)) ≡ whole → true ≡ whole
each-end view is xs i whole h w = sym (ap (all_of is) (mapped-end view xs i h)) ∙ w

module _ (holes : List DeclaredHole) (items : List Tree) (i : ℕ) (d : Tree) (here whole : Bool) where
  -- one more element
  pub element-step : i < length items → here ≡ are_placed holes Operand (view (get_or items i d))
      → are_placed_in_elements holes (view_all (drop i items)) ≡ whole → (here && are_placed_in_elements holes (view_all (drop (i + 1) items))) ≡ whole
  element-step h n w =
      ap (λ b. b && are_placed_in_elements holes (view_all (drop (i + 1) items))) n ∙ sym (ap (are_placed_in_elements holes) (view_drop items i d h)) ∙ w

  -- one more designator
  pub designator-step : i < length items → here ≡ are_placed_in_designator holes (view (get_or items i d))
      → are_placed_in_path holes (view_all (drop i items)) ≡ whole → (here && are_placed_in_path holes (view_all (drop (i + 1) items))) ≡ whole
  designator-step h n w =
      ap (λ b. b && are_placed_in_path holes (view_all (drop (i + 1) items))) n ∙ sym (ap (are_placed_in_path holes) (view_drop items i d h)) ∙ w

  -- one more argument
  pub argument-step : (position : Position) → i < length items → position ≡ cond (nat_eq (i + 1) (length items)) LastArgument Operand → here ≡ are_placed holes position (view (get_or items i d))
      → are_placed_in_arguments holes (view_all (drop i items)) ≡ whole → (here && are_placed_in_arguments holes (view_all (drop (i + 1) items))) ≡ whole
  argument-step position h p n w =
      by (drop (i + 1) items) (omega (arith, length-drop (i + 1) items, h)) ∙ sym (ap (are_placed_in_arguments holes) (view_drop items i d h)) ∙ w
    where
      and_true : (b : Bool) → (b && true) ≡ b
      and_true true = refl
      and_true false = refl

      by : (rest : List Tree) → length rest + (i + 1) ≡ length items → (here && are_placed_in_arguments holes (view_all rest)) ≡ are_placed_in_arguments holes (more (view (get_or items i d)) (view_all rest))
      by [] l =
          let e : nat_eq (i + 1) (length items) ≡ true = grind (arith, nat_tests) in
          and_true here ∙ n ∙ ap (λ q. are_placed holes q (view (get_or items i d))) (p ∙ ap (λ b. cond b LastArgument Operand) e)
      by (t ∷ ts) l =
          let e : nat_eq (i + 1) (length items) ≡ false = grind (arith, nat_tests) in
          ap (λ b. b && are_placed_in_arguments holes (view_all (t ∷ ts))) (n ∙ ap (λ q. are_placed holes q (view (get_or items i d))) (p ∙ ap (λ b. cond b LastArgument Operand) e))
