-- THE NUMBERS OF BLOCKS: a number that is changed twice is as it was.
use Rattle.std.proofs.Common.{◌≡◌, ◌∙◌, refl, sym, ap, ℕ, nat_eq, Bool, true, false, cond, List, Option, None, Some, slice_get, eqb-true, eq-eqb}
use Rattle.flow_graph.specs.CPaths.Building.{Graph}
use Rattle.numbered_program.specs.Views.{block_at, swapped}
use Rattle.type_rules.specs.Options.{if_there}

module _ (first : ℕ) where
  at_zero : (b : ℕ) → nat_eq b 0 ≡ true → swapped first b ≡ first
  at_zero b e = ap (λ t. cond t first (cond (nat_eq b first) 0 b)) e

  at_first : (b : ℕ) → nat_eq b 0 ≡ false → nat_eq b first ≡ true → swapped first b ≡ 0
  at_first b e h = ap (λ t. cond t first (cond (nat_eq b first) 0 b)) e ∙ ap (λ t. cond t 0 b) h

  at_other : (b : ℕ) → nat_eq b 0 ≡ false → nat_eq b first ≡ false → swapped first b ≡ b
  at_other b e h = ap (λ t. cond t first (cond (nat_eq b first) 0 b)) e ∙ ap (λ t. cond t 0 b) h

  -- the block 0 is the first
  pub zero_swapped : swapped first 0 ≡ first
  zero_swapped = at_zero 0 (eq-eqb 0 0 refl)

  first_swapped : swapped first first ≡ 0
  first_swapped = by (nat_eq first 0) refl
    where
      by : (t : Bool) → nat_eq first 0 ≡ t → swapped first first ≡ 0
      by true e = at_zero first e ∙ eqb-true first 0 e
      by false e = at_first first e (eq-eqb first first refl)

  pub swapped_twice : (b : ℕ) → swapped first (swapped first b) ≡ b
  swapped_twice b = by (nat_eq b 0) refl (nat_eq b first) refl
    where
      by : (s : Bool) → nat_eq b 0 ≡ s → (t : Bool) → nat_eq b first ≡ t → swapped first (swapped first b) ≡ b
      by true e t h = ap (swapped first) (at_zero b e) ∙ first_swapped ∙ sym (eqb-true b 0 e)
      by false e true h = ap (swapped first) (at_first b e h) ∙ zero_swapped ∙ sym (eqb-true b first h)
      by false e false h = ap (swapped first) (at_other b e h) ∙ at_other b e h

module _ (gs : List Graph) (n : ℕ) where
  -- in the function with this number
  pub block_in : (g : Graph) → slice_get gs n ≡ Some g → (b : ℕ) → block_at gs n b ≡ swapped g.entry b
  block_in g e b = ap (λ (q : Option Graph). if_there q b (λ h. swapped h.entry b)) e

  pub block_twice : (b : ℕ) → block_at gs n (block_at gs n b) ≡ b
  block_twice b = by (slice_get gs n)
    where
      by : (q : Option Graph) → if_there q (if_there q b (λ g. swapped g.entry b)) (λ g. swapped g.entry (if_there q b (λ h. swapped h.entry b))) ≡ b
      by None = refl
      by (Some g) = swapped_twice g.entry b

  -- what a block of the graph becomes twice
  pub swapped_block : (g : Graph) → slice_get gs n ≡ Some g → (b : ℕ) → swapped g.entry (block_at gs n b) ≡ b
  swapped_block g e b = ap (swapped g.entry) (block_in g e b) ∙ swapped_twice g.entry b

  pub block_swapped : (g : Graph) → slice_get gs n ≡ Some g → (b d : ℕ) → d ≡ swapped g.entry b → block_at gs n d ≡ b
  block_swapped g e b d h = block_in g e d ∙ ap (swapped g.entry) h ∙ swapped_twice g.entry b
