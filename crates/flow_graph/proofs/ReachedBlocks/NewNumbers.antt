-- The new number of a block that is kept is its place in the list of these.
use Rattle.std.proofs.Common.{arith, ◌≡◌, ◌≢◌, ◌<◌, ◌≤◌, ◌+◌, ℕ, true, false, List, ◌⊎◌, inl, inr, length, map, Contains, Option, None, Some, refl, sym, ap, ◌∙◌, subst}
use Rattle.std.specs.Prelude.{slice_get, slice_set, get_or}
use Rattle.std.specs.Option.{option_map}
use Rattle.std.proofs.lemmas.Bool.{cases_lt}
use Rattle.std.proofs.lemmas.Bool.Decides.{eqb_tells}
use Rattle.std.proofs.lemmas.List.{length-map, get_or-set_same, get_or-set_other}
use Rattle.std.proofs.lemmas.List.Elements.{Contains-get_or}
use Rattle.std.proofs.lemmas.Option.{slice_get-map, slice_get-get_or, slice_get_past, slice_get_within}
use Rattle.std.proofs.Math.Dec.{eqb}
use Rattle.flow_graph.specs.CPaths.Building.{Graph}
use Rattle.flow_graph.specs.CPaths.Forwarders.{redirected}
use Rattle.flow_graph.specs.CPaths.Graphs.{Block}
use Rattle.flow_graph.specs.CPaths.SoundGraphs.{IsSoundGraph}
use Rattle.flow_graph.specs.Joins.{Replaces}
use Rattle.flow_graph.specs.KeptBlocks.{HaveNumbers, nowhere, there, renumbered}
use Rattle.flow_graph.specs.ReachedBlocks.Reached.{Reaches, AreReached, AllReached}
use Rattle.flow_graph.specs.Targets.{target_of}
use Rattle.flow_graph.proofs.ReachedBlocks.KeptBlocks.{all_reached, stands_in_place}
use Rattle.flow_graph.proofs.ReachedBlocks.Within.{reached-within}

same_some : (x y : ℕ) → Some x ≡ Some y → x ≡ y
same_some x y e = cc

-- a block that is there, and one that isn't
pub renumbered_there : (f : ℕ → ℕ) (g : List Block) (n : ℕ) (s new : Block) → slice_get g n ≡ Some s → new ≡ redirected f s → new ≡ renumbered f g n
renumbered_there f g n s new at is = is ∙ ap (λ (o : Option Block). redirected f (there o)) (sym at)

pub renumbered_past : (f : ℕ → ℕ) (g : List Block) (n : ℕ) (new : Block) → length g ≤ n → new ≡ nowhere → new ≡ renumbered f g n
renumbered_past f g n new past is = is ∙ ap (λ (o : Option Block). redirected f (there o)) (sym (slice_get_past g n past))

-- one more has its number
pub one_more_has : (n : ℕ) (kept : List ℕ) (count b : ℕ) (numbers : List ℕ) → length numbers ≡ count → slice_get kept n ≡ Some b → HaveNumbers n kept count numbers → HaveNumbers (n + 1) kept count (slice_set numbers b n)
one_more_has n kept count b numbers all is have i x before below at = by (eqb_tells x b) (cases_lt i n)
  where
    by : ((eqb x b ≡ true) × (x ≡ b)) ⊎ ((eqb x b ≡ false) × (x ≢ b)) → (i < n) ⊎ (n ≤ i) → slice_get kept (target_of (slice_set numbers b n) x) ≡ Some x
    by (inl same) j =
        let within : b < length numbers = subst (λ m. b < m) (sym all) (subst (λ y. y < count) same.1 below) in
        subst (λ y. slice_get kept (target_of (slice_set numbers b n) y) ≡ Some y) (sym same.1) (ap (slice_get kept) (get_or-set_same numbers b n b within) ∙ is)
    by (inr other) (inl earlier) = ap (slice_get kept) (get_or-set_other numbers b x n x other.1) ∙ have i x earlier below at
    by (inr other) (inr later) =
        let last : i ≡ n = omega (arith, before, later) in
        absurd (other.1 (same_some x b (sym at ∙ ap (slice_get kept) last ∙ is)))

found_in : (xs : List ℕ) (x : ℕ) → Contains xs x → (i : ℕ) × (i < length xs) × (slice_get xs i ≡ Some x)
found_in xs x h = (h.0, h.1, slice_get-get_or xs h.0 x h.1 ∙ ap (λ (y : ℕ). Some y) h.2)

module _ (g : Graph) (kept numbers : List ℕ) (h : List Block) (have : HaveNumbers (length kept) kept (length g.blocks) numbers) (reached : AreReached g kept) (made : h ≡ map (renumbered (target_of numbers) g.blocks) kept) (sound : IsSoundGraph g.blocks g.entry) where
  place : (b : ℕ) → Reaches g b → slice_get kept (target_of numbers b) ≡ Some b
  place b r = let i = found_in kept b (reached.exact.1 b r) in have i.0 b i.1 (reached-within g sound r) i.2

  new_at : (k : ℕ) → slice_get h k ≡ option_map (renumbered (target_of numbers) g.blocks) (slice_get kept k)
  new_at k = ap (λ (ss : List Block). slice_get ss k) made ∙ slice_get-map (renumbered (target_of numbers) g.blocks) kept k

  is_there : (o : Option Block) (s : Block) → o ≡ Some s → Some (redirected (target_of numbers) (there o)) ≡ option_map (redirected (target_of numbers)) o
  is_there None s e = cc
  is_there (Some t) s e = refl

  moved : (b : ℕ) → Reaches g b → slice_get h (target_of numbers b) ≡ option_map (redirected (target_of numbers)) (slice_get g.blocks b)
  moved b r =
      new_at (target_of numbers b)
      ∙ ap (option_map (renumbered (target_of numbers) g.blocks)) (place b r)
      ∙ is_there (slice_get g.blocks b) (get_or g.blocks b (there (slice_get g.blocks b))) (slice_get-get_or g.blocks b (there (slice_get g.blocks b)) (reached-within g sound r))

  same_count : length h ≡ length kept
  same_count = ap (λ (ss : List Block). length ss) made ∙ length-map kept (renumbered (target_of numbers) g.blocks)

  only : (k : ℕ) → k < length h → (b : ℕ) × Reaches g b × (target_of numbers b ≡ k)
  only k within =
      let b = get_or kept k 0 in
      let here : k < length kept = subst (λ m. k < m) same_count within in
      let at : slice_get kept k ≡ Some b = slice_get-get_or kept k 0 here in
      let r : Reaches g b = reached.exact.0 b (Contains-get_or kept k 0 here) in
      (b, r, reached.once (target_of numbers b) k b (place b r) at)

  within : (b : ℕ) → Reaches g b → target_of numbers b < length h
  within b r = subst (λ m. target_of numbers b < m) (sym same_count) (slice_get_within kept (target_of numbers b) b (place b r))

  abbrev new : Graph
  new = record { blocks = h; entry = target_of numbers g.entry }

  kept_stand : Replaces g new × AllReached new
  kept_stand = (stands_in_place g h (target_of numbers) moved only within, all_reached g h (target_of numbers) moved only)

abbrev framed : List Block → ℕ → Graph
framed bs entry = record { blocks = bs; entry = entry }

-- THE GRAPH OF THE BLOCKS that are reached, under their new numbers
pub kept_graph : (g : Graph) (kept numbers : List ℕ) (new : Graph) → HaveNumbers (length kept) kept (length g.blocks) numbers → AreReached g kept → new.blocks ≡ map (renumbered (target_of numbers) g.blocks) kept → new.entry ≡ target_of numbers g.entry
    → IsSoundGraph g.blocks g.entry → Replaces g new × AllReached new
kept_graph g kept numbers new have reached made begins sound =
    subst (λ (x : Graph). Replaces g x × AllReached x) (ap (framed new.blocks) (sym begins)) (kept_stand g kept numbers new.blocks have reached made sound)
