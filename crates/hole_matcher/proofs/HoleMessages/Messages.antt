-- Messages are written piece by piece.
use Rattle.std.proofs.Common.{arith, ◌<◌, length, get_or, ◌≡◌, ℕ, ◌+◌, List, [], ◌∷◌, ◌++◌, false, Option, take, drop, map, refl, ◌∙◌, sym, ap}
use Rattle.std.specs.Prelude.{flat_map, OnErr}
use Rattle.std.specs.Prelude as outcome
use Rattle.std.proofs.lemmas.Grind.{common_steps}
use Rattle.std.proofs.lemmas.List.{take-append-drop, drop_more}
use Rattle.c_objects.specs.Objects.{Object}
use Rattle.hole_matching.specs.Holes.{Setting, is_variable}
use Rattle.hole_matching.specs.Matching.{Taken, Binding, slot}
use Rattle.hole_matching.specs.Message.{Source, slot_written, hole_written, shortened}
use Rattle.hole_matcher.specs.HoleMessages.Beginnings.{most_kept}
use Rattle.hole_matcher.proofs.HoleMessages.Kept.{shortened-kept}
use Rattle.objects.specs.Pieces.{HasBegun}

module _ (w : Source) (b : Binding) (o : Option Object) where
  -- a hole that is no state variable
  pub hole_shortened : (g : Setting) (n : ℕ) (x : Option Taken) (kept : List ℕ) → is_variable g n ≡ false → x ≡ slot n b → kept ≡ take most_kept (slot_written w x) → shortened kept ≡ shortened (hole_written g w b o n)
  hole_shortened g n x kept f e h =
      shortened-kept kept (slot_written w x) h
      ∙ ap (λ y. shortened (slot_written w y)) e
      ∙ ap shortened (sym (written f))
    where
      written : is_variable g n ≡ false → hole_written g w b o n ≡ slot_written w (slot n b)
      written e = grind (arith, e)

regroup : (xs ys zs : List ℕ) → (xs ++ ys) ++ zs ≡ xs ++ (ys ++ zs)
regroup xs ys zs = grind (arith, common_steps)

-- where so many pieces are written and a beginning of the next one is, a beginning of the text is
pub begun_next : {A B : Type 0} (f : B → List ℕ) (v : A → B) (pieces : List A) (i : ℕ) (d : A) (old into new : List ℕ) → i < length pieces → into ≡ old ++ flat_map f (map v (take i pieces)) → HasBegun into (f (v (get_or pieces i d))) new → HasBegun old (flat_map f (map v pieces)) new
begun_next {A} {B} f v pieces i d old into new lt e h = record {
  done = front ++ h.done;
  left = h.left ++ behind;
  written = h.written ∙ ap (λ xs. xs ++ h.done) e ∙ regroup old front h.done;
  whole =
      ap (λ (ps : List A). flat_map f (map v ps)) (sym (take-append-drop i pieces) ∙ ap (λ (ps : List A). take i pieces ++ ps) (drop_more pieces i d lt))
      ∙ split (take i pieces) (get_or pieces i d ∷ drop (i + 1) pieces)
      ∙ ap (λ xs. front ++ (xs ++ behind)) h.whole
      ∙ joined front h.done h.left behind;
}
  where
    front : List ℕ
    front = flat_map f (map v (take i pieces))

    behind : List ℕ
    behind = flat_map f (map v (drop (i + 1) pieces))

    split : (ps qs : List A) → flat_map f (map v (ps ++ qs)) ≡ flat_map f (map v ps) ++ flat_map f (map v qs)
    split [] qs = refl
    split (p ∷ ps) qs = ap (λ xs. f (v p) ++ xs) (split ps qs) ∙ sym (regroup (f (v p)) (flat_map f (map v ps)) (flat_map f (map v qs)))

    joined : (ws xs ys zs : List ℕ) → ws ++ ((xs ++ ys) ++ zs) ≡ (ws ++ xs) ++ (ys ++ zs)
    joined ws xs ys zs = grind (arith, common_steps)

pub on_err : {A E : Type 0} (r : outcome.Result A E) (P : Type 0) → P → OnErr r P
on_err (outcome.Ok x) P h = tt
on_err (outcome.Err e) P h = h
