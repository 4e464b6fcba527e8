-- The text of an object is that of its pieces.
use Rattle.std.proofs.Common.{◌≡◌, ℕ, List, [], ◌∷◌, ◌++◌, Bool, true, false, cond, reverse, take, drop, refl, sym, ap, subst, ◌∙◌, arith}
use Rattle.std.specs.Prelude.{flat_map, OnErr}
use Rattle.std.specs.Prelude as outcome
use Rattle.std.proofs.lemmas.Grind.{common_steps, flat_map-append}
use Rattle.std.proofs.lemmas.List.{take-append-drop}
use Rattle.c_objects.specs.Objects.{Selector, Deref, Field, At, AtVar, Object}
use Rattle.c_objects.specs.Text.{var_text, steps_text, in_parens, is_last_star, object_text}
use Rattle.type_rules.specs.Vars.{CVar, Extern, FileStatic, LocalStatic, Param, Local, Result, Called}
use Rattle.objects.specs.Pieces.{HasBegun, piece_text, var_pieces, part_pieces, steps_pieces, object_pieces}
use Rattle.objects.specs.declared.pieces.Piece.{Piece}
use Rattle.objects.specs.declared.pieces.Piece.TheVariants as piece

module _ (names : List (List ℕ)) where
  abbrev text : List Piece → List ℕ
  text pieces = flat_map (piece_text names) pieces

  var_pieces_are : (v : CVar) → text (var_pieces v) ≡ var_text names v
  var_pieces_are (Extern n) = grind (arith, common_steps)
  var_pieces_are (FileStatic f n) = grind (arith, common_steps)
  var_pieces_are (LocalStatic f t n) = grind (arith, common_steps)
  var_pieces_are (Param f t n) = grind (arith, common_steps)
  var_pieces_are (Local f t n) = grind (arith, common_steps)
  var_pieces_are Result = refl
  var_pieces_are (Called f t n) = grind (arith, common_steps)

  part_pieces_are : (b : Bool) (pieces : List Piece) (t : List ℕ) → text pieces ≡ t → text (part_pieces b pieces) ≡ in_parens b t
  part_pieces_are true pieces t e = grind (arith, common_steps, e)
  part_pieces_are false pieces t e = e

  steps_pieces_are : (v : CVar) (ss : List Selector) → text (steps_pieces v ss) ≡ steps_text names v ss
  steps_pieces_are v [] = var_pieces_are v
  steps_pieces_are v (Deref ∷ ss) = ap (λ t. piece_text names piece.Star ++ t) (steps_pieces_are v ss)
  steps_pieces_are v (At n ∷ ss) = grind (arith, common_steps, part_pieces_are (is_last_star ss) (steps_pieces v ss) (steps_text names v ss) (steps_pieces_are v ss))
  steps_pieces_are v (AtVar i ∷ ss) = grind (arith, common_steps, var_pieces_are i, part_pieces_are (is_last_star ss) (steps_pieces v ss) (steps_text names v ss) (steps_pieces_are v ss))
  steps_pieces_are v (Field f ∷ Deref ∷ ss) = grind (arith, common_steps, part_pieces_are (is_last_star ss) (steps_pieces v ss) (steps_text names v ss) (steps_pieces_are v ss))
  steps_pieces_are v (Field f ∷ []) = grind (arith, common_steps, var_pieces_are v)
  steps_pieces_are v (Field f ∷ s ∷ ss) = grind (arith, common_steps, steps_pieces_are v (s ∷ ss))

  pub object_pieces_are : (o : Object) → text (object_pieces o) ≡ object_text names o
  object_pieces_are o = grind (arith, common_steps, steps_pieces_are o.base (reverse o.selectors))

-- where so many pieces are written, a beginning of the text is
pub begun : (f : Piece → List ℕ) (pieces : List Piece) (i : ℕ) (old new : List ℕ) → new ≡ old ++ flat_map f (take i pieces) → HasBegun old (flat_map f pieces) new
begun f pieces i old new e = record {
  done = flat_map f (take i pieces);
  left = flat_map f (drop i pieces);
  written = e;
  whole = ap (flat_map f) (sym (take-append-drop i pieces)) ∙ flat_map-append f (take i pieces) (drop i pieces);
}

pub on_err : {A E : Type 0} (r : outcome.Result A E) (P : Type 0) → P → OnErr r P
on_err (outcome.Ok x) P h = tt
on_err (outcome.Err e) P h = h

-- what holds of the text of the pieces holds of that of the object
pub as_object : (P : List ℕ → Type 0) (names : List (List ℕ)) (o : Object) (pieces : List Piece) → pieces ≡ object_pieces o → P (flat_map (piece_text names) pieces) → P (object_text names o)
as_object P names o pieces e h =
    let Q : List Piece → Type 0 = λ ps. P (flat_map (piece_text names) ps) in
    subst P (object_pieces_are names o) (subst Q e h)
