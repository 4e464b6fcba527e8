-- A place that is put last, with its bit.
use Rattle.std.proofs.Common.{◌≡◌, ℕ, Bool, true, false, not, ◌||◌, if◌then◌else◌, List, [], ◌∷◌, ◌++◌, Result, Ok, Err, OnErr, Vec, refl, sym, ap, ◌∙◌}
use Rattle.std.specs.List.{list_any}
use Rattle.std.proofs.lemmas.List.Folds.{list_any-append}
use Rattle.entry_log.specs.Bits.{is_set_in}
use Rattle.entry_log.specs.Rows.{is_at, place, Agree, Puts}
use Rattle.entry_log.specs.declared.entries.Place.{Place}

pub on_err : {T E P : Type 0} (r : Result T E) → P → OnErr r P
on_err (Ok x) p = tt
on_err (Err x) p = p

module _ {A : Type 0} (rows : List (Vec ℕ A)) (order : List Place) (row block : ℕ) (agree : Agree rows order) where
  -- it has its bit, so it is there
  pub puts_nothing : is_set_in rows row block ≡ true → Puts order order row block false
  puts_nothing is = record {
    added_if_new = ap not (sym is ∙ agree row block);
    last = sym (ap (λ t. if t then order else order ++ place row block ∷ []) (sym (agree row block) ∙ is));
  }

  -- it isn't there, since it has no bit
  pub isnt_placed : is_set_in rows row block ≡ false → list_any (is_at row block) order ≡ false
  isnt_placed is = sym (agree row block) ∙ is

  pub puts_last : is_set_in rows row block ≡ false → (new : List Place) → new ≡ order ++ place row block ∷ [] → Puts order new row block true
  puts_last is new more = record {
    added_if_new = ap not (sym (isnt_placed is));
    last = more ∙ sym (ap (λ t. if t then order else order ++ place row block ∷ []) (isnt_placed is));
  }

  -- rows with the same bits
  pub agree_alike : (other : List (Vec ℕ A)) → ((r b : ℕ) → is_set_in other r b ≡ is_set_in rows r b) → Agree other order
  agree_alike other same r b = same r b ∙ agree r b

  -- the bits go with the places
  pub agree_with_bit : (other : List (Vec ℕ A)) (new : List Place) → new ≡ order ++ place row block ∷ [] → ((r b : ℕ) → is_set_in other r b ≡ is_at r b (place row block) || is_set_in rows r b) → Agree other new
  agree_with_bit other new more set r b = set r b ∙ ap (λ t. is_at r b (place row block) || t) (agree r b)
      ∙ swapped (is_at r b (place row block)) (list_any (is_at r b) order) ∙ sym (ap (list_any (is_at r b)) more ∙ list_any-append (is_at r b) order (place row block ∷ []))
    where
      swapped : (s t : Bool) → s || t ≡ t || (s || false)
      swapped true true = refl
      swapped true false = refl
      swapped false true = refl
      swapped false false = refl
