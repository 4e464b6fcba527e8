-- What some of a list give, where the list is gone over.
use Rattle.std.proofs.Common.{◌≡◌, ℕ, ◌+◌, ◌<◌, List, [], ◌∷◌, ◌++◌, take, length, get_or, Option, None, Some, sym, ap, ◌∙◌, append-nil}
use Rattle.std.specs.List.{filter_map, cons_option}
use Rattle.std.proofs.lemmas.List.{take_more}
use Rattle.std.proofs.lemmas.List.Elements.{filter_map-append}

module _ {T B : Type 0} (F : T → Option B) (xs : List T) (i : ℕ) (x : T) (out : List B) (within : i < length xs) (is : x ≡ get_or xs i x)
    (before : out ≡ filter_map F (take i xs)) where
  whole : filter_map F (take (i + 1) xs) ≡ out ++ filter_map F (x ∷ [])
  whole =
      ap (filter_map F) (take_more xs i x within)
      ∙ filter_map-append F (take i xs) (get_or xs i x ∷ [])
      ∙ ap (λ z. z ++ filter_map F (get_or xs i x ∷ [])) (sym before)
      ∙ ap (λ z. out ++ filter_map F (z ∷ [])) (sym is)

  -- the next one gives this
  pub gave : (new : List B) (d : B) → new ≡ out ++ d ∷ [] → F x ≡ Some d → new ≡ filter_map F (take (i + 1) xs)
  gave new d pushed e = pushed ∙ ap (λ z. out ++ cons_option z []) (sym e) ∙ sym whole

  -- or nothing
  pub gave-none : F x ≡ None → out ≡ filter_map F (take (i + 1) xs)
  gave-none e = sym (append-nil out) ∙ ap (λ z. out ++ cons_option z []) (sym e) ∙ sym whole
