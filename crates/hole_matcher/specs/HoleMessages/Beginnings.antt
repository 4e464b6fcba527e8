-- Texts with one blank between them, of which the beginning is kept.
use Rattle.std.specs.Prelude.{ℕ, List, [], ◌∷◌, ◌++◌, take, map, flat_map, Bool, false, cond, codes}
use Rattle.c_objects.specs.Text.{text_of}
use Rattle.c_tree.specs.declared.place.Place.{Place}
use Rattle.c_tree.specs.declared.token.Token.{Token}
use Rattle.hole_matching.specs.Message.{spaced, is_at}
use Rattle.hole_matcher.specs.declared.hole_messages.spelled.Spelled as code

abbrev pub most_kept : ℕ
most_kept = 201

-- texts with a blank before each
abbrev pub after_blanks : List (List ℕ) → List ℕ
after_blanks texts = flat_map (λ t. codes " " ++ t) texts

-- texts that come behind others, or are the first ones
abbrev pub coming : Bool → List (List ℕ) → List ℕ
coming is_first texts = cond is_first (spaced texts) (after_blanks texts)

-- what is kept in the end, where these texts are still to come
abbrev pub shown : code.Spelled → List (List ℕ) → List ℕ
shown s texts = take most_kept (s.bytes.items ++ coming s.is_first texts)

-- the texts of the names of tokens
abbrev pub names_spelled : List (List ℕ) → List Token → List (List ℕ)
names_spelled names tokens = map (λ t. text_of names t.name) tokens

-- the first of these tokens stands at a place
abbrev pub begins_at : Place → List Token → Bool
begins_at p [] = false
begins_at p (t ∷ ts) = is_at p t
