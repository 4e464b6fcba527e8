-- Equal to the labels of `UnitGrammar/Control`, by gathering one after the other.
-- Labels that are gathered one after the other.
use Rattle.std.specs.Prelude.{ℕ, Bool, true, false, cond, List, [], ◌∷◌, ◌++◌, Option, None, Some}
use Rattle.c_grammar.specs.UnitGrammar.Control.{has_name}

-- the labels behind one, which is new or not
abbrev pub with_label : List ℕ → ℕ → Bool → List ℕ
with_label known name true = known ++ (name ∷ [])
with_label known name false = known

-- the labels behind these, if each is new
unfoldable pub gathered : List ℕ → List ℕ → Option (List ℕ)
gathered known [] = Some known
gathered known (name ∷ names) = cond (has_name name known) None (gathered (known ++ (name ∷ [])) names)

abbrev pub known_if : Bool → List ℕ → Option (List ℕ)
known_if true known = Some known
known_if false known = None
