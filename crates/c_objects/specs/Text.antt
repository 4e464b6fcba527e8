-- The text of an object, over the texts of names by their numbers.
use Rattle.std.specs.Prelude.{ℕ, List, [], ◌∷◌, ◌++◌, get_or, reverse, Bool, true, false, cond, codes}
use Rattle.std.specs.Fmt.{decimal}
use Rattle.c_objects.specs.Objects.{Selector, Deref, Field, At, AtVar, Object}
use Rattle.type_rules.specs.Vars.{CVar, Extern, FileStatic, LocalStatic, Param, Local, Result, Called}

abbrev pub text_of : List (List ℕ) → ℕ → List ℕ
text_of names n = get_or names n []

-- A variable's text is its name. `result` and `f()` are what a return and a call leave behind.
abbrev pub var_text : List (List ℕ) → CVar → List ℕ
var_text names (Extern n) = text_of names n
var_text names (FileStatic f n) = text_of names n
var_text names (LocalStatic f t n) = text_of names n
var_text names (Param f t n) = text_of names n
var_text names (Local f t n) = text_of names n
var_text names Result = codes "result"
var_text names (Called f t n) = text_of names n ++ codes "()"

abbrev pub is_last_star : List Selector → Bool
is_last_star (Deref ∷ ss) = true
is_last_star _ = false

abbrev pub in_parens : Bool → List ℕ → List ℕ
in_parens b text = cond b (codes "(" ++ text ++ codes ")") text

-- A path with its last step first. A part whose last step is `*` stands in parentheses before `.`, `->` and `[`.
abbrev pub steps_text : List (List ℕ) → CVar → List Selector → List ℕ
steps_text names v [] = var_text names v
steps_text names v (Deref ∷ ss) = codes "*" ++ steps_text names v ss
steps_text names v (At n ∷ ss) = in_parens (is_last_star ss) (steps_text names v ss) ++ codes "[" ++ decimal n ++ codes "]"
steps_text names v (AtVar i ∷ ss) = in_parens (is_last_star ss) (steps_text names v ss) ++ codes "[" ++ var_text names i ++ codes "]"
steps_text names v (Field f ∷ Deref ∷ ss) = in_parens (is_last_star ss) (steps_text names v ss) ++ codes "->" ++ text_of names f
steps_text names v (Field f ∷ ss) = steps_text names v ss ++ codes "." ++ text_of names f

-- THE TEXT OF AN OBJECT
abbrev pub object_text : List (List ℕ) → Object → List ℕ
object_text names o = cond o.address (codes "&") [] ++ steps_text names o.base (reverse o.selectors)
