-- Which body a called name has (ISO 9899:1990, 6.1.2.2).
use Rattle.std.specs.Prelude.{ℕ, suc, List, [], ◌∷◌, Option, None, Some, Bool, cond, not, ◌&&◌, nat_eq}
use Rattle.std.specs.Option.{option_map}
use Rattle.type_rules.specs.Functions.{Defined}
use Rattle.type_rules.specs.Options.{or_else}

-- it is defined in this file, under this name
abbrev pub is_in_file : ℕ → ℕ → Defined → Bool
is_in_file file name f = nat_eq f.file file && nat_eq f.name name

-- it has external linkage, and this name
abbrev pub is_external : ℕ → Defined → Bool
is_external name f = not f.own && nat_eq f.name name

-- the position of the first definition that passes the test
abbrev pub first_position : (Defined → Bool) → List Defined → Option ℕ
first_position test [] = None
first_position test (f ∷ fs) = cond (test f) (Some 0) (option_map suc (first_position test fs))

-- THE BODY of a name that is called in this file, by its position: the file's own, else the one with external linkage.
abbrev pub body_of : ℕ → ℕ → List Defined → Option ℕ
body_of file name fs = or_else (first_position (is_in_file file name) fs) (first_position (is_external name) fs)
