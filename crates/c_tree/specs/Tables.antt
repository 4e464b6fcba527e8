-- Tables: of texts, each with what stands beside it, and of things that are told apart by two numbers. What is asked of one may be missing.
use Rattle.std.specs.Prelude.{ℕ, Bool, cond, nat_eq, ◌&&◌, List, [], ◌∷◌, bytes_eq, Option, None, Some}

-- what stands beside the text in a table, if it is there
abbrev pub find_text : {K : Type 0} → List ℕ → List (List ℕ × K) → Option K
find_text text [] = None
find_text text (e ∷ es) = cond (bytes_eq text e.0) (Some e.1) (find_text text es)

-- the same two numbers
abbrev pub same_key : ℕ × ℕ → ℕ × ℕ → Bool
same_key k l = nat_eq k.0 l.0 && nat_eq k.1 l.1

-- f of what is there, or y
abbrev pub if_there : {A B : Type 0} → Option A → B → (A → B) → B
if_there None y f = y
if_there (Some x) y f = f x
