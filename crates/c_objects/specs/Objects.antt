-- Objects: access paths, and their addresses.
use Rattle.std.specs.Prelude.{◌≡◌, ℕ, ◌≤◌, nat_eq, nat_le, List, [], ◌∷◌, length, Bool, true, false, cond, not, ◌&&◌, ◌||◌, Option, None, Some}
use Rattle.type_rules.specs.Vars.{CVar, Extern, FileStatic, LocalStatic, Param, Local, Result, Called}

-- One step of a path: `*`, `.f` by the name of the member, `[n]` by an integer constant, `[i]` by an integer variable.
pub data Selector : Type 0 where
  Deref : Selector
  Field : ℕ → Selector
  At : ℕ → Selector
  AtVar : CVar → Selector

-- A path is a variable and the steps from it. An object is a path or, with the mark, the address of one.
pub record Object : Type 0 where
  pub address : Bool
  pub base : CVar
  pub selectors : List Selector

abbrev pub path : CVar → List Selector → Object
path base selectors = record { address = false; base = base; selectors = selectors }

abbrev pub address_of : CVar → List Selector → Object
address_of base selectors = record { address = true; base = base; selectors = selectors }

-- the last step is `*`
abbrev pub ends_in_star : List Selector → Bool
ends_in_star [] = false
ends_in_star (Deref ∷ []) = true
ends_in_star (s ∷ ss) = ends_in_star ss

-- AN OBJECT AT THIS DEPTH: it has at most so many steps, and what it is the address of doesn't end in `*`.
pub record IsObject (depth : ℕ) (o : Object) : Type 0 where
  pub short : length o.selectors ≤ depth
  pub plain : o.address ≡ true → ends_in_star o.selectors ≡ false

-- the same as a test, and the object where it is one
abbrev pub is_object : ℕ → Object → Bool
is_object depth o = nat_le (length o.selectors) depth && not (o.address && ends_in_star o.selectors)

abbrev pub if_object : ℕ → Object → Option Object
if_object depth o = cond (is_object depth o) (Some o) None

-- the object, if it has at most so many steps
abbrev pub up_to : ℕ → Object → Option Object
up_to depth o = cond (nat_le (length o.selectors) depth) (Some o) None

abbrev pub same_var : CVar → CVar → Bool
same_var (Extern n) (Extern m) = nat_eq n m
same_var (FileStatic f n) (FileStatic g m) = nat_eq f g && nat_eq n m
same_var (LocalStatic f t n) (LocalStatic g s m) = nat_eq f g && nat_eq t s && nat_eq n m
same_var (Param f t n) (Param g s m) = nat_eq f g && nat_eq t s && nat_eq n m
same_var (Local f t n) (Local g s m) = nat_eq f g && nat_eq t s && nat_eq n m
same_var Result Result = true
same_var (Called f t n) (Called g s m) = nat_eq f g && nat_eq t s && nat_eq n m
same_var _ _ = false

abbrev pub same_selector : Selector → Selector → Bool
same_selector Deref Deref = true
same_selector (Field f) (Field g) = nat_eq f g
same_selector (At n) (At m) = nat_eq n m
same_selector (AtVar v) (AtVar w) = same_var v w
same_selector _ _ = false

-- Static storage (ISO 9899:1990, 6.1.2.4). What a return leaves behind has it too, what a call leaves behind hasn't.
abbrev pub is_static_var : CVar → Bool
is_static_var (Extern n) = true
is_static_var (FileStatic f n) = true
is_static_var (LocalStatic f t n) = true
is_static_var Result = true
is_static_var _ = false

abbrev pub are_static : List Selector → Bool
are_static [] = true
are_static (AtVar v ∷ ss) = is_static_var v && are_static ss
are_static (s ∷ ss) = are_static ss

-- A GLOBAL OBJECT: its variable and all its index variables have static storage.
abbrev pub is_static : Object → Bool
is_static o = is_static_var o.base && are_static o.selectors

abbrev pub is_indexed_by : List Selector → CVar → Bool
is_indexed_by [] v = false
is_indexed_by (AtVar w ∷ ss) v = same_var w v || is_indexed_by ss v
is_indexed_by (s ∷ ss) v = is_indexed_by ss v

-- the variable is an index in the object
abbrev pub mentions : Object → CVar → Bool
mentions o v = is_indexed_by o.selectors v
