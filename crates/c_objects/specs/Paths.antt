-- Steps behind an object, and a path put in the place of another.
use Rattle.std.specs.Prelude.{ℕ, List, [], ◌∷◌, ◌++◌, Bool, true, false, cond, not, ◌&&◌, ◌||◌, Option, None, Some, is_some}
use Rattle.c_objects.specs.Objects.{Selector, Deref, Field, Object, path, address_of, ends_in_star, up_to, same_var, same_selector}
use Rattle.type_rules.specs.Options.{◌>?◌}

-- behind the address of a path: nothing, or first of all `*`, which gives the path
abbrev pub joined_address : Object → List Selector → Option Object
joined_address o [] = Some o
joined_address o (Deref ∷ r) = Some (path o.base (o.selectors ++ r))
joined_address o _ = None

abbrev pub joined : Object → List Selector → Option Object
joined o r = cond o.address (joined_address o r) (Some (path o.base (o.selectors ++ r)))

-- THE STEPS BEHIND AN OBJECT: behind a path `P`, the path `P·r`; behind an address `&P`, itself for none, and `P·r` for `*·r`.
-- There is none in every other case, and past the depth.
abbrev pub append : ℕ → Object → List Selector → Option Object
append depth o r = joined o r >? up_to depth

-- the address of a path that doesn't end in `*`
abbrev pub addressed : Object → Option Object
addressed o = cond (o.address || ends_in_star o.selectors) None (Some (address_of o.base o.selectors))

-- what stands behind the first steps
abbrev pub behind : List Selector → List Selector → Option (List Selector)
behind [] ss = Some ss
behind (p ∷ ps) [] = None
behind (p ∷ ps) (s ∷ ss) = cond (same_selector p s) (behind ps ss) None

-- the steps by which an object, or what it is the address of, goes on behind a path
abbrev pub rest : Object → Object → Option (List Selector)
rest o p = cond (same_var p.base o.base) (behind p.selectors o.selectors) None

-- an object that is a path begins with a path
abbrev pub begins_with : Object → Object → Bool
begins_with o p = not o.address && not p.address && is_some (rest o p)

-- one of the steps is `*` or an index: they leave the variable or its member
abbrev pub has_access : List Selector → Bool
has_access [] = false
has_access (Field f ∷ ss) = has_access ss
has_access (s ∷ ss) = true

abbrev pub rebased_address : ℕ → Object → List Selector → Option Object
rebased_address depth a r = cond (has_access r) (append depth a r >? addressed) None

-- ANOTHER OBJECT IN THE PLACE OF A PATH. What goes on behind the path `p` by `r` becomes `a` with `r` behind it. An address is
-- taken of what it becomes, where `r` has `*` or an index and that is a path. There is none in every other case.
abbrev pub rebase : ℕ → Object → Object → Object → Option Object
rebase depth o p a = rest o p >? λ r. cond o.address (rebased_address depth a r) (append depth a r)
