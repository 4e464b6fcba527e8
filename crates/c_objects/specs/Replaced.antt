-- THE OBJECT THAT BECOMES ANOTHER where an object is put in the place of a path: the way back from `rebase`.
use Rattle.std.specs.Prelude.{ℕ, List, [], ◌∷◌, Bool, true, false, cond, Option}
use Rattle.c_objects.specs.Objects.{Selector, Deref, Object, path, up_to}
use Rattle.c_objects.specs.Paths.{append, addressed, rest, rebase}
use Rattle.type_rules.specs.Options.{◌>?◌}

-- where the address `&P` was put there: what comes to `P` and these steps, or to the address of that
abbrev pub pointed : ℕ → Object → Bool → List Selector → Option Object
pointed depth l false r = append depth l (Deref ∷ r)
pointed depth l true [] = up_to depth l
pointed depth l true r = append depth l (Deref ∷ r) >? addressed

-- The object that becomes `o` where `a` is put in the place of the path `l`: where `a` is a path, `o` with `l` in its place.
abbrev pub replaced : ℕ → Object → Object → Object → Option Object
replaced depth l a o = cond a.address (rest o (path a.base a.selectors) >? pointed depth l o.address) (rebase depth o a l)
