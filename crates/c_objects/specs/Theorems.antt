-- The theorems of this crate as statements, which contracts can name.
use Rattle.std.specs.Prelude.{◌≡◌, ℕ, ◌≤◌, ◌↔◌, List, ◌++◌, Some, true, false}
use Rattle.c_objects.specs.Facts.{Facts}
use Rattle.c_objects.specs.Objects.{Selector, Object, IsObject, path, up_to}
use Rattle.c_objects.specs.ObjectOf.{object_of}
use Rattle.c_objects.specs.Paths.{append, rebase, begins_with}
use Rattle.c_objects.specs.Replaced.{replaced}
use Rattle.c_tree.specs.Node.{Node}
use Rattle.type_rules.specs.Options.{◌>?◌}
use Rattle.type_rules.specs.Vars.{CVar}

-- the object of a tree is an object at the depth
abbrev pub TreesHaveObjects : Type 0
TreesHaveObjects = (u : Facts) (depth : ℕ) (e : Node) (o : Object) → object_of u depth e ≡ Some o → IsObject depth o

-- The object of a tree at a depth is that at a greater depth, if it has at most so many steps.
abbrev pub DepthCutsOff : Type 0
DepthCutsOff = (u : Facts) (depth more : ℕ) (e : Node) → depth ≤ more → object_of u depth e ≡ (object_of u more e >? up_to depth)

-- steps behind steps are the steps of both
abbrev pub StepsAreJoined : Type 0
StepsAreJoined = (depth : ℕ) (o : Object) (r s : List Selector) → (append depth o r >? λ q. append depth q s) ≡ append depth o (r ++ s)

-- what begins with a path is the path with some steps behind it
abbrev pub BeginsWithIsRest : Type 0
BeginsWithIsRest = (o : Object) (base : CVar) (ps : List Selector)
    → (begins_with o (path base ps) ≡ true) ↔ ((r : List Selector) × (o ≡ path base (ps ++ r)))

-- what begins with a path has what stands behind it put behind the new object
abbrev pub RestIsRebased : Type 0
RestIsRebased = (depth : ℕ) (base : CVar) (ps r : List Selector) (a : Object) → rebase depth (path base (ps ++ r)) (path base ps) a ≡ append depth a r

-- what is put in the place of a path gives an object at the depth, and so do steps behind an object
abbrev pub RebaseGivesObjects : Type 0
RebaseGivesObjects = (depth : ℕ) (o p a q : Object) → IsObject depth a → rebase depth o p a ≡ Some q → IsObject depth q

abbrev pub AppendGivesObjects : Type 0
AppendGivesObjects = (depth : ℕ) (o q : Object) (r : List Selector) → IsObject depth o → append depth o r ≡ Some q → IsObject depth q

-- The object that is found to become another where an object is put in the place of a path does, and no other does.
abbrev pub ReplacedObjectsBecomeTheirs : Type 0
ReplacedObjectsBecomeTheirs = (depth : ℕ) (l a o q : Object) → l.address ≡ false → IsObject depth a → IsObject depth o
    → (replaced depth l a o ≡ Some q) ↔ (IsObject depth q × (rebase depth q l a ≡ Some o))
