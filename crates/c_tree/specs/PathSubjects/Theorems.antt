-- The theorem on subjects as a statement, which contracts can name.
use Rattle.std.specs.Prelude.{◌≡◌, Bool, true, false}
use Rattle.c_tree.specs.Node.{Node, node, Initializer, Init}
use Rattle.c_tree.specs.PathSubjects.Subjects.{first_of, tree_place}

-- whether this is the initializer of a name
abbrev pub is_initialized : Node → Bool
is_initialized (node i p (Initializer (Init name declarator initial))) = true
is_initialized _ = false

abbrev pub TreesStandAtTheirFirstTokens : Type 0
TreesStandAtTheirFirstTokens = (n : Node) → is_initialized n ≡ false → tree_place n ≡ first_of n
