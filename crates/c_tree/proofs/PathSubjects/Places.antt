-- Where trees stand.
use Rattle.std.proofs.Common.{◌≡◌, false, refl}
use Rattle.c_tree.specs.Node.{Node, node, Primary, Operation, Initializer, Specifier, Declarator, Part, Outer, Statement, Iteration, Jump, Init, Braces, Designated}
use Rattle.c_tree.specs.PathSubjects.Subjects.{first_of, tree_place}
use Rattle.c_tree.specs.PathSubjects.Theorems.{is_initialized}

pub at_first : (n : Node) → is_initialized n ≡ false → tree_place n ≡ first_of n
at_first (node i p (Initializer (Init name declarator initial))) h = cc
at_first (node i p (Initializer (Braces elements comma))) h = refl
at_first (node i p (Initializer (Designated designators initial))) h = refl
at_first (node i p (Primary k)) h = refl
at_first (node i p (Operation k)) h = refl
at_first (node i p (Specifier k)) h = refl
at_first (node i p (Declarator k)) h = refl
at_first (node i p (Part k)) h = refl
at_first (node i p (Outer k)) h = refl
at_first (node i p (Statement k)) h = refl
at_first (node i p (Iteration k)) h = refl
at_first (node i p (Jump k)) h = refl
