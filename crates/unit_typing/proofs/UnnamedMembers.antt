-- A declaration of members that names none, by the number of its declarators.
use Rattle.std.proofs.Common.{◌≡◌, false, cond, nat_eq, List, [], ◌∷◌, length, Result, Ok, ap, sym, refl, arith}
use Rattle.c_tree.proofs.Rows.{nodes_out}
use Rattle.c_tree.specs.declared.tree.Tree.{Tree}
use Rattle.c_tree.specs.Node.{Node}
use Rattle.c_tree.specs.Views.{nodes_in}
use Rattle.type_rules.specs.Faults.{Fault}
use Rattle.type_rules.specs.Moves.{behind_members, inner_members}
use Rattle.type_rules.specs.Roles.{Role, owner_of}
use Rattle.type_rules.specs.Rows.{fine_unless, first_clash, members_row}
use Rattle.type_rules.specs.Scopes.{Scopes}
use Rattle.type_rules.specs.Specified.{specified_type}
use Rattle.type_rules.specs.Types.{CType, Void}
use Rattle.unit_typing.specs.Scopes.{with_members}

pub row-of-members : (v w : Scopes) (r : Role) (specs : Node) (ts : List Tree) → members_row v w r specs (nodes_in ts) ≡ cond (nat_eq (length ts) 0) (fine_unless (first_clash w (inner_members w (owner_of r) (specified_type v specs)))) (Ok Void)
row-of-members v w r specs [] = refl
row-of-members v w r specs (t ∷ ts) =
    let e : nat_eq (length (t ∷ ts)) 0 ≡ false = grind arith in
    sym (ap (λ b. cond {A = Result CType Fault} b (fine_unless (first_clash w (inner_members w (owner_of r) (specified_type v specs)))) (Ok Void)) e)

pub behind-members : (v w : Scopes) (r : Role) (specs : Node) (ts : List Tree) → behind_members v r specs (nodes_in ts) w ≡ cond (nat_eq (length ts) 0) (with_members w (inner_members w (owner_of r) (specified_type v specs))) w
behind-members v w r specs [] = refl
behind-members v w r specs (t ∷ ts) =
    let e : nat_eq (length (t ∷ ts)) 0 ≡ false = grind arith in
    sym (ap (λ b. cond {A = Scopes} b (with_members w (inner_members w (owner_of r) (specified_type v specs))) w) e)

pub ruleset unnamed = (nodes_out, row-of-members, behind-members)
