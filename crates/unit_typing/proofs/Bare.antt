-- A name alone has no pointers and no suffixes; and what the number of nodes says.
use Rattle.std.proofs.Common.{◌≡◌, false, cond, nat_eq, ◌&&◌, List, [], ◌∷◌, length, refl, ap, sym, arith}
use Rattle.c_tree.proofs.Rows.{nodes_out}
use Rattle.c_tree.specs.declared.tree.Tree.{Tree}
use Rattle.c_tree.specs.Views.{nodes_in}
use Rattle.type_rules.specs.Roles.{Role, Plain, Alone, item_role, specs_role}
use Rattle.c_tree.specs.declared.token.Token.{Token}
use Rattle.c_tree.specs.Node.{Node, Named, Nested, Nodes, no_more, more}
use Rattle.type_rules.specs.Declarators.{is_bare, is_bare_shape}
use Rattle.unit_typing.specs.Declarators.{no_tokens, no_nodes}

pub bare-named : (ps : List Token) (name : Token) (es : Nodes) → is_bare_shape (Named ps name es) ≡ (no_tokens ps && no_nodes es)
bare-named [] name no_more = refl
bare-named [] name (more e es) = refl
bare-named (p ∷ ps) name no_more = refl
bare-named (p ∷ ps) name (more e es) = refl

pub bare-nested : (ps : List Token) (inner : Node) (es : Nodes) → is_bare_shape (Nested ps inner es) ≡ (no_tokens ps && no_nodes es && is_bare inner)
bare-nested [] inner no_more = refl
bare-nested [] inner (more e es) = refl
bare-nested (p ∷ ps) inner no_more = refl
bare-nested (p ∷ ps) inner (more e es) = refl

pub ruleset bare = (bare-named, bare-nested)

pub nodes-empty : (ts : List Tree) → no_nodes (nodes_in ts) ≡ nat_eq (length ts) 0
nodes-empty [] = refl
nodes-empty (t ∷ ts) = let e : nat_eq (length (t ∷ ts)) 0 ≡ false = grind arith in sym e

pub role-of-specs : (ts : List Tree) → specs_role (nodes_in ts) ≡ cond (nat_eq (length ts) 0) Alone Plain
role-of-specs [] = refl
role-of-specs (t ∷ ts) = let e : nat_eq (length (t ∷ ts)) 0 ≡ false = grind arith in sym (ap (λ b. cond b Alone Plain) e)

pub role-of-item : (r : Role) (ts : List Tree) → item_role r (nodes_in ts) ≡ cond (nat_eq (length ts) 1) r Plain
role-of-item r [] = refl
role-of-item r (t ∷ []) = refl
role-of-item r (t ∷ (u ∷ ts)) = let e : nat_eq (length (t ∷ (u ∷ ts))) 1 ≡ false = grind arith in sym (ap (λ b. cond b r Plain) e)

pub ruleset counted = (nodes_out, nodes-empty, role-of-specs, role-of-item)
