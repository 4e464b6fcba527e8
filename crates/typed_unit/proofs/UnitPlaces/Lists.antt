-- Nodes that stand one after the other.
use Rattle.std.proofs.Common.{ℕ, zero, suc, ◌+◌, ◌<◌, List, [], ◌∷◌, length, take, drop, get_or, arith, subst}
use Rattle.c_tree.proofs.Rows.{nodes_drop}
use Rattle.c_tree.specs.declared.tree.Tree.{Tree}
use Rattle.c_tree.specs.Node.{Node, Nodes, no_more, more}
use Rattle.c_tree.specs.Views.{node_of, nodes_in}
use Rattle.type_rules.specs.Roles.{Role}
use Rattle.type_rules.specs.Scopes.{Scopes}
use Rattle.type_rules.specs.Ways.ScopesByCase.{scoped, scoped_each}
use Rattle.typed_unit.specs.Places.{StandsAt}
use Rattle.typed_unit.specs.UnitPlaces.Standing.{EachStands, joined}

pub nodes-stand : (unit : Nodes) (v : Scopes) (r : Role) (before : Nodes) (e : Node) (behind : Nodes) → EachStands unit v r (joined before (more e behind))
    → StandsAt unit (scoped_each v r before) r e × EachStands unit (scoped_each v r before) r (more e behind)
nodes-stand unit v r no_more e behind h = (h.0, h)
nodes-stand unit v r (more d before) e behind h = nodes-stand unit (scoped v r d) r before e behind h.1

pub items-stand : (unit : Nodes) (v : Scopes) (r : Role) (items : List Tree) (i : ℕ) (default : Tree) → EachStands unit v r (nodes_in items) → i < length items
    → StandsAt unit (scoped_each v r (nodes_in (take i items))) r (node_of (get_or items i default)) × EachStands unit (scoped_each v r (nodes_in (take i items))) r (nodes_in (drop i items))
items-stand unit v r [] i default h k = absurd (omega arith)
items-stand unit v r (t ∷ ts) zero default h k = (h.0, h)
items-stand unit v r (t ∷ ts) (suc i) default h k = items-stand unit (scoped v r (node_of t)) r ts i default h.1 (omega arith)

pub next-stands : (unit : Nodes) (v : Scopes) (r : Role) (items : List Tree) (i : ℕ) (default : Tree) → EachStands unit v r (nodes_in (drop i items)) → i < length items
    → StandsAt unit v r (node_of (get_or items i default)) × EachStands unit (scoped v r (node_of (get_or items i default))) r (nodes_in (drop (i + 1) items))
next-stands unit v r items i default h k = subst (λ (es : Nodes). EachStands unit v r es) (nodes_drop items i default k) h
