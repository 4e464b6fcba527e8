-- Lists of trees that are compared one by one.
use Rattle.std.proofs.Common.{◌≡◌, ℕ, suc, List, [], ◌∷◌, length, Bool, true, false, refl, ◌∙◌, sym, ap, ◌&&◌, arith}
use Rattle.c_objects.specs.Facts.{Facts}
use Rattle.c_tree.specs.declared.tree.Tree.{Tree}
use Rattle.c_tree.specs.declared.tree.Trees.{Trees, out-Trees}
use Rattle.c_tree.specs.Node.{Nodes}
use Rattle.c_tree.specs.Node as nodes
use Rattle.c_tree.specs.Views.{node_of, nodes_of, nodes_in}
use Rattle.c_tree.proofs.Rows.{nodes_out}
use Rattle.hole_matching.specs.ComparedSubjects.{compared_node, compared_nodes, compared_then}
use Rattle.hole_matching.specs.Pattern.{Pattern, Patterns, no_more, more, same_pattern, same_patterns}
use Rattle.hole_matching.specs.Written.{one_part}

and-false : (a : Bool) → (a && false) ≡ false
and-false true = refl
and-false false = refl

and-true : (a : Bool) → (a && true) ≡ a
and-true true = refl
and-true false = refl

and-joined : (a b c : Bool) → (a && (b && c)) ≡ ((a && b) && c)
and-joined true b c = refl
and-joined false b c = refl

-- lists of different lengths
lengths-differ : (u : Facts) (xs ys : List Tree) → (length xs ≡ length ys → ⊥) → same_patterns (compared_nodes u (nodes_in xs)) (compared_nodes u (nodes_in ys)) ≡ false
lengths-differ u [] [] h = absurd (h refl)
lengths-differ u [] (y ∷ ys) h = refl
lengths-differ u (x ∷ xs) [] h = refl
lengths-differ u (x ∷ xs) (y ∷ ys) h =
    ap (λ c. same_pattern (compared_node u (node_of x)) (compared_node u (node_of y)) && c) (lengths-differ u xs ys (λ e. h (ap suc e)))
    ∙ and-false (same_pattern (compared_node u (node_of x)) (compared_node u (node_of y)))

pub lists-differ : (u : Facts) (a b : Trees) → (length (out-Trees a).all.now ≡ length (out-Trees b).all.now → ⊥) → same_patterns (compared_nodes u (nodes_of a)) (compared_nodes u (nodes_of b)) ≡ false
lists-differ u a b h =
    ap (λ ns. same_patterns (compared_nodes u ns) (compared_nodes u (nodes_of b))) (nodes_out a)
    ∙ ap (λ ns. same_patterns (compared_nodes u (nodes_in (out-Trees a).all.now)) (compared_nodes u ns)) (nodes_out b)
    ∙ lengths-differ u (out-Trees a).all.now (out-Trees b).all.now h

some-left : (u : Facts) (ts : Nodes) (p : Pattern) → same_patterns no_more (compared_then u ts (one_part p)) ≡ false
some-left u nodes.no_more p = refl
some-left u (nodes.more t ts) p = refl

some-right : (u : Facts) (ts : Nodes) (p : Pattern) → same_patterns (compared_then u ts (one_part p)) no_more ≡ false
some-right u nodes.no_more p = refl
some-right u (nodes.more t ts) p = refl

-- one more behind both lists
pub last_compared : (u : Facts) (ss ts : Nodes) (p q : Pattern) → (same_patterns (compared_nodes u ss) (compared_nodes u ts) && same_pattern p q) ≡ same_patterns (compared_then u ss (one_part p)) (compared_then u ts (one_part q))
last_compared u nodes.no_more nodes.no_more p q = sym (and-true (same_pattern p q))
last_compared u nodes.no_more (nodes.more t ts) p q =
    sym (ap (λ c. same_pattern p (compared_node u t) && c) (some-left u ts q) ∙ and-false (same_pattern p (compared_node u t)))
last_compared u (nodes.more s ss) nodes.no_more p q =
    sym (ap (λ c. same_pattern (compared_node u s) q && c) (some-right u ss p) ∙ and-false (same_pattern (compared_node u s) q))
last_compared u (nodes.more s ss) (nodes.more t ts) p q =
    sym (and-joined (same_pattern (compared_node u s) (compared_node u t)) (same_patterns (compared_nodes u ss) (compared_nodes u ts)) (same_pattern p q))
    ∙ ap (λ c. same_pattern (compared_node u s) (compared_node u t) && c) (last_compared u ss ts p q)
