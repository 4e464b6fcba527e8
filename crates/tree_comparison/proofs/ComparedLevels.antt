-- What trees of a head and parts are compared by.
use Rattle.std.proofs.Common.{◌≡◌, ◌&&◌, List, [], ◌∷◌, Bool, true, false, Option, None, Some, Bor, refl, ◌∙◌, sym, ap}
use Rattle.c_objects.specs.Facts.{Facts}
use Rattle.c_tree.specs.declared.expression.Operation.{Operation}
use Rattle.c_tree.specs.declared.expression.Primary.{Primary}
use Rattle.c_tree.specs.declared.declaration.Initializer.{Initializer}
use Rattle.c_tree.specs.declared.tree.Tree.{Tree}
use Rattle.c_tree.specs.declared.tree.Trees.{Trees}
use Rattle.c_tree.specs.Node.{Nodes}
use Rattle.c_tree.specs.Node as nodes
use Rattle.c_tree.specs.Views.{node_of, nodes_of, primary_shape, operation_shape, initializer_shape}
use Rattle.hole_matching.specs.ComparedSubjects.{with_parts, compared, compared_all, compared_node, compared_nodes, compared_then, compared_primary, compared_operation, compared_initializer}
use Rattle.hole_matching.specs.Pattern.{Head, Braces, Designated, Pattern, Patterns, likewise, more, same_head, same_pattern, same_patterns}
use Rattle.hole_matching.specs.Subjects.{trees, trees_then}
use Rattle.hole_matching.specs.Written.{one_part}
use Rattle.c_tree.specs.PathSubjects.Subjects.{Subject}
use Rattle.c_tree.specs.PathSubjects.Subjects as subjects
use Rattle.tree_comparison.specs.declared.tree_levels.heads.Front.{Front}
use Rattle.tree_comparison.specs.declared.tree_levels.heads.Level.{Level}
use Rattle.tree_comparison.specs.declared.tree_levels.heads.Level.TheVariants as level
use Rattle.tree_comparison.specs.TreeLevels.Levels.{opened, opened_pattern, front_head, level_pattern}

pub opened_compared : (u : Facts) (o : Option Head) (ss : List Subject) → opened_pattern u (opened o ss) ≡ with_parts o (compared_all u ss)
opened_compared u None ss = refl
opened_compared u (Some h) ss = refl

trees-compared : (u : Facts) (es : Nodes) → compared_all u (trees es) ≡ compared_nodes u es
trees-compared u nodes.no_more = refl
trees-compared u (nodes.more e es) = ap (more (compared_node u e)) (trees-compared u es)

then-compared : (u : Facts) (es : Nodes) (ss : List Subject) → compared_all u (trees_then es ss) ≡ compared_then u es (compared_all u ss)
then-compared u nodes.no_more ss = refl
then-compared u (nodes.more e es) ss = ap (more (compared_node u e)) (then-compared u es ss)

-- a part and a list behind it
pub front-same : (u : Facts) (h k : Front) (p : Pattern) (ps : Patterns) (f : Bor Tree) (ts : Trees) (l : Level) → l ≡ level.Front k f ts → same_head (front_head h) (front_head k) ≡ true
    → (same_pattern p (compared_node u (node_of f.now)) && same_patterns ps (compared_nodes u (nodes_of ts))) ≡ same_pattern (likewise (front_head h) (more p ps)) (level_pattern u l)
front-same u h k p ps f ts l e s =
    sym (ap (λ x. same_pattern (likewise (front_head h) (more p ps)) (level_pattern u x)) e
    ∙ ap (λ b. b && (same_pattern p (compared_node u (node_of f.now)) && same_patterns ps (compared_all u (trees (nodes_of ts))))) s
    ∙ ap (λ qs. same_pattern p (compared_node u (node_of f.now)) && same_patterns ps qs) (trees-compared u (nodes_of ts)))

-- a list in braces
pub braces-same : (u : Facts) (ps : Patterns) (ts : Trees) (l : Level) → l ≡ level.Braces ts → same_patterns ps (compared_nodes u (nodes_of ts)) ≡ same_pattern (likewise Braces ps) (level_pattern u l)
braces-same u ps ts l e =
    sym (ap (λ x. same_pattern (likewise Braces ps) (level_pattern u x)) e ∙ ap (same_patterns ps) (trees-compared u (nodes_of ts)))

-- an initial value behind designators
pub designated-same : (u : Facts) (ps : Patterns) (ts : Trees) (t : Bor Tree) (l : Level) → l ≡ level.Designated ts t
    → same_patterns ps (compared_then u (nodes_of ts) (one_part (compared_node u (node_of t.now)))) ≡ same_pattern (likewise Designated ps) (level_pattern u l)
designated-same u ps ts t l e =
    sym (ap (λ x. same_pattern (likewise Designated ps) (level_pattern u x)) e ∙ ap (same_patterns ps) (then-compared u (nodes_of ts) (subjects.Tree (node_of t.now) ∷ [])))

-- a kind that is known
pub at-operation : (u : Facts) (l : Pattern) (k j : Operation) (r : Bool) → k ≡ j → r ≡ same_pattern (compared_operation u (operation_shape j)) l → r ≡ same_pattern (compared_operation u (operation_shape k)) l
at-operation u l k j r e h = h ∙ ap (λ x. same_pattern (compared_operation u (operation_shape x)) l) (sym e)

pub at-initializer : (u : Facts) (l : Pattern) (k j : Initializer) (r : Bool) → k ≡ j → r ≡ same_pattern (compared_initializer u (initializer_shape j)) l → r ≡ same_pattern (compared_initializer u (initializer_shape k)) l
at-initializer u l k j r e h = h ∙ ap (λ x. same_pattern (compared_initializer u (initializer_shape x)) l) (sym e)

pub at-primary : (u : Facts) (l m : Pattern) (k j : Primary) (r : Bool) → k ≡ j → m ≡ l → r ≡ same_pattern (compared_primary u (primary_shape j)) m → r ≡ same_pattern (compared_primary u (primary_shape k)) l
at-primary u l m k j r e f h = h ∙ ap (λ x. same_pattern (compared_primary u (primary_shape x)) m) (sym e) ∙ ap (same_pattern (compared_primary u (primary_shape k))) f
