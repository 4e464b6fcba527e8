-- Lists of arguments that holes have taken.
use Rattle.std.proofs.Common.{◌≡◌, List, Bor, refl, ◌∙◌, sym, ap}
use Rattle.c_objects.specs.Facts.{Facts}
use Rattle.c_tree.specs.declared.tree.Tree.{Tree}
use Rattle.c_tree.specs.Node.{Nodes}
use Rattle.c_tree.specs.Node as nodes
use Rattle.c_tree.specs.Views.{nodes_in}
use Rattle.hole_matcher.specs.HoleBindings.Bindings.{taken_of}
use Rattle.hole_matcher.specs.declared.hole_bindings.binding.Taken as code
use Rattle.hole_matcher.specs.declared.hole_bindings.binding.Taken.TheVariants as taken
use Rattle.hole_matching.specs.ComparedSubjects.{compared_all, compared_node, compared_nodes}
use Rattle.hole_matching.specs.Matched.{are_equal}
use Rattle.hole_matching.specs.Pattern.{more, same_patterns}
use Rattle.hole_matching.specs.Subjects.{trees}

compared : (u : Facts) (es : Nodes) → compared_all u (trees es) ≡ compared_nodes u es
compared u nodes.no_more = refl
compared u (nodes.more e es) = ap (more (compared_node u e)) (compared u es)

pub both_lists : (u : Facts) (old new : code.Taken) (x y : Bor (List Tree)) → old ≡ taken.Many x → new ≡ taken.Many y
    → same_patterns (compared_nodes u (nodes_in x.now)) (compared_nodes u (nodes_in y.now)) ≡ are_equal u (taken_of old) (taken_of new)
both_lists u old new x y e f =
    sym (ap (λ o. are_equal u (taken_of o) (taken_of new)) e
    ∙ ap (λ o. are_equal u (taken_of (taken.Many x)) (taken_of o)) f
    ∙ ap (λ ps. same_patterns ps (compared_all u (trees (nodes_in y.now)))) (compared u (nodes_in x.now))
    ∙ ap (same_patterns (compared_nodes u (nodes_in x.now))) (compared u (nodes_in y.now)))
