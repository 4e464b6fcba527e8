-- A head and its parts, against a level.
use Rattle.std.proofs.Common.{◌≡◌, List, [], ◌∷◌, Bool, true, false, cond, Option, None, Some, Bor, refl, ◌∙◌, sym, ap}
use Rattle.c_tree.specs.declared.expression.Operation as operation
use Rattle.c_tree.specs.declared.expression.Primary as primary
use Rattle.c_tree.specs.declared.declaration.Initializer as initializer
use Rattle.c_tree.specs.declared.tree.Tree as tree
use Rattle.c_tree.specs.declared.tree.Trees as code_trees
use Rattle.c_tree.specs.Forget.{primary_view, operation_view, initializer_view}
use Rattle.c_tree.specs.Views.{node_of, nodes_of}
use Rattle.type_rules.specs.Options.{◌>?◌}
use Rattle.hole_matcher.specs.HoleBindings.Bindings.{behind}
use Rattle.hole_matcher.proofs.WalkSteps.{then-some, then-same, one_matched, two_matched, front_matched}
use Rattle.hole_matcher.specs.declared.seat.Seat as code_seat
use Rattle.hole_matcher.specs.Ways.Walks.{matched_opened, seat_of}
use Rattle.hole_matching.specs.Holes.{Setting}
use Rattle.hole_matching.specs.Matched.{matched, matched_all}
use Rattle.hole_matching.specs.Matching.{Binding, Elsewhere, first_seat, next_seat}
use Rattle.hole_matching.specs.Pattern.{Pattern, Patterns, likewise, more, no_more, Cond, Braces, Designated, same_head}
use Rattle.hole_matching.specs.Subjects.{trees, trees_then}
use Rattle.hole_matching.specs.Written.{one_part, two_parts, primary_pattern, operation_pattern, initializer_pattern}
use Rattle.c_tree.specs.declared.path_subjects.subject.Subject as code_subject
use Rattle.c_tree.specs.PathSubjects.Subjects.{Subject, Tree}
use Rattle.c_tree.specs.PathSubjects.Values.{subject_of}
use Rattle.tree_comparison.specs.declared.tree_levels.heads.One.{One}
use Rattle.tree_comparison.specs.declared.tree_levels.heads.Two.{Two}
use Rattle.tree_comparison.specs.declared.tree_levels.heads.Front.{Front}
use Rattle.tree_comparison.specs.declared.tree_levels.heads.Level.{Level}
use Rattle.tree_comparison.specs.declared.tree_levels.heads.Level.TheVariants as level
use Rattle.tree_comparison.specs.TreeLevels.Levels.{Opened, one_head, two_head, front_head, level_opened}

pub one-step : (g : Setting) (h k : One) (p : Pattern) (part : code_subject.Subject) (l : Level) (b : Binding) (r : Option Binding)
    → l ≡ level.One k part → same_head (one_head k) (one_head h) ≡ true → r ≡ matched g p (subject_of part) b
    → r ≡ matched_opened g (likewise (one_head h) (one_part p)) (level_opened g.facts l) b
one-step g h k p part l b r e s m =
    m ∙ sym (ap (λ x. matched_opened g (likewise (one_head h) (one_part p)) (level_opened g.facts x) b) e
    ∙ ap (λ c. cond c (matched_all g (first_seat (one_head h)) (one_part p) (subject_of part ∷ []) b) None) s
    ∙ one_matched g h p (subject_of part) b)

pub two-step : (g : Setting) (h k : Two) (p q : Pattern) (x y : Bor tree.Tree) (l : Level) (b : Binding) (r : Option Binding)
    → l ≡ level.Two k x y → same_head (two_head k) (two_head h) ≡ true → r ≡ (matched g p (Tree (node_of x.now)) b >? matched g q (Tree (node_of y.now)))
    → r ≡ matched_opened g (likewise (two_head h) (two_parts p q)) (level_opened g.facts l) b
two-step g h k p q x y l b r e s m =
    m ∙ sym (ap (λ z. matched_opened g (likewise (two_head h) (two_parts p q)) (level_opened g.facts z) b) e
    ∙ ap (λ c. cond c (matched_all g (first_seat (two_head h)) (two_parts p q) (Tree (node_of x.now) ∷ Tree (node_of y.now) ∷ []) b) None) s
    ∙ two_matched g h p q (Tree (node_of x.now)) (Tree (node_of y.now)) b)

pub front-step : (g : Setting) (h k : Front) (p : Pattern) (ps : Patterns) (x : Bor tree.Tree) (ts : code_trees.Trees) (l : Level) (b : Binding) (r : Option Binding) (seat : code_seat.Seat)
    → l ≡ level.Front k x ts → same_head (front_head k) (front_head h) ≡ true → seat_of seat ≡ next_seat (first_seat (front_head h))
    → r ≡ (matched g p (Tree (node_of x.now)) b >? matched_all g (seat_of seat) ps (trees (nodes_of ts)))
    → r ≡ matched_opened g (likewise (front_head h) (more p ps)) (level_opened g.facts l) b
front-step g h k p ps x ts l b r seat e s n m =
    m ∙ ap (λ z. matched g p (Tree (node_of x.now)) b >? matched_all g z ps (trees (nodes_of ts))) n
    ∙ sym (ap (λ z. matched_opened g (likewise (front_head h) (more p ps)) (level_opened g.facts z) b) e
    ∙ ap (λ c. cond c (matched_all g (first_seat (front_head h)) (more p ps) (Tree (node_of x.now) ∷ trees (nodes_of ts)) b) None) s
    ∙ front_matched g h p ps (Tree (node_of x.now)) (trees (nodes_of ts)) b)

-- a test, and then another
pub then-true : (r : Bool) (c : Binding) (o : Option Binding) (f : Binding → Option Binding) (z : Option Binding) → behind r c ≡ o → r ≡ true → z ≡ f c → z ≡ (o >? f)
then-true r c o f z e t m = m ∙ ap (λ x. x >? f) (sym (ap (λ y. behind y c) t) ∙ e)

pub then-false : (r : Bool) (c : Binding) (o : Option Binding) (f : Binding → Option Binding) → behind r c ≡ o → r ≡ false → behind r c ≡ (o >? f)
then-false r c o f e t = ap (λ y. behind y c) t ∙ ap (λ x. x >? f) (sym (ap (λ y. behind y c) t) ∙ e)

cond-parts : (g : Setting) (p q r : Pattern) (s t u : Subject) (b : Binding)
    → matched_all g Elsewhere (more p (two_parts q r)) (s ∷ t ∷ u ∷ []) b ≡ (matched g p s b >? λ c. (matched g q t c >? matched g r u))
cond-parts g p q r s t u b =
    then-same (matched g p s b) (matched_all g Elsewhere (two_parts q r) (t ∷ u ∷ [])) (λ c. (matched g q t c >? matched g r u))
    (λ c. then-same (matched g q t c) (matched_all g Elsewhere (one_part r) (u ∷ [])) (matched g r u) (λ d. then-some (matched g r u d)))

pub cond-step : (g : Setting) (p q r : Pattern) (x y w : Bor tree.Tree) (l : Level) (b : Binding) (z : Option Binding) → l ≡ level.Cond x y w
    → z ≡ (matched g p (Tree (node_of x.now)) b >? λ c. (matched g q (Tree (node_of y.now)) c >? matched g r (Tree (node_of w.now))))
    → z ≡ matched_opened g (likewise Cond (more p (two_parts q r))) (level_opened g.facts l) b
cond-step g p q r x y w l b z e m =
    m ∙ sym (ap (λ k. matched_opened g (likewise Cond (more p (two_parts q r))) (level_opened g.facts k) b) e
    ∙ cond-parts g p q r (Tree (node_of x.now)) (Tree (node_of y.now)) (Tree (node_of w.now)) b)

pub braces-step : (g : Setting) (ps : Patterns) (ts : code_trees.Trees) (l : Level) (b : Binding) (z : Option Binding) → l ≡ level.Braces ts
    → z ≡ matched_all g Elsewhere ps (trees (nodes_of ts)) b → z ≡ matched_opened g (likewise Braces ps) (level_opened g.facts l) b
braces-step g ps ts l b z e m = m ∙ sym (ap (λ k. matched_opened g (likewise Braces ps) (level_opened g.facts k) b) e)

pub designated-step : (g : Setting) (ps : Patterns) (ts : code_trees.Trees) (t : Bor tree.Tree) (l : Level) (b : Binding) (z : Option Binding) → l ≡ level.Designated ts t
    → z ≡ matched_all g Elsewhere ps (trees_then (nodes_of ts) (Tree (node_of t.now) ∷ [])) b → z ≡ matched_opened g (likewise Designated ps) (level_opened g.facts l) b
designated-step g ps ts t l b z e m = m ∙ sym (ap (λ k. matched_opened g (likewise Designated ps) (level_opened g.facts k) b) e)

-- a kind that is known
pub at-operation : (g : Setting) (x : Option Opened) (k j : operation.Operation) (b : Binding) (r : Option Binding) → k ≡ j
    → r ≡ matched_opened g (operation_pattern (operation_view j)) x b → r ≡ matched_opened g (operation_pattern (operation_view k)) x b
at-operation g x k j b r e m = m ∙ ap (λ z. matched_opened g (operation_pattern (operation_view z)) x b) (sym e)

pub at-initializer : (g : Setting) (x : Option Opened) (k j : initializer.Initializer) (b : Binding) (r : Option Binding) → k ≡ j
    → r ≡ matched_opened g (initializer_pattern (initializer_view j)) x b → r ≡ matched_opened g (initializer_pattern (initializer_view k)) x b
at-initializer g x k j b r e m = m ∙ ap (λ z. matched_opened g (initializer_pattern (initializer_view z)) x b) (sym e)

pub at-primary : (g : Setting) (x : Option Opened) (k j : primary.Primary) (b : Binding) (r : Option Binding) → k ≡ j
    → r ≡ matched_opened g (primary_pattern (primary_view j)) x b → r ≡ matched_opened g (primary_pattern (primary_view k)) x b
at-primary g x k j b r e m = m ∙ ap (λ z. matched_opened g (primary_pattern (primary_view z)) x b) (sym e)
