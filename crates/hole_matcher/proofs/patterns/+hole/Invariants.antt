use Rattle.std.proofs.Common.{◌+◌, ◌*◌}
use Rattle.c_tree.specs.declared.expression.Primary.{size-Primary}
use Rattle.c_tree.specs.declared.tree.Tree.{size-Tree}
use Rattle.hole_matcher.proofs.patterns.+hole.Given as goal

abbrev pub decreases-hole_of : goal.decreases-hole_of
decreases-hole_of l = 8 * size-Tree l.pattern.now + 1

abbrev pub decreases-primary_hole : goal.decreases-primary_hole
decreases-primary_hole l = 8 * size-Primary l.kind.now + 2
