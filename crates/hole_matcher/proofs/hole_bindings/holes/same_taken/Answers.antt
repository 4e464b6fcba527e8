use Rattle.std.proofs.Common.{◌∙◌}
use Rattle.hole_matcher.proofs.HoleBindings.TakenLists.{both_lists}
use Rattle.hole_matcher.proofs.hole_bindings.holes.same_taken.Goals as goal
use Rattle.objects.specs.Units.{facts_in}

pub returns-in-Many-new-2 : goal.returns-in-Many-new-2
returns-in-Many-new-2 c =
    c.same_arguments.ensures
    ∙ both_lists (facts_in c.args.unit.now) c.args.old c.args.new c.in-Many.left c.in-Many-new-2.right c.in-Many.is c.in-Many-new-2.is
