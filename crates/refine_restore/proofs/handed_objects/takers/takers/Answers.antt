use Rattle.c_tree.specs.Views.{node_of}
use Rattle.path_model.specs.CheckerModel.Calls.{actuals_of}
use Rattle.refine_restore.specs.Ways.Takers.{is_taker, takers}
use Rattle.refine_restore.proofs.HandedObjects.Positions.{gathered-all}
use Rattle.refine_restore.proofs.handed_objects.takers.takers.Goals as goal
use Rattle.objects.specs.Units.{facts_in}
use Rattle.refine_restore.specs.Sites.{site_of}

pub returns : goal.returns
returns c =
    let site = c.args.site.now in
    let s = site_of c.args.depth site in
    gathered-all (is_taker c.args.end c.args.depth s c.args.object.now) c.loop-position.takers.items (takers c.args.end c.args.depth s c.args.object.now)
    c.args.end c.args.depth c.args.object.now site.formals.now (actuals_of (facts_in site.unit.now) c.args.depth (node_of site.call.now))
    c.loop-position.position c.loop-position-test.false c.loop-position.invariant
