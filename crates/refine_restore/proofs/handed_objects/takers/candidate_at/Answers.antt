use Rattle.c_tree.specs.Views.{node_of}
use Rattle.path_model.specs.CheckerModel.Calls.{actuals_of}
use Rattle.objects.specs.Units.{facts_in}
use Rattle.refine_restore.proofs.HandedObjects.Positions.{candidate-found}
use Rattle.refine_restore.proofs.handed_objects.takers.candidate_at.Goals as goal

pub returns : goal.returns
returns c =
    let s = c.args.site.now in
    candidate-found c.args.end c.args.depth c.args.object.now s.formals.now (actuals_of (facts_in s.unit.now) c.args.depth (node_of s.call.now)) c.args.position _
    c.actual_at-actual.result c.candidate.result c.requires.within c.actual_at-actual.ensures c.candidate.ensures
