use Rattle.std.proofs.Common.{sym, subst}
use Rattle.c_tree.specs.Views.{node_of}
use Rattle.path_model.proofs.CheckerModel.MovedObjects.{actuals-are}
use Rattle.refine_restore.specs.HandedObjects.Handed.{AreHanded}
use Rattle.refine_restore.proofs.HandedObjects.Found.{are_handed, if-ok}
use Rattle.refine_restore.proofs.handed_objects.handed.handed_to.Goals as goal
use Rattle.objects.specs.Units.{facts_in}
use Rattle.refine_restore.specs.Sites.{site_of}

pub returns : goal.returns
returns c =
    let site = c.args.site.now in
    let s = site_of c.args.depth site in
    let o = c.args.callee_object.now in
    let are = actuals-are (facts_in site.unit.now) c.args.depth (node_of site.call.now) in
    if-ok _ _ c.takers.result (λ list is. subst (AreHanded c.args.depth s o) (sym is) (are_handed c.args.depth s o are)) c.takers.ensures
