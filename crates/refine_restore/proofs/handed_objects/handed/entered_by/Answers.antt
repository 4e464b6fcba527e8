use Rattle.std.proofs.Common.{sym, subst}
use Rattle.refine_restore.specs.HandedObjects.Handed.{AreEntered}
use Rattle.refine_restore.proofs.HandedObjects.Found.{are_entered, if-ok}
use Rattle.refine_restore.proofs.handed_objects.handed.entered_by.Goals as goal
use Rattle.refine_restore.specs.Sites.{site_of}

pub returns : goal.returns
returns c =
    let s = site_of c.args.depth c.args.site.now in
    let o = c.args.caller_object.now in
    if-ok _ _ c.takers.result (λ list is. subst (AreEntered c.args.depth s o) (sym is) (are_entered c.args.depth s o)) c.takers.ensures
