use Rattle.relevant.proofs.LinkedObjects.Linking.{entered-linked}
use Rattle.relevant.proofs.linked_objects.calls.callee_objects.Goals as goal
use Rattle.refine_restore.specs.Sites.{site_of}

pub returns : goal.returns
returns c =
    entered-linked c.args.depth (site_of c.args.depth c.args.site.now) c.args.caller_object.now c.in_ok-found.found.items c.add.new.found.items c.out_of_callee.result
    c.in_ok-found.ensures c.out_of_callee.ensures c.in_ok-add.ensures
