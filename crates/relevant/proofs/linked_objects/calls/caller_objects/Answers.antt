use Rattle.std.proofs.Common.{◌∙◌}
use Rattle.relevant.proofs.LinkedObjects.Linking.{handed-linked}
use Rattle.relevant.proofs.linked_objects.calls.caller_objects.Goals as goal
use Rattle.refine_restore.specs.Sites.{site_of}

pub returns : goal.returns
returns c =
    handed-linked c.args.depth (site_of c.args.depth c.args.site.now) c.args.callee_object.now c.in_ok-found.found.items c.add.new.found.items c.named-source.result
    c.in_ok-found.ensures (c.named-source.ensures ∙ c.into_callee.ensures) c.in_ok-add.ensures
