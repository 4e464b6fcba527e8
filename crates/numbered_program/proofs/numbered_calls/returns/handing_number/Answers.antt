use Rattle.std.proofs.Common.{◌∙◌, sym}
use Rattle.numbered_program.proofs.NumberedCalls.FollowedNumbers.{handing_none, handing_some}
use Rattle.path_model.specs.CheckerModel.Calls.{out}
use Rattle.refine_restore.specs.Sites.{site_of}
use Rattle.numbered_program.proofs.numbered_calls.returns.handing_number.Goals as goal

pub returns-in-Some : goal.returns-in-Some
returns-in-Some c =
    c.followed_number.ensures
    ∙ handing_some c.args.callee.now.objects.now.keys (out c.args.depth (site_of c.args.depth c.args.site.now) c.args.object.now) c.in-Some.source (sym c.out_of_callee.ensures ∙ c.in-Some.is)

pub returns-in-None : goal.returns-in-None
returns-in-None c =
    handing_none c.args.callee.now.objects.now.keys (out c.args.depth (site_of c.args.depth c.args.site.now) c.args.object.now) (sym c.out_of_callee.ensures ∙ c.in-None.is)
