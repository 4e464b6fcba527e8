use Rattle.block_flows.specs.TupleFlows.Facts.{is_in}
use Rattle.masked_paths.specs.StrictFlows.Among.{if_followed}
use Rattle.numbered_program.proofs.NumberedCalls.FollowedNumbers.{none_mapped}
use Rattle.numbered_program.specs.NumberedTuples.FollowedObjects.{number_of}
use Rattle.path_model.specs.CheckerModel.Calls.{out}
use Rattle.refine_restore.specs.Sites.{site_of}
use Rattle.numbered_program.proofs.numbered_calls.returns.is_saved.Goals as goal

pub returns : goal.returns
returns c =
    let there = c.args.callee.now.objects.now.keys in
    none_mapped (number_of there) (if_followed (is_in there) (out c.args.depth (site_of c.args.depth c.args.site.now) c.args.object.now)) c.handing_number.result c.is_none.result c.handing_number.ensures c.is_none.ensures
