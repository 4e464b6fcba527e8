use Rattle.std.proofs.Common.{◌∙◌, ap}
use Rattle.std.specs.List.{enumerate_from, filter_map}
use Rattle.numbered_program.proofs.NumberedCalls.GoneThrough.{handed_more, handed_past}
use Rattle.numbered_program.proofs.NumberedCalls.NumberedItems.{all_numbered}
use Rattle.numbered_program.specs.NumberedCalls.Rows.{handed_row}
use Rattle.refine_restore.specs.Sites.{site_of}
use Rattle.numbered_program.proofs.numbered_calls.returns.handed_rows.Goals as goal

pub loop-place-preserved-in_default : goal.loop-place-preserved-in_default
loop-place-preserved-in_default c =
    let at = c.loop-place in
    handed_past c.args.depth (site_of c.args.depth c.args.site.now) c.args.caller.now.objects.now.keys c.args.callee.now.objects.now.keys c.as_slice-objects.result.now at.place c.index-objects-place.result
    c.loop-place-test.true c.index-objects-place.is c.as_slice-objects.ensures.keys at.rows.items c.in_default.ensures at.invariant

pub loop-place-preserved : goal.loop-place-preserved
loop-place-preserved c =
    let at = c.loop-place in
    handed_more c.args.depth (site_of c.args.depth c.args.site.now) c.args.caller.now.objects.now.keys c.args.callee.now.objects.now.keys c.as_slice-objects.result.now at.place c.index-objects-place.result
    c.loop-place-test.true c.index-objects-place.is c.as_slice-objects.ensures.keys c.in-Some.source at.rows.items c.push.new.self.items c.in-Some.ensures at.invariant c.in_ok-push.ensures.items

pub returns : goal.returns
returns c =
    let F = handed_row c.args.depth (site_of c.args.depth c.args.site.now) c.args.caller.now.objects.now.keys c.args.callee.now.objects.now.keys in
    c.loop-place.invariant
    ∙ ap (filter_map F) (all_numbered c.as_slice-objects.result.now c.loop-place.place c.loop-place-test.false)
    ∙ ap (λ xs. filter_map F (enumerate_from 1 xs)) c.as_slice-objects.ensures.keys
