use Rattle.std.proofs.Common.{◌∙◌, ap, map}
use Rattle.std.specs.List.{enumerate_from}
use Rattle.numbered_program.proofs.NumberedCalls.GoneThrough.{entered_more}
use Rattle.numbered_program.proofs.NumberedCalls.NumberedItems.{all_numbered}
use Rattle.numbered_program.specs.NumberedCalls.Rows.{entered_row}
use Rattle.refine_restore.specs.Sites.{site_of}
use Rattle.numbered_program.proofs.numbered_calls.entries.entered_rows.Goals as goal

pub loop-place-preserved : goal.loop-place-preserved
loop-place-preserved c =
    let at = c.loop-place in
    entered_more c.args.depth (site_of c.args.depth c.args.site.now) c.args.caller.now.objects.now.keys c.args.callee.now.objects.now.keys c.as_slice-objects.result.now at.place c.index-objects-place.result
    c.loop-place-test.true c.index-objects-place.is c.as_slice-objects.ensures.keys c.source_number-source.result at.rows.items c.push.new.self.items c.source_number-source.ensures at.invariant c.in_ok-push.ensures.items

pub returns : goal.returns
returns c =
    let F = entered_row c.args.depth (site_of c.args.depth c.args.site.now) c.args.caller.now.objects.now.keys c.args.callee.now.objects.now.keys in
    c.loop-place.invariant
    ∙ ap (map F) (all_numbered c.as_slice-objects.result.now c.loop-place.place c.loop-place-test.false)
    ∙ ap (λ xs. map F (enumerate_from 1 xs)) c.as_slice-objects.ensures.keys
