use Rattle.std.proofs.Common.{◌≡◌, ◌∙◌, ap, map, List}
use Rattle.c_objects.specs.Objects.{Object}
use Rattle.least_set.proofs.Growing.{all_of}
use Rattle.numbered_program.proofs.NumberedCalls.GoneThrough.{saved_more}
use Rattle.numbered_program.specs.NumberedCalls.Rows.{is_saved}
use Rattle.refine_restore.specs.Sites.{site_of}
use Rattle.numbered_program.proofs.numbered_calls.returns.saved_flags.Goals as goal

pub loop-object-preserved : goal.loop-object-preserved
loop-object-preserved c =
    let at = c.loop-object in
    saved_more c.args.depth (site_of c.args.depth c.args.site.now) c.args.caller.now.objects.now.keys c.args.callee.now.objects.now.keys c.as_slice-objects.result.now at.object-index c.object-item.result
    c.loop-object-test.true c.object-item.is c.as_slice-objects.ensures.keys c.is_saved.result at.flags.items c.push.new.self.items c.is_saved.ensures at.invariant c.in_ok-push.ensures.items

pub returns : goal.returns
returns c =
    let F = is_saved c.args.depth (site_of c.args.depth c.args.site.now) c.args.caller.now.objects.now.keys c.args.callee.now.objects.now.keys in
    all_of (λ (xs : List Object). c.loop-object.flags.items ≡ map F xs) c.as_slice-objects.result.now c.loop-object.object-index c.loop-object-test.false c.loop-object.auto.object-index-end c.loop-object.invariant
    ∙ ap (map F) c.as_slice-objects.ensures.keys
