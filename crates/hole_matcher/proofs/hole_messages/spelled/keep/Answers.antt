use Rattle.std.proofs.Common.{◌∙◌}
use Rattle.hole_matcher.specs.HoleMessages.Beginnings.{most_kept}
use Rattle.hole_matcher.proofs.HoleMessages.Kept.{kept_all, all-fit, surely}
use Rattle.hole_matcher.proofs.hole_messages.spelled.keep.Goals as goal

-- what fits is kept, and no more
pub returns : goal.returns
returns c =
    surely c.try_extend_from_slice-fits.result _ _ c.try_extend_from_slice-fits.ensures.variant.1
    (all-fit most_kept c.remaining_capacity.result c.min-fit.result c.args.kept.now.items c.args.bytes.now c.remaining_capacity.ensures c.min-fit.ensures)
    c.try_extend_from_slice-fits.ensures.ok
    ∙ kept_all most_kept c.remaining_capacity.result c.min-fit.result c.args.kept.now.items c.args.bytes.now c.remaining_capacity.ensures c.min-fit.ensures
