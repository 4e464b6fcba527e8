use Rattle.hole_matcher.specs.HoleMessages.Beginnings.{most_kept}
use Rattle.hole_matcher.proofs.HoleMessages.Kept.{all-there}
use Rattle.hole_matcher.proofs.hole_messages.spelled.Spelled.as_bytes.Goals as goal

-- there is room for no more than what is kept
pub returns : goal.returns
returns c = all-there most_kept c.args.self.now.is_first c.args.self.now.bytes.items c.as_slice.result.now c.as_slice.ensures.value c.as_slice.ensures.fits
