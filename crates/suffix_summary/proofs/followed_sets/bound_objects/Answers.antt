use Rattle.std.proofs.Common.{◌∙◌, sym}
use Rattle.suffix_summary.proofs.followed_sets.bound_objects.Goals as goal

pub bound_at_first-requires : goal.bound_at_first-requires
bound_at_first-requires c = sym c.stays_in_start.ensures ∙ c.if-stays_in_start.true
