use Rattle.std.proofs.Common.{◌∙◌}
use Rattle.tree_laws.proofs.TreeEquality.SeenLevels.{parts_written}
use Rattle.tree_laws.proofs.tree_equality.seen.written.Goals as goal

pub returns : goal.returns
returns c = parts_written _ ∙ c.level.ensures
