use Rattle.std.proofs.Common.{refl}
use Rattle.block_summary.proofs.Unchanged.{unchanged_exits}
use Rattle.block_summary.proofs.exits.unchanged.Goals as goal

pub returns : goal.returns
returns c = λ rows is_root own t calm. unchanged_exits rows is_root own t _ refl c.new.ensures.items c.new-2.ensures.items calm
