use Rattle.std.proofs.Common.{refl}
use Rattle.block_flows.proofs.TupleFlows.Tuples.{same-parts}
use Rattle.block_flows.proofs.fronts.copy_tuple.Goals as goal

pub returns : goal.returns
returns c = same-parts _ c.args.tuple.now refl c.copy_object.ensures refl
