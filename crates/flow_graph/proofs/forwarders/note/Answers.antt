use Rattle.std.proofs.Common.{sym, subst}
use Rattle.flow_graph.specs.Finals.{AreFinal}
use Rattle.flow_graph.proofs.FinalWays.{one_more_final}
use Rattle.flow_graph.proofs.forwarders.note.Goals as goal

pub returns : goal.returns
returns c g final comes = subst (AreFinal g) (sym c.set_target.ensures) (one_more_final g c.args.finals.now c.args.block c.args.end final comes)
