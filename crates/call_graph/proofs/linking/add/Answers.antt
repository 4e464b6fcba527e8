use Rattle.std.proofs.Common.{refl}
use Rattle.call_graph.specs.OfPrograms.Definitions.{defined_by}
use Rattle.call_graph.proofs.Linked.{next-repeats}
use Rattle.typed_unit.specs.Functions.{function_of}
use Rattle.call_graph.proofs.linking.add.Goals as goal

pub returns-then-repeats-clause-repeated : goal.returns-then-repeats-clause-repeated
returns-then-repeats-clause-repeated c rest =
    let f = function_of c.args.function.now in
    (f, next-repeats (defined_by c.args.functions.now.all.items) f rest c.repeats.result c.if-repeats.true c.repeats.ensures, refl, refl)
