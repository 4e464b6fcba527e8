use Rattle.std.proofs.Common.{sym, subst, Contains}
use Rattle.least_set.specs.Logs.{IsExactly}
use Rattle.numbered_engine.specs.Program.{ends_in}
use Rattle.numbered_engine.proofs.engine.given.Goals as goal

pub given_by-requires-clause-tuples : goal.given_by-requires-clause-tuples
given_by-requires-clause-tuples g c =
    let e = c.args.edge.now in
    subst (λ l. IsExactly l (Contains (ends_in c.in-Some.function.now c.in-Some-block_of.block.now e.context.entry e.tuple))) (sym c.as_slice.ensures.value) c.in_ok-tuples.ensures.tuples
