use Rattle.std.proofs.Common.{arith}
use Rattle.c_tree.specs.Symbol.{symbols_of}
use Rattle.c_expr.proofs.Standing.{at_front, made}
use Rattle.c_expr.proofs.Steps.{run_taken}
use Rattle.c_expr.proofs.primary.read_strings.Goals as goal

pub returns-clause-stands : goal.returns-clause-stands
returns-clause-stands c = λ f.
    let some = run_taken (symbols_of c.args.tokens.now) c.split_run.result.0.now c.requires.string c.split_run.ensures.run in
    made c.node.result _ _ _ _ _ _ _ c.node.ensures.node (at_front _ _ _ f (omega (arith, some, c.split_run.ensures.length))) (c.split_run.ensures.kept _)

pub returns-clause-ids : goal.returns-clause-ids
returns-clause-ids c =
    let some = run_taken (symbols_of c.args.tokens.now) c.split_run.result.0.now c.requires.string c.split_run.ensures.run in
    (omega arith, omega (arith, some, c.split_run.ensures.length, c.node.ensures.ids))

pub node-requires-clause-ids : goal.node-requires-clause-ids
node-requires-clause-ids c =
    let some = run_taken (symbols_of c.args.tokens.now) c.split_run.result.0.now c.requires.string c.split_run.ensures.run in
    omega (arith, some, c.split_run.ensures.length)
