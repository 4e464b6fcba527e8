use Rattle.std.proofs.Common.{sym, arith}
use Rattle.metal_written.specs.Written.{type_view}
use Rattle.metal_written.proofs.InSizes.{type-size, declared-size}
use Rattle.metal_clauses.proofs.metal_parts.declarations.read_declared.Goals as goal

pub returns-clause-before : goal.returns-clause-before
returns-clause-before c =
    let e = type-size c.args.tokens.now c.in-Some.behind.now (type_view c.in-Some.of) (sym c.in-Some.ensures.found) in
    let d = declared-size c.args.state c.args.decl (type_view c.in-Some.of) in
    let w = c.requires.words in
    omega (arith, e, d, w)
