use Rattle.std.proofs.Math.Logic.{∥∥₁_map}
use Rattle.numbered_engine.specs.Tables.{own_in, rows_in}
use Rattle.numbered_engine.proofs.Given.{exactly_by, own_there, rows_there}
use Rattle.numbered_engine.proofs.Results.{if_ok}
use Rattle.numbered_engine.proofs.engine.tuples_in.Goals as goal

pub returns-clause-right : goal.returns-clause-right
returns-clause-right g c =
    let p = c.args.program.now in
    let e = c.args.edge.now in
    let f = c.args.function.now in
    let b = c.args.block.now in
    ∥∥₁_map c.requires.known (c.tuples_at_end.ensures.right (rows_in p) (own_in p) (rows_there p e f b c.requires.function c.requires.block) (own_there p e f b c.requires.function c.requires.block))

pub returns-clause-tuples : goal.returns-clause-tuples
returns-clause-tuples g c =
    let p = c.args.program.now in
    let e = c.args.edge.now in
    let f = c.args.function.now in
    let b = c.args.block.now in
    if_ok _ _ c.tuples_at_end.result (λ ts by. exactly_by p e f b c.requires.function c.requires.block c.args.summary.now ts.items by c.requires.known) c.tuples_at_end.ensures.tuples
