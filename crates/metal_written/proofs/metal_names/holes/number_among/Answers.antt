use Rattle.std.proofs.Common.{sym, ◌∙◌, arith}
use Rattle.metal_written.proofs.MetalNames.Positions.{shift-next, shift-here, shift-over}
use Rattle.metal_written.proofs.metal_names.holes.number_among.Goals as goal

pub returns-then-names-index : goal.returns-then-names-index
returns-then-names-index c = sym (shift-here c.args.names.now c.loop-index.index c.args.name c.loop-index-test.true c.if-names-index.true) ∙ c.loop-index.invariant.rest

pub loop-index-preserved : goal.loop-index-preserved
loop-index-preserved c = record {
  rest = shift-next c.args.names.now c.loop-index.index c.args.name c.loop-index-test.true c.if-names-index.false ∙ c.loop-index.invariant.rest;
  bound = omega arith;
}

pub returns : goal.returns
returns c = sym (shift-over c.args.names.now c.loop-index.index c.args.name (omega arith)) ∙ c.loop-index.invariant.rest
