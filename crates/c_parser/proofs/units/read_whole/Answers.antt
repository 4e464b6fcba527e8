use Rattle.c_tree.specs.Symbol.{symbols_of}
use Rattle.c_parser.proofs.Chunks.{kept-parsed, left-refused, fault-refused, kept-stands, kept-declared}
use Rattle.c_parser.proofs.units.read_whole.Goals as goal

pub returns-in_err-read-clause-refused : goal.returns-in_err-read-clause-refused
returns-in_err-read-clause-refused c = fault-refused c.args.names.now.now (symbols_of c.args.tokens.now) c.in_err-read.field-0.0 _ c.chunks_are_read.ensures c.in_err-read.ensures.found c.from_residual.ensures.1

pub returns-clause-parsed : goal.returns-clause-parsed
returns-clause-parsed c = kept-parsed c.args.names.now.now (symbols_of c.args.tokens.now) c.in_ok-read.read _ c.chunks_are_read.ensures c.in_ok-read.ensures.found.0 c.without_rest.ensures.kept

pub returns-clause-refused : goal.returns-clause-refused
returns-clause-refused c = left-refused c.args.names.now.now (symbols_of c.args.tokens.now) c.in_ok-read.read _ c.chunks_are_read.ensures c.in_ok-read.ensures.found.0 c.without_rest.ensures.refused

pub returns-clause-stands : goal.returns-clause-stands
returns-clause-stands c = kept-stands _ _ c.args.tokens.now c.in_ok-read.read _ c.in_ok-read.ensures.stands c.without_rest.ensures.kept

pub returns-clause-now : goal.returns-clause-now
returns-clause-now c = kept-declared _ _ c.in_ok-read.read _ c.in_ok-read.ensures.now c.without_rest.ensures.kept
