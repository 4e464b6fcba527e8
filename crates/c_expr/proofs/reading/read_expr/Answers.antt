use Rattle.c_tree.specs.Symbol.{symbols_of}
use Rattle.c_grammar.specs.Levels.{comma_level}
use Rattle.c_grammar.specs.Nonterminal.{Expression}
use Rattle.c_expr.proofs.Parses.{kept-parsed, left-refused, fault-refused, kept-stands}
use Rattle.c_expr.proofs.reading.read_expr.Goals as goal

pub returns-in_err-read-clause-refused : goal.returns-in_err-read-clause-refused
returns-in_err-read-clause-refused c = fault-refused (Expression comma_level) c.args.names.now.now (symbols_of c.args.tokens.now) c.in_err-read.field-0.0 _ c.parses_are_read.ensures c.in_err-read.ensures.found c.from_residual.ensures.1

pub returns-clause-parsed : goal.returns-clause-parsed
returns-clause-parsed c = kept-parsed (Expression comma_level) c.args.names.now.now (symbols_of c.args.tokens.now) c.in_ok-read.read _ c.parses_are_read.ensures c.in_ok-read.ensures.found.0 c.at_end.ensures.kept

pub returns-clause-refused : goal.returns-clause-refused
returns-clause-refused c = left-refused (Expression comma_level) c.args.names.now.now (symbols_of c.args.tokens.now) c.in_ok-read.read _ c.parses_are_read.ensures c.in_ok-read.ensures.found.0 c.at_end.ensures.refused

pub returns-clause-stands : goal.returns-clause-stands
returns-clause-stands c = kept-stands _ _ c.args.tokens.now c.in_ok-read.read _ c.in_ok-read.ensures.stands c.at_end.ensures.kept
