use Rattle.c_tree.specs.Symbol.{symbols_of}
use Rattle.metal_grammar.proofs.Known.{texts_are_known}
use Rattle.metal_grammar.proofs.Machines.{texts_are_read}
use Rattle.metal_written.specs.Written.{clause_views}
use Rattle.metal_reader.proofs.Refusing.{is_machine, is_refused, refuses, unread}
use Rattle.metal_reader.proofs.reading.machine_of_tokens.Goals as goal

pub machine_of-requires-clause-text : goal.machine_of-requires-clause-text
machine_of-requires-clause-text c =
    let ts = symbols_of c.args.tokens.now in
    (ts, (texts_are_read c.args.names.now ts (clause_views c.in-Ok.clauses.now)).0 c.in-Ok.ensures.read)

pub returns-in-Ok-clause-machine : goal.returns-in-Ok-clause-machine
returns-in-Ok-clause-machine c =
    let ts = symbols_of c.args.tokens.now in
    let cs = clause_views c.in-Ok.clauses.now in
    let text = (texts_are_read c.args.names.now ts cs).0 c.in-Ok.ensures.read in
    is_machine c.machine_of.result c.args.names.now ts cs c.args.file text (texts_are_known c.args.names.now ts cs c.requires.known text) c.machine_of.ensures.faults c.machine_of.ensures.machine

pub returns-in-Ok-clause-refused : goal.returns-in-Ok-clause-refused
returns-in-Ok-clause-refused c =
    let ts = symbols_of c.args.tokens.now in
    let cs = clause_views c.in-Ok.clauses.now in
    let text = (texts_are_read c.args.names.now ts cs).0 c.in-Ok.ensures.read in
    is_refused c.machine_of.result c.args.names.now ts cs c.args.file text c.machine_of.ensures.faults

pub returns-in-Err-clause-refused : goal.returns-in-Err-clause-refused
returns-in-Err-clause-refused c =
    let ts = symbols_of c.args.tokens.now in
    refuses c.args.names.now ts c.args.file c.from.result (unread c.args.names.now ts c.args.file c.in-Err.fault c.from.result c.from.ensures c.in-Err.ensures.read)
