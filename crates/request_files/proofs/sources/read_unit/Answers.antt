use Rattle.c_lexer.specs.declared.c_reading.mode.Mode.TheVariants.{C}
use Rattle.request_files.specs.Turns.{SourceFile}
use Rattle.request_files.proofs.KnownFiles.{lexed_known}
use Rattle.request_files.proofs.Refusing.{tokens_known, unread_tokens, unread_unit}
use Rattle.request_files.proofs.sources.read_unit.Goals as goal

pub refused-requires : goal.refused-requires
refused-requires c = tokens_known C c.read_tokens.new.names c.args.word.now c.args.bytes.now c.in-Err.refusal c.in-Err.ensures.refused

pub returns-in-Err-clause-stopped : goal.returns-in-Err-clause-stopped
returns-in-Err-clause-stopped c =
    unread_tokens SourceFile c.args.number c.args.names.now c.read_tokens.new.names c.args.word.now c.args.bytes.now c.requires.size c.in-Err.refusal c.refused.result c.in-Err.ensures.refused c.refused.ensures

pub type_tokens-requires-clause-known : goal.type_tokens-requires-clause-known
type_tokens-requires-clause-known c = let t = c.in-Ok.ensures.tokens in lexed_known _ c.args.number c.args.word.now c.read_tokens.new.names t.pieces c.in-Ok.tokens t.lexes

pub returns-clause-stopped : goal.returns-clause-stopped
returns-clause-stopped c =
    unread_unit c.args.number c.args.names.now c.read_tokens.new.names c.args.word.now c.args.bytes.now c.requires.size c.in-Ok.tokens c.in-Err-type_tokens.stopped c.in-Ok.ensures.tokens c.in-Err-type_tokens.ensures.stopped
