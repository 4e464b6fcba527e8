use Rattle.request_files.proofs.FrontEnd.MoreNames.{lexed_below}
use Rattle.request_files.proofs.front_end.tokens.read_tokens.Goals as goal

pub returns-in-Ok-clause-tokens : goal.returns-in-Ok-clause-tokens
returns-in-Ok-clause-tokens c =
    let r = c.in-Ok.ensures.reading in
    record { pieces = r.0; reading = r.1; named = c.in-Ok.ensures.named r.0 r.1; lexes = r.2 }

pub returns-in-Ok-clause-below : goal.returns-in-Ok-clause-below
returns-in-Ok-clause-below c = let r = c.in-Ok.ensures.reading in lexed_below c.args.mode c.args.file c.args.word.now c.lex.new.names r.0 c.in-Ok.tokens r.2
