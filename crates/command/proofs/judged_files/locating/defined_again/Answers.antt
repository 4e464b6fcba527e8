use Rattle.command.proofs.JudgedFiles.Located.{source_within, where_is}
use Rattle.command.proofs.judged_files.locating.defined_again.Goals as goal

pub text_of-requires : goal.text_of-requires
text_of-requires c = source_within c.args.names.now c.args.units.now c.args.place c.requires c.index-units-place.result c.token_at-token.result c.token_at-token.ensures.among

pub returns-clause-there : goal.returns-clause-there
returns-clause-there c =
    where_is c.args.names.now c.args.units.now c.args.place c.requires c.index-units-place.result c.token_at-token.result c.in_ok-file.file.items c.text_of.result.now
    c.token_at-token.ensures.among c.token_at-token.ensures.there c.text_of.ensures c.in_ok-file.ensures.items
