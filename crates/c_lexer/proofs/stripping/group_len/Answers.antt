use Rattle.std.proofs.Common.{◌<◌, length, sym, ◌∙◌, arith}
use Rattle.std.proofs.lemmas.Option.{slice_get-get_or}
use Rattle.c_lexer.proofs.CReading.Tests.{some_is}
use Rattle.c_lexer.proofs.TokenGroups.{group_within, group_past}
use Rattle.c_lexer.proofs.stripping.group_len.Goals as goal

pub returns-then-index-groups-clause-within : goal.returns-then-index-groups-clause-within
returns-then-index-groups-clause-within c =
    let tokens = c.args.tokens.now in
    let groups = c.args.groups.now in
    let within : c.args.index < length tokens = let n = c.requires.groups.count in let h = c.if-index-groups.true in omega arith in
    group_within tokens c.args.index _ c.requires.within
    (some_is _ _ (sym (slice_get-get_or groups c.args.index _ c.if-index-groups.true) ∙ c.requires.groups.each c.args.index within))

pub returns-else-index-groups-clause-found : goal.returns-else-index-groups-clause-found
returns-else-index-groups-clause-found c = group_past c.args.tokens.now c.args.index (let n = c.requires.groups.count in let h = c.if-index-groups.false in omega arith)
