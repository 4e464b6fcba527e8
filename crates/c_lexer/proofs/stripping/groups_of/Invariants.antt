use Rattle.c_lexer.proofs.TokenGroups.{GroupsFrom}
use Rattle.std.proofs.Common.{reverse}
use Rattle.c_lexer.proofs.stripping.groups_of.Given as goal

abbrev pub invariant-back : goal.invariant-back
invariant-back l = GroupsFrom l.tokens l.groups.items l.index l.behind (reverse l.closers.items)

abbrev pub decreases-back : goal.decreases-back
decreases-back l = l.index
