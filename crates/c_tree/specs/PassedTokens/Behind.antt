-- What is left of tokens behind as many as a phrase has.
use Rattle.std.specs.Prelude.{List, drop, length}
use Rattle.c_tree.specs.declared.token.Token.{Token}
use Rattle.c_tree.specs.Phrase.{Phrase, nothing, one, all, ◌⨾◌}

abbrev pub behind : Phrase → List Token → List Token
behind nothing ts = ts
behind (one s) ts = drop 1 ts
behind (all ss) ts = drop (length ss) ts
behind (p ⨾ q) ts = behind q (behind p ts)
