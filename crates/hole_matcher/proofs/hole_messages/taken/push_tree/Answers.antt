use Rattle.std.proofs.Common.{◌++◌, List, take, length, ◌∙◌, ap}
use Rattle.c_tree.specs.declared.token.Token.{Token}
use Rattle.c_tree.specs.Forget.{view}
use Rattle.c_tree.specs.Tokens.{tokens_of}
use Rattle.hole_matcher.specs.HoleMessages.Beginnings.{shown, names_spelled}
use Rattle.hole_matcher.proofs.hole_messages.taken.push_tree.Goals as goal

-- the tokens are those of the tree
pub returns : goal.returns
returns c rest =
    c.push_tokens.ensures rest
    ∙ ap (λ (ts : List Token). shown c.args.into.now (names_spelled c.args.source.now.names.now ts ++ rest))
    (c.tree_tokens-tokens.ensures ∙ ap (λ (ts : List Token). take (length (tokens_of (view c.args.tree.now))) ts) c.from_place.ensures)
