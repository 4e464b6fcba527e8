use Rattle.c_tree.specs.Forget.{view}
use Rattle.c_tree.specs.Tokens.{phrase_of}
use Rattle.c_tree.proofs.PassedTokens.Lengths.{passed, shorter}
use Rattle.c_tree.proofs.passed_tokens.tokens.tree_tokens.Goals as goal

pub slice_bounds-result-count : goal.slice_bounds-result-count
slice_bounds-result-count c = shorter (phrase_of (view c.args.tree.now)) c.args.tokens.now c.behind_tree-rest.result.now c.behind_tree-rest.ensures

pub returns : goal.returns
returns c = passed (phrase_of (view c.args.tree.now)) c.args.tokens.now c.behind_tree-rest.result.now c.behind_tree-rest.ensures
