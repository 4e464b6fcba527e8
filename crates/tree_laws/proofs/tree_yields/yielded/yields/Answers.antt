use Rattle.c_tree.specs.Symbol.{symbols_of}
use Rattle.c_tree.specs.Forget.{view}
use Rattle.c_tree.specs.Tokens.{phrase_of}
use Rattle.tree_laws.proofs.TreeYields.AfterPhrases.{yields_none, yields_some}
use Rattle.tree_laws.proofs.tree_yields.yielded.yields.Goals as goal

pub returns-in-None : goal.returns-in-None
returns-in-None c = yields_none (phrase_of (view c.args.tree.now)) (symbols_of c.args.tokens.now) c.in-None.ensures

pub returns-in-Some : goal.returns-in-Some
returns-in-Some c = yields_some (phrase_of (view c.args.tree.now)) (symbols_of c.args.tokens.now) c.in-Some.rest.now c.is_empty.result c.in-Some.ensures c.is_empty.ensures
