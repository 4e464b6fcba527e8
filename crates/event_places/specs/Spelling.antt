-- Trees that a message spells by their own tokens.
use Rattle.std.specs.Prelude.{◌≡◌, List, [], ◌∷◌, ◌++◌, ⊤}
use Rattle.c_tree.specs.Forget.{syntax_of}
use Rattle.c_tree.specs.Node.{Node}
use Rattle.c_tree.specs.PathSubjects.Subjects.{Subject, Tree, DerefOf}
use Rattle.c_tree.specs.Symbol.{symbols_of}
use Rattle.c_tree.specs.Tokens.{tokens_of}
use Rattle.c_tree.specs.declared.token.Token.{Token}
use Rattle.hole_matching.specs.Matching.{Taken, One, Many}
use Rattle.hole_matching.specs.Message.{Source, tree_tokens}

-- the tokens that a message spells of the tree stand among those of its unit, one after the other, and are those of its line of the grammar
pub record IsSpelled (w : Source) (tree : Node) : Type 0 where
  pub before : List Token
  pub behind : List Token
  pub whole : w.tokens ≡ before ++ (tree_tokens w tree ++ behind)
  pub own : symbols_of (tree_tokens w tree) ≡ tokens_of (syntax_of tree)

-- the same of the tree of a subject, and of all that a hole has taken
abbrev pub IsSubjectSpelled : Source → Subject → Type 0
IsSubjectSpelled w (Tree e) = IsSpelled w e
IsSubjectSpelled w (DerefOf x) = IsSpelled w x

abbrev pub AreAllSpelled : Source → List Subject → Type 0
AreAllSpelled w [] = ⊤
AreAllSpelled w (s ∷ ss) = IsSubjectSpelled w s × AreAllSpelled w ss

abbrev pub AreSpelled : Source → Taken → Type 0
AreSpelled w (One s) = IsSubjectSpelled w s
AreSpelled w (Many ss) = AreAllSpelled w ss
