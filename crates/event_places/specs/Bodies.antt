-- Trees of the grammar, and where a function's body ends: at its last token.
use Rattle.std.specs.Prelude.{◌≡◌, ℕ, List, [], ◌∷◌, ◌++◌, Some, slice_get, ⊤}
use Rattle.c_grammar.specs.CPlaces.Stands.{StandsOver}
use Rattle.c_grammar.specs.Names.{Names}
use Rattle.c_grammar.specs.UnitGrammar.Grammar.{IsChunk}
use Rattle.c_grammar.specs.UnitGrammar.Names.{declared}
use Rattle.c_tree.specs.Forget.{syntaxes_of}
use Rattle.c_tree.specs.Node.{Node}
use Rattle.c_tree.specs.Syntax.{Syntaxes, no_more, more}
use Rattle.c_tree.specs.Symbol.{Sign, symbol_of}
use Rattle.c_tree.specs.declared.place.Place.{Place}
use Rattle.c_tree.specs.declared.punctuator.Punctuator.TheVariants.{CloseBrace}
use Rattle.c_tree.specs.declared.token.Token.{Token}
use Rattle.typed_unit.specs.Texts.{Text}

-- the trees are declarations and functions of the grammar, each under the names that those before it leave
abbrev pub AreChunksOf : Names → Syntaxes → Type 0
AreChunksOf names no_more = ⊤
AreChunksOf names (more e es) = IsChunk names e × AreChunksOf (declared e names) es

-- the same of the trees of each text
abbrev pub AreOfGrammar : List Text → Type 0
AreOfGrammar ts = (file : ℕ) (t : Text) → slice_get ts file ≡ Some t → AreChunksOf [] (syntaxes_of t.trees)

-- the node stands over some of these tokens, the last of which is a `}` at this place
pub record EndsAt (tokens : List Token) (body : Node) (close : Place) : Type 0 where
  pub before : List Token
  pub own : List Token
  pub brace : Token
  pub behind : List Token
  pub whole : tokens ≡ before ++ (own ++ (brace ∷ behind))
  pub low : ℕ
  pub high : ℕ
  pub stands : StandsOver body low high (own ++ (brace ∷ behind)) behind
  pub closes : symbol_of brace ≡ Sign CloseBrace
  pub place : close ≡ brace.place
