-- What a C file is from its tokens on: its trees and its types, or its first fault.
use Rattle.std.specs.Prelude.{◌≡◌, ℕ, ◌<◌, ◌^◌, List, [], None}
use Rattle.c_tree.specs.declared.place.Place.{Place}
use Rattle.c_tree.specs.declared.token.Token.{Token}
use Rattle.c_tree.specs.Node.{Nodes}
use Rattle.c_tree.specs.Forget.{syntaxes_of}
use Rattle.c_grammar.specs.CPlaces.Lines.{row_line}
use Rattle.c_grammar.specs.CPlaces.Stands.{Stands}
use Rattle.c_lexer.specs.CReading.Chunks.{AreChunks}
use Rattle.c_lexer.specs.Tokens.{TokenList}
use Rattle.c_parser.specs.Units.{AreTheTrees, IsFirstBadAt}
use Rattle.type_rules.specs.Definition.{first_fault}
use Rattle.type_rules.specs.Faults as typing
use Rattle.type_rules.specs.Unit.{places_of, IsFirstFault}
use Rattle.request_files.specs.declared.fault.Fault.TheVariants.{Syntax}
use Rattle.request_files.specs.declared.front_end.refusal.Faulty.{Faulty}
use Rattle.request_files.specs.FrontEnd.Faults.{of_typing, place_of}
use Rattle.request_files.specs.FrontEnd.Found.{stands_at}

-- the trees are the parses of the tokens' chunks, and stand over the tokens
pub record AreTrees (ts : List Token) (trees : Nodes) : Type 0 where
  pub bounds : List (ℕ × ℕ)
  pub chunks : AreChunks ts bounds
  pub parses : AreTheTrees ts bounds (syntaxes_of trees)
  pub high : ℕ
  pub few : high < 2 ^ 32
  pub stand : Stands (row_line trees) 0 high ts []

-- a chunk of the tokens has no parse, and the first such chunk begins there
pub record HasNoTrees (list : TokenList) (found : Faulty) : Type 0 where
  pub bounds : List (ℕ × ℕ)
  pub chunks : AreChunks list.all bounds
  pub place : Place
  pub first : IsFirstBadAt list.all bounds place
  pub there : found ≡ stands_at list Syntax place.token

-- the trees have types
pub record AreTypedTrees (ts : List Token) (trees : Nodes) : Type 0 where
  pub trees_are : AreTrees ts trees
  pub fine : first_fault (places_of trees) ≡ None

-- the trees have none, and this is the first fault
pub record HasNoTypes (list : TokenList) (found : Faulty) : Type 0 where
  pub trees : Nodes
  pub trees_are : AreTrees list.all trees
  pub fault : typing.Fault
  pub first : IsFirstFault trees fault
  pub there : found ≡ stands_at list (of_typing fault) (place_of fault).token
