-- What the answers of the parser and of the typing say of a file.
use Rattle.std.proofs.Common.{◌≡◌, ℕ, ◌<◌, ◌^◌, List, [], Option, Some, None, refl}
use Rattle.c_tree.specs.declared.place.Place.{Place}
use Rattle.c_tree.specs.declared.token.Token.{Token}
use Rattle.c_tree.specs.Node.{Nodes}
use Rattle.c_tree.specs.Forget.{syntaxes_of}
use Rattle.c_grammar.specs.CPlaces.Lines.{row_line}
use Rattle.c_grammar.specs.CPlaces.Stands.{Stands}
use Rattle.c_lexer.specs.CReading.Chunks.{AreChunks}
use Rattle.c_lexer.specs.Tokens.{TokenList}
use Rattle.c_parser.specs.Units.{AreTheTrees, IsFirstBadAt}
use Rattle.c_parser.specs.declared.fault.ParseFault.{ParseFault}
use Rattle.c_parser.specs.declared.fault.ParseFault.TheVariants as parser
use Rattle.type_rules.specs.Definition.{first_fault}
use Rattle.type_rules.specs.Faults as typing
use Rattle.type_rules.specs.Unit.{places_of, IsFirstFault}
use Rattle.request_files.specs.declared.front_end.refusal.Faulty.{Faulty as Found}
use Rattle.request_files.specs.declared.front_end.refusal.Refusal.TheVariants.{Faulty}
use Rattle.request_files.specs.FrontEnd.Refusals.{unparsed_as, untyped_as}
use Rattle.request_files.specs.FrontEnd.Sources.{AreTrees, AreTypedTrees, HasNoTrees, HasNoTypes}

-- a file that the parser refuses has no trees
pub no_trees : (list : TokenList) (fault : ParseFault) (found : Found)
    → ((place : Place) → fault ≡ parser.Syntax place → (bounds : List (ℕ × ℕ)) × AreChunks list.all bounds × IsFirstBadAt list.all bounds place)
    → unparsed_as list fault ≡ Faulty found → HasNoTrees list found
no_trees list (parser.Syntax place) found r e = let f = r place refl in record { bounds = f.0; chunks = f.1; place = place; first = f.2; there = cc }
no_trees list parser.NoMemory found r e = cc

-- what the parser accepts are the trees
pub trees_are : (ts : List Token) (trees : Nodes) → ((bounds : List (ℕ × ℕ)) × AreChunks ts bounds × AreTheTrees ts bounds (syntaxes_of trees))
    → ((high : ℕ) × (high < 2 ^ 32) × Stands (row_line trees) 0 high ts []) → AreTrees ts trees
trees_are ts trees p s = record { bounds = p.0; chunks = p.1; parses = p.2; high = s.0; few = s.1; stand = s.2 }

pub typed_trees : (ts : List Token) (trees : Nodes) → ((bounds : List (ℕ × ℕ)) × AreChunks ts bounds × AreTheTrees ts bounds (syntaxes_of trees))
    → ((high : ℕ) × (high < 2 ^ 32) × Stands (row_line trees) 0 high ts []) → first_fault (places_of trees) ≡ None → AreTypedTrees ts trees
typed_trees ts trees p s f = record { trees_are = trees_are ts trees p s; fine = f }

-- a file whose trees the typing refuses has no types
pub no_types : (list : TokenList) (fault : Option typing.Fault) (trees : Nodes) (found : Found) → AreTrees list.all trees
    → ((f : typing.Fault) → fault ≡ Some f → IsFirstFault trees f) → untyped_as list fault ≡ Faulty found → HasNoTypes list found
no_types list None trees found t r e = cc
no_types list (Some f) trees found t r e = record { trees = trees; trees_are = t; fault = f; first = r f refl; there = cc }
