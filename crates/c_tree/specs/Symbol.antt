-- A token without its place: words by name, keywords and punctuators by kind alone, constants by kind and spelling.
use Rattle.std.specs.Prelude.{ℕ, Bool, List, map}
use Rattle.c_tree.specs.declared.keyword.Keyword.{Keyword}
use Rattle.c_tree.specs.declared.punctuator.Punctuator.{Punctuator}
use Rattle.c_tree.specs.declared.token.FloatEnd.{FloatEnd}
use Rattle.c_tree.specs.declared.token.Token.{Token}
use Rattle.c_tree.specs.declared.token.TokenKind.{TokenKind}
use Rattle.c_tree.specs.declared.token.TokenKind.TheVariants as kinds

-- how an integer constant is written: its value, whether in decimal, whether with `u`, the number of its `l`
pub record Integer : Type 0 where
  pub value : ℕ
  pub decimal : Bool
  pub unsigned : Bool
  pub longs : ℕ

-- the last number is that of the spelling
pub data Symbol : Type 0 where
  Word : ℕ → Symbol
  Reserved : Keyword → Symbol
  Sign : Punctuator → Symbol
  IntLiteral : Integer → ℕ → Symbol
  FloatLiteral : FloatEnd → ℕ → Symbol
  CharLiteral : Bool → ℕ → Symbol
  StringLiteral : Bool → ℕ → Symbol

abbrev pub symbol_as : TokenKind → ℕ → Symbol
symbol_as (kinds.Word m) name = Word name
symbol_as (kinds.Keyword k) name = Reserved k
symbol_as (kinds.Int v d u l) name = IntLiteral (record { value = v; decimal = d; unsigned = u; longs = l }) name
symbol_as (kinds.Float e) name = FloatLiteral e name
symbol_as (kinds.Char w) name = CharLiteral w name
symbol_as (kinds.Str w) name = StringLiteral w name
symbol_as (kinds.Punct p) name = Sign p

abbrev pub symbol_of : Token → Symbol
symbol_of t = symbol_as t.kind t.name

abbrev pub symbols_of : List Token → List Symbol
symbols_of ts = map symbol_of ts
