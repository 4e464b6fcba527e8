-- What a checker says: a machine with one global state, and for each of its variables states of the objects that the variable
-- takes. Holes, states and rules have numbers. The state variables are the first holes.
use Rattle.std.specs.Prelude.{ℕ, Bool, List, Option}
use Rattle.c_tree.specs.declared.keyword.Keyword.{Keyword}
use Rattle.c_tree.specs.declared.operator.StructOrUnion.{StructOrUnion}
use Rattle.c_tree.specs.Syntax.{Syntax}

-- a type of C that a hole may have: the words of a basic type, a tag, or a pointer
pub data NamedType : Type 0 where
  Basic : List Keyword → NamedType
  Tag : StructOrUnion → ℕ → NamedType
  Pointer : NamedType → NamedType

pub data HoleType : Type 0 where
  AnyExpr : HoleType
  AnyScalar : HoleType
  AnyPointer : HoleType
  AnyArguments : HoleType
  AnyFnCall : HoleType
  Named : NamedType → HoleType

pub record Hole : Type 0 where
  pub name : ℕ
  pub of : HoleType

-- the numbers of the first two global states; those with names of their own follow
abbrev pub start : ℕ
start = 0

abbrev pub stop : ℕ
stop = 1

abbrev pub first_named : ℕ
first_named = 2

-- a state by its number: of the whole machine, or of a variable
pub data Source : Type 0 where
  FromGlobal : ℕ → Source
  FromObject : ℕ → ℕ → Source

-- A rule may also make the state of a variable's object unknown.
pub data Target : Type 0 where
  ToGlobal : ℕ → Target
  ToObject : ℕ → ℕ → Target
  ToUnknown : ℕ → Target

pub data Dest : Type 0 where
  Always : Target → Dest
  ByTruth : Target → Target → Dest

-- THE CALLOUTS that there are: `mc_is_const`, `mc_is_global`, `mc_is_param`, `mc_is_local`, `mc_name_is`, `mc_in_function`, `0`
-- and `1`.
pub data CalloutRow : Type 0 where
  IsConst : CalloutRow
  IsGlobal : CalloutRow
  IsParam : CalloutRow
  IsLocal : CalloutRow
  NameIs : CalloutRow
  InFunction : CalloutRow
  NeverHolds : CalloutRow
  AlwaysHolds : CalloutRow

-- A callout of a rule. The hole is 0 where it asks of none. The text is the number of a name, 0 where it has none.
pub record Condition : Type 0 where
  pub negated : Bool
  pub row : CalloutRow
  pub hole : ℕ
  pub text : ℕ

-- A base pattern, a callout, or `$end_of_path$`, which asks nothing of a subject.
pub data Item : Type 0 where
  Base : Syntax → Item
  Holds : Condition → Item
  EndOfPath : Item

-- a piece of a message: bytes as they stand, or the text of what a hole took
pub data Piece : Type 0 where
  Bytes : List ℕ → Piece
  HoleText : ℕ → Piece

-- The position is that of the rule's first symbol in the text.
pub record Rule : Type 0 where
  pub number : ℕ
  pub position : ℕ
  pub source : Source
  pub alternatives : List (List Item)
  pub dest : Dest
  pub action : Option (List Piece)

-- `globals` are the names of the global states behind `start` and `stop`, from `first_named` on; `states` has the names of the
-- states of each variable.
pub record Machine : Type 0 where
  pub name : ℕ
  pub variables : ℕ
  pub holes : List Hole
  pub globals : List ℕ
  pub states : List (List ℕ)
  pub rules : List Rule
