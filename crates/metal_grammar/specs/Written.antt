-- The text of a checker as it is written: a value for each line of the grammar. A name stands for its number.
use Rattle.std.specs.Prelude.{ℕ, Bool, List, [], ◌∷◌, Option}
use Rattle.c_tree.specs.declared.keyword.Keyword.{Keyword}
use Rattle.c_tree.specs.declared.operator.StructOrUnion.{StructOrUnion}
use Rattle.c_tree.specs.Symbol.{Symbol}
use Rattle.c_tree.specs.Syntax.{Syntax}
use Rattle.metal_grammar.specs.Words.{Literal}

-- one or more
pub data Row (A : Type 0) : Type 0 where
  lone : A → Row A
  row : A → Row A → Row A

abbrev pub members : {A : Type 0} → Row A → List A
members (lone x) = x ∷ []
members (row x xs) = x ∷ members xs

-- The type of a hole: a word of the language, or a type of C, of which the last number is that of its stars.
pub data WrittenType : Type 0 where
  KindOfHole : ℕ → WrittenType
  BasicType : List Keyword → ℕ → WrittenType
  TagType : StructOrUnion → ℕ → ℕ → WrittenType

-- `state`, where it is there, `decl`, a type and the declared names
pub record Declaration : Type 0 where
  pub state : Option ℕ
  pub decl : ℕ
  pub type : WrittenType
  pub names : Row ℕ

-- a state of the whole machine, or of a variable
pub data StateName : Type 0 where
  OfMachine : ℕ → StateName
  OfVariable : ℕ → ℕ → StateName

pub data Argument : Type 0 where
  Name : ℕ → Argument
  Text : Literal → Argument

-- `0` or `1`, or a name with one or two arguments
pub data WrittenCallout : Type 0 where
  Digit : Symbol → WrittenCallout
  Asked : ℕ → Argument → Option Literal → WrittenCallout

-- An expression in braces, with whether a `;` stands behind it; a callout, with whether `!` stands before it; and the word
-- between two `$`.
pub data WrittenItem : Type 0 where
  Pattern : Syntax → Bool → WrittenItem
  Callout : Bool → WrittenCallout → WrittenItem
  Dollars : ℕ → WrittenItem

-- A state, or one for each truth of a branch, behind the words `true` and `false`.
pub data Destination : Type 0 where
  To : StateName → Destination
  Split : ℕ → StateName → ℕ → StateName → Destination

-- the word `err`, the literals of the message, each argument behind the word `mc_identifier`, and whether a `;` ends it
pub record WrittenAction : Type 0 where
  pub word : ℕ
  pub literals : Row Literal
  pub arguments : List (ℕ × ℕ)
  pub semicolon : Bool

abbrev pub Alternative : Type 0
Alternative = Row WrittenItem

pub record WrittenRule : Type 0 where
  pub alternatives : Row Alternative
  pub destination : Destination
  pub action : Option WrittenAction

pub record Section : Type 0 where
  pub source : StateName
  pub rules : Row WrittenRule

pub data Content : Type 0 where
  Nothing : Content
  Declares : Declaration → Content
  Rules : Section → Content

-- A clause: the word `sm` and the machine's name where it is the first one, a declaration or a section, and whether the
-- machine's closing brace stands behind it. A machine with neither declaration nor section is one clause without content.
pub record Clause : Type 0 where
  pub head : Option (ℕ × ℕ)
  pub content : Content
  pub closing : Bool
