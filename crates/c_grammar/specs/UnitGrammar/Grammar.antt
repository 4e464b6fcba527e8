-- The grammar of external definitions (ISO 9899:1990, 6.7): a chunk of a translation unit is a declaration, a function or a
-- lone `;`.
use Rattle.std.specs.Prelude.{◌≡◌, ℕ, ◌+◌, ◌≤◌, Bool, true, false, not, ◌||◌, ◌&&◌, List, [], ◌∷◌, Option, None, Some, ◌⊎◌}
use Rattle.c_tree.specs.Symbol.{Symbol}
use Rattle.c_tree.specs.Syntax.{Syntax, Initializer, Specifier, Outer, Statement, StructBody, EnumBody, Specs, Declaration, Function, Empty, Block, Syntaxes, no_more, more}
use Rattle.c_tree.specs.Height.{height_of}
use Rattle.c_tree.specs.Tokens.{tokens_of}
use Rattle.c_grammar.specs.Names.{Names, name_of, with_name, with_params, params_of}
use Rattle.c_grammar.specs.Specifiers.{InDeclaration}
use Rattle.c_grammar.specs.Nonterminal.{WithName}
use Rattle.c_grammar.specs.Grammar.{IsDeclarator}
use Rattle.c_grammar.specs.UnitGrammar.Names.{declared, makes_types}
use Rattle.c_grammar.specs.UnitGrammar.Construct.{Construct, SpecifiersIn, TaggedType, StructMember, BracedInitials, BlockDeclaration, OneStatement, FunctionBody}
use Rattle.c_grammar.specs.UnitGrammar.Declarations.{AreFullSpecifiers, IsTagged, IsMember, IsBraces, IsDeclaration}
use Rattle.c_grammar.specs.UnitGrammar.Statements.{IsStatement, AreBlockItems}
use Rattle.c_grammar.specs.UnitGrammar.Control.{is_controlled}

abbrev pub is_body : Syntax → Bool
is_body (Specifier (StructBody which tag members)) = true
is_body (Specifier (EnumBody tag enumerators comma)) = true
is_body _ = false

abbrev pub has_body : Syntaxes → Bool
has_body no_more = false
has_body (more e es) = is_body e || has_body es

-- The specifiers of a function have neither `typedef` (6.7.1) nor a body.
abbrev pub may_define : Syntax → Bool
may_define (Specifier (Specs items)) = not (makes_types (Specifier (Specs items))) && not (has_body items)
may_define _ = false

abbrev pub IsBlock : Names → Syntax → Type 0
IsBlock names (Statement (Block items)) = AreBlockItems names items
IsBlock names _ = ⊥

-- The declarator of a function is, read from its name outward, first of all that of a function, and its parameters are in
-- force through the body (6.7.1, 6.1.2.1).
abbrev pub IsBody : Names → Option Syntaxes → Syntax → Type 0
IsBody names None body = ⊥
IsBody names (Some params) body = IsBlock (with_params params names) body × (is_controlled body ≡ true)

abbrev pub IsFunction : Names → Syntax → Syntax → Syntax → Type 0
IsFunction names specs declarator body =
    AreFullSpecifiers InDeclaration names specs × (may_define specs ≡ true) × IsDeclarator WithName (declared specs names) declarator
    × IsBody (with_name (name_of declarator) false (declared specs names)) (params_of declarator) body

abbrev pub IsChunk : Names → Syntax → Type 0
IsChunk names (Outer Empty) = Unit {0}
IsChunk names (Outer (Declaration specs declarators)) = IsDeclaration names (Outer (Declaration specs declarators))
IsChunk names (Outer (Function specs declarator body)) = IsFunction names specs declarator body
IsChunk names _ = ⊥

abbrev pub IsTaggedTree : Names → Syntax → Type 0
IsTaggedTree names (Specifier k) = IsTagged names k
IsTaggedTree names _ = ⊥

abbrev pub IsBracesTree : Names → Syntax → Type 0
IsBracesTree names (Initializer k) = IsBraces names k
IsBracesTree names _ = ⊥

abbrev pub IsOf : Construct → Names → Syntax → Type 0
IsOf (SpecifiersIn place) names e = AreFullSpecifiers place names e
IsOf TaggedType names e = IsTaggedTree names e
IsOf StructMember names e = IsMember names e
IsOf BracedInitials names e = IsBracesTree names e
IsOf BlockDeclaration names e = IsDeclaration names e
IsOf OneStatement names e = IsStatement names e
IsOf FunctionBody names e = IsBlock names e

-- The tree is the parse of this chunk under these names.
pub record IsParse (names : Names) (e : Syntax) (ts : List Symbol) : Type 0 where
  pub tokens : ts ≡ tokens_of e
  pub well : IsChunk names e
  pub height : height_of e ≤ 1000

-- The trees are the parses of these chunks, each under the names that those before it leave. What the parse of one chunk is, is handed in.
abbrev pub AreParses : {Chunk : Type 0} → (Names → Syntax → Chunk → Type 0) → Names → Syntaxes → List Chunk → Type 0
AreParses IsParseOf names no_more [] = Unit {0}
AreParses IsParseOf names no_more (c ∷ chunks) = ⊥
AreParses IsParseOf names (more e es) [] = ⊥
AreParses IsParseOf names (more e es) (c ∷ chunks) = IsParseOf names e c × AreParses IsParseOf (declared e names) es chunks

-- Among these chunks that with this number, counted from 0, is the first that has no parse.
abbrev pub IsFirstBad : {Chunk : Type 0} → (Names → Syntax → Chunk → Type 0) → Names → List Chunk → ℕ → Type 0
IsFirstBad IsParseOf names [] k = ⊥
IsFirstBad IsParseOf names (c ∷ chunks) k =
    ((k ≡ 0) × ((e : Syntax) → IsParseOf names e c → ⊥))
    ⊎ ((e : Syntax) × (j : ℕ) × (k ≡ j + 1) × IsParseOf names e c × IsFirstBad IsParseOf (declared e names) chunks j)
