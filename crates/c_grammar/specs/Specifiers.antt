-- The words of specifiers, and which of them may stand together (ISO 9899:1990, 6.5.1, 6.5.2, 6.5.3).
use Rattle.std.specs.Prelude.{ℕ, ◌+◌, Bool, true, false, cond, not, ◌&&◌, ◌||◌, nat_eq, List, [], ◌∷◌, ◌++◌, length, zero, suc}
use Rattle.c_tree.specs.declared.keyword.Keyword.{Keyword}
use Rattle.c_tree.specs.declared.keyword.Keyword.TheVariants as words
use Rattle.c_tree.specs.Symbol.{Symbol, Word, Reserved}
use Rattle.c_tree.specs.Syntax.{Syntax, Specifier, Part, SpecWord, Syntaxes, no_more, more}
use Rattle.c_grammar.specs.Symbols.{same_keyword}
use Rattle.c_grammar.specs.Names.{Names, is_type}
use Rattle.c_grammar.specs.BasicTypes.{basic_words}

-- the words that say how something is stored, `typedef` among them (6.5.1)
abbrev pub is_storage : Keyword → Bool
is_storage words.Typedef = true
is_storage words.Extern = true
is_storage words.Static = true
is_storage words.Auto = true
is_storage words.Register = true
is_storage _ = false

abbrev pub is_inline : Keyword → Bool
is_inline words.Inline = true
is_inline _ = false

-- (6.5.3)
abbrev pub is_qualifier : Keyword → Bool
is_qualifier words.Const = true
is_qualifier words.Volatile = true
is_qualifier words.Restrict = true
is_qualifier _ = false

-- the words of basic types (6.5.2)
abbrev pub is_type_word : Keyword → Bool
is_type_word words.Void = true
is_type_word words.Char = true
is_type_word words.Short = true
is_type_word words.Int = true
is_type_word words.Long = true
is_type_word words.Float = true
is_type_word words.Double = true
is_type_word words.Signed = true
is_type_word words.Unsigned = true
is_type_word words.Bool = true
is_type_word words.Int128 = true
is_type_word words.Float32 = true
is_type_word words.Float32x = true
is_type_word words.Float64 = true
is_type_word words.Float64x = true
is_type_word words.Float128 = true
is_type_word words.GnuFloat128 = true
is_type_word words.BuiltinVaList = true
is_type_word _ = false

-- the words before a tag or a body (6.5.2.1, 6.5.2.2)
abbrev pub is_tag_word : Keyword → Bool
is_tag_word words.Struct = true
is_tag_word words.Union = true
is_tag_word words.Enum = true
is_tag_word _ = false

-- Behind specifiers of which `typed` says that they have a type, this symbol is one more of them. A name is one where
-- its declaration in force makes it a type and no type stands before it.
abbrev pub is_specifier : Names → Bool → Symbol → Bool
is_specifier names typed (Word name) = not typed && is_type names name
is_specifier names typed (Reserved k) = is_storage k || is_inline k || is_qualifier k || is_type_word k
is_specifier names typed _ = false

abbrev pub begins_tag : Symbol → Bool
begins_tag (Reserved k) = is_tag_word k
begins_tag _ = false

-- This symbol, or a specifier that begins with it, goes on with specifiers.
abbrev pub goes_on : Names → Bool → Symbol → Bool
goes_on names typed t = is_specifier names typed t || begins_tag t

-- specifiers begin with this symbol
abbrev pub begins_specifiers : Names → Symbol → Bool
begins_specifiers names t = goes_on names false t

-- This specifier is a type by itself, or a word of one.
abbrev pub word_types : Symbol → Bool
word_types (Word name) = true
word_types (Reserved k) = is_type_word k
word_types _ = false

abbrev pub types : Syntax → Bool
types (Part (SpecWord word)) = word_types word
types (Specifier k) = true
types _ = false

-- The words of basic types among these, the other types, the storage words, and whether `inline` is there.
abbrev pub type_words_of : Syntax → List Keyword
type_words_of (Part (SpecWord (Reserved k))) = cond (is_type_word k) (k ∷ []) []
type_words_of _ = []

abbrev pub other_types_of : Syntax → ℕ
other_types_of (Part (SpecWord (Word name))) = 1
other_types_of (Specifier k) = 1
other_types_of _ = 0

abbrev pub storages_of : Syntax → List Keyword
storages_of (Part (SpecWord (Reserved k))) = cond (is_storage k) (k ∷ []) []
storages_of _ = []

abbrev pub inlines_of : Syntax → Bool
inlines_of (Part (SpecWord (Reserved k))) = is_inline k
inlines_of _ = false

unfoldable pub type_words : Syntaxes → List Keyword
type_words no_more = []
type_words (more e es) = type_words_of e ++ type_words es

unfoldable pub other_types : Syntaxes → ℕ
other_types no_more = 0
other_types (more e es) = other_types_of e + other_types es

unfoldable pub storages : Syntaxes → List Keyword
storages no_more = []
storages (more e es) = storages_of e ++ storages es

unfoldable pub inlines : Syntaxes → Bool
inlines no_more = false
inlines (more e es) = inlines_of e || inlines es

-- how often a keyword stands among these
unfoldable pub occurrences : Keyword → List Keyword → ℕ
occurrences k [] = 0
occurrences k (l ∷ ls) = cond (same_keyword k l) 1 0 + occurrences k ls

-- each of these keywords stands as often in the one list as in the other
unfoldable pub as_often : List Keyword → List Keyword → List Keyword → Bool
as_often [] a b = true
as_often (k ∷ ks) a b = nat_eq (occurrences k a) (occurrences k b) && as_often ks a b

-- the same keywords, in any order
abbrev pub same_words : List Keyword → List Keyword → Bool
same_words a b = nat_eq (length a) (length b) && as_often a a b

unfoldable pub is_among : List Keyword → List (List Keyword) → Bool
is_among ks [] = false
is_among ks (line ∷ lines) = same_words ks line || is_among ks lines

-- one basic type
abbrev pub is_basic : List Keyword → Bool
is_basic ks = is_among ks basic_words

-- Exactly one type: a name or a tag, or the words of a basic type.
abbrev pub is_one_type : List Keyword → ℕ → Bool
is_one_type ks zero = is_basic ks
is_one_type [] (suc zero) = true
is_one_type _ _ = false

abbrev pub has_one_type : Syntaxes → Bool
has_one_type items = is_one_type (type_words items) (other_types items)

-- Where specifiers stand decides which storage words they may have.
pub data Place : Type 0 where
  InTypeName : Place
  InParam : Place
  InDeclaration : Place

-- no storage word in a type name, at most `register` in a parameter (6.5.4.3), at most one in a declaration (6.5.1)
abbrev pub are_allowed : Place → List Keyword → Bool
are_allowed place [] = true
are_allowed InTypeName (k ∷ ks) = false
are_allowed InParam (words.Register ∷ []) = true
are_allowed InParam (k ∷ ks) = false
are_allowed InDeclaration (k ∷ []) = true
are_allowed InDeclaration (k ∷ l ∷ ks) = false

-- `inline` stands in declarations alone
abbrev pub may_inline : Place → Bool
may_inline InDeclaration = true
may_inline _ = false

-- These may be all specifiers of one place.
abbrev pub fit : Place → Syntaxes → Bool
fit place items = has_one_type items && are_allowed place (storages items) && (may_inline place || not (inlines items))
