-- What specifiers say: the type, and how a name is stored (ISO 9899:1990, 6.5.1, 6.5.2).
use Rattle.std.specs.Prelude.{cond, List, [], ◌∷◌, ◌++◌, map, Option, None, Some}
use Rattle.c_tree.specs.declared.keyword.Keyword.{Keyword}
use Rattle.c_tree.specs.declared.keyword.Keyword.TheVariants as words
use Rattle.c_tree.specs.declared.token.Token.{Token}
use Rattle.c_tree.specs.declared.token.TokenKind.{TokenKind}
use Rattle.c_tree.specs.declared.token.TokenKind.TheVariants as kinds
use Rattle.c_tree.specs.Node.{Node, node, Specifier, Part, SpecifierShape, Specs, StructTag, StructBody, EnumTag, EnumBody, SpecWord, Nodes, no_more, more}
use Rattle.c_grammar.specs.BasicTypes as basic
use Rattle.c_grammar.specs.Specifiers.{is_type_word, same_words}
use Rattle.type_rules.specs.Options.{or_else, if_there, ◌>?◌}
use Rattle.type_rules.specs.Scopes.{Scopes, latest}
use Rattle.type_rules.specs.Tags.{Plainly, sort_of, aggregate, tag_number, body_number}
use Rattle.type_rules.specs.Types.{CType, Void, Arith, VaList, int}

abbrev pub type_of_basic : basic.BasicType → CType
type_of_basic basic.Void = Void
type_of_basic (basic.Arith k) = Arith k
type_of_basic basic.VaList = VaList

-- the lists of words of the basic types, each with its type
abbrev pub basic_types : List (List Keyword × CType)
basic_types = map (λ line. (line.0, type_of_basic line.1)) basic.basic_types

-- the type of the first list with the same words, in any order
abbrev pub basic_in : List Keyword → List (List Keyword × CType) → CType
basic_in ks [] = Void
basic_in ks (line ∷ lines) = cond (same_words ks line.0) line.1 (basic_in ks lines)

abbrev pub basic_type : List Keyword → CType
basic_type ks = basic_in ks basic_types

abbrev pub keyword_of : TokenKind → Option Keyword
keyword_of (kinds.Keyword k) = Some k
keyword_of _ = None

abbrev pub word_in : Node → Option Token
word_in (node i p (Part (SpecWord word))) = Some word
word_in _ = None

abbrev pub keyword_in : Node → Option Keyword
keyword_in e = word_in e >? λ word. keyword_of word.kind

abbrev pub one_type_word : Keyword → List Keyword
one_type_word k = cond (is_type_word k) (k ∷ []) []

-- the words of a basic type among the specifiers
abbrev pub type_words : Nodes → List Keyword
type_words no_more = []
type_words (more e es) = if_there (keyword_in e) [] one_type_word ++ type_words es

-- the name of a type: a word that is no keyword
abbrev pub named_type : Scopes → Token → Option CType
named_type v word = if_there (keyword_of word.kind) (latest word.name v.names >? λ k. Some k.ty) (λ k. None)

-- the type of a specifier of a structure, union or enumeration
abbrev pub tagged_type : Scopes → SpecifierShape → Option CType
tagged_type v (StructTag which tag) = Some (aggregate which (tag_number v Plainly (sort_of which) tag.name))
tagged_type v (StructBody which tag members) = Some (aggregate which (body_number v (sort_of which) tag))
tagged_type v (EnumTag tag) = Some int
tagged_type v (EnumBody tag enumerators comma) = Some int
tagged_type v _ = None

-- the type that a specifier is by itself
abbrev pub item_type : Scopes → Node → Option CType
item_type v (node i p (Specifier k)) = tagged_type v k
item_type v (node i p (Part (SpecWord word))) = named_type v word
item_type v _ = None

abbrev pub other_type : Scopes → Nodes → Option CType
other_type v no_more = None
other_type v (more e es) = or_else (item_type v e) (other_type v es)

-- the type of all specifiers, under the scopes before them
abbrev pub items_type : Scopes → Nodes → CType
items_type v items = if_there (other_type v items) (basic_type (type_words items)) (λ t. t)

abbrev pub specified_type : Scopes → Node → CType
specified_type v (node i p (Specifier (Specs items))) = items_type v items
specified_type v _ = Void

-- how a name is stored; `auto` and `register` change nothing here
pub data Storage : Type 0 where
  Unmarked : Storage
  Typedef : Storage
  Extern : Storage
  Static : Storage

abbrev pub storage_word : Keyword → Option Storage
storage_word words.Typedef = Some Typedef
storage_word words.Extern = Some Extern
storage_word words.Static = Some Static
storage_word _ = None

abbrev pub storage_among : Nodes → Option Storage
storage_among no_more = None
storage_among (more e es) = or_else (keyword_in e >? storage_word) (storage_among es)

abbrev pub storage_of : Node → Storage
storage_of (node i p (Specifier (Specs items))) = if_there (storage_among items) Unmarked (λ s. s)
storage_of _ = Unmarked
