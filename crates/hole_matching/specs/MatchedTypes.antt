-- Types as matching compares them: a structure or union is its word and its tag, and not its number. Two without tags are one.
use Rattle.std.specs.Prelude.{ℕ, nat_eq, Bool, true, false, ◌&&◌, List, Option, None, Some}
use Rattle.c_objects.specs.Facts.{Facts, tag_in}
use Rattle.c_tree.specs.declared.keyword.Keyword.{Keyword}
use Rattle.c_tree.specs.declared.operator.StructOrUnion.{StructOrUnion}
use Rattle.c_tree.specs.declared.operator.StructOrUnion.TheVariants as which_word
use Rattle.type_rules.specs.Arithmetic.{Arithmetic}
use Rattle.type_rules.specs.Specified.{basic_type}
use Rattle.type_rules.specs.Types.{CType}
use Rattle.type_rules.specs.Types as types
use Rattle.hole_matching.specs.Ways.Codes.{which_code, arithmetic_code}

pub data MatchedType : Type 0 where
  Void : MatchedType
  Arith : Arithmetic → MatchedType
  VaList : MatchedType
  Pointer : MatchedType → MatchedType
  Array : MatchedType → MatchedType
  Func : MatchedType → MatchedType
  Tagged : StructOrUnion → Option ℕ → MatchedType

-- a type of the unit
abbrev pub matched_type : Facts → CType → MatchedType
matched_type u types.Void = Void
matched_type u (types.Arith k) = Arith k
matched_type u types.VaList = VaList
matched_type u (types.Pointer t) = Pointer (matched_type u t)
matched_type u (types.Array t) = Array (matched_type u t)
matched_type u (types.Func t) = Func (matched_type u t)
matched_type u (types.Struct n) = Tagged which_word.Struct (tag_in u n)
matched_type u (types.Union n) = Tagged which_word.Union (tag_in u n)

-- a basic type, which has no structure
abbrev pub without_tags : CType → MatchedType
without_tags types.Void = Void
without_tags (types.Arith k) = Arith k
without_tags types.VaList = VaList
without_tags (types.Pointer t) = Pointer (without_tags t)
without_tags (types.Array t) = Array (without_tags t)
without_tags (types.Func t) = Func (without_tags t)
without_tags (types.Struct n) = Tagged which_word.Struct None
without_tags (types.Union n) = Tagged which_word.Union None

-- the basic type of these words (ISO 9899:1990, 6.5.2)
abbrev pub basic : List Keyword → MatchedType
basic words = without_tags (basic_type words)

abbrev pub same_tag : Option ℕ → Option ℕ → Bool
same_tag None None = true
same_tag (Some n) (Some m) = nat_eq n m
same_tag _ _ = false

abbrev pub same_type : MatchedType → MatchedType → Bool
same_type Void Void = true
same_type (Arith k) (Arith l) = nat_eq (arithmetic_code k) (arithmetic_code l)
same_type VaList VaList = true
same_type (Pointer t) (Pointer s) = same_type t s
same_type (Array t) (Array s) = same_type t s
same_type (Func t) (Func s) = same_type t s
same_type (Tagged w n) (Tagged v m) = nat_eq (which_code w) (which_code v) && same_tag n m
same_type _ _ = false
