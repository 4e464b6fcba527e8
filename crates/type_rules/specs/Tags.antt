-- Tags: what a mention of one means, and what it declares (ISO 9899:1990, 6.5.2.1 to 6.5.2.3).
use Rattle.std.specs.Prelude.{ℕ, ◌++◌, [], ◌∷◌, length, Option, None, Some, Bool, true, false, cond, not, ◌&&◌, ◌||◌, nat_eq}
use Rattle.c_tree.specs.declared.operator.StructOrUnion.{StructOrUnion}
use Rattle.c_tree.specs.declared.operator.StructOrUnion.TheVariants as which_word
use Rattle.c_tree.specs.declared.token.Token.{Token}
use Rattle.type_rules.specs.Faults.{Fault, Redeclared}
use Rattle.type_rules.specs.Options.{if_there, ◌>?◌}
use Rattle.type_rules.specs.Scopes.{Scopes, Tag, Sort, Structs, Unions, Enums, latest_tag}
use Rattle.type_rules.specs.Types.{CType, Struct, Union}

abbrev pub sort_of : StructOrUnion → Sort
sort_of which_word.Struct = Structs
sort_of which_word.Union = Unions

abbrev pub aggregate : StructOrUnion → ℕ → CType
aggregate which_word.Struct n = Struct n
aggregate which_word.Union n = Union n

-- how a tag is mentioned: with other things, as all there is of a declaration, or with a body
pub data Mention : Type 0 where
  Plainly : Mention
  Alone : Mention
  WithBody : Mention

abbrev pub is_plain : Mention → Bool
is_plain Plainly = true
is_plain _ = false

abbrev pub has_body : Mention → Bool
has_body WithBody = true
has_body _ = false

abbrev pub is_enum : Sort → Bool
is_enum Enums = true
is_enum _ = false

abbrev pub sort_number : Sort → ℕ
sort_number Structs = 0
sort_number Unions = 1
sort_number Enums = 2

abbrev pub same_sort : Sort → Sort → Bool
same_sort a b = nat_eq (sort_number a) (sort_number b)

-- declared in the innermost scope
abbrev pub is_here : Scopes → Tag → Bool
is_here v g = nat_eq g.depth v.depth

-- A mention is of the visible tag where that is of its sort, and in this scope if the mention has a body or stands alone; an
-- enumeration without a body is never declared anew.
abbrev pub is_meant : Scopes → Mention → Sort → Tag → Bool
is_meant v how sort g = same_sort g.sort sort && (is_plain how || is_enum sort && not (has_body how) || is_here v g)

abbrev pub meant : Scopes → Mention → Sort → ℕ → Option Tag
meant v how sort name = latest_tag name v.tags >? λ g. cond (is_meant v how sort g) (Some g) None

-- the number of the structure or union; a new one has the next number
abbrev pub tag_number : Scopes → Mention → Sort → ℕ → ℕ
tag_number v how sort name = if_there (meant v how sort name) (length v.structs) (λ g. g.number)

abbrev pub body_number : Scopes → Sort → Option Token → ℕ
body_number v sort None = length v.structs
body_number v sort (Some tag) = tag_number v WithBody sort tag.name

abbrev pub with_tag : Scopes → Tag → Scopes
with_tag v g = record v { tags = v.tags ++ (g ∷ []) }

-- one structure or union more
abbrev pub with_struct : Scopes → Sort → Option ℕ → Scopes
with_struct v sort tag = cond (is_enum sort) v (record v { structs = v.structs ++ (tag ∷ []) })

abbrev pub a_tag : Scopes → Mention → Sort → ℕ → ℕ → Tag
a_tag v how sort name number = record { name = name; depth = v.depth; sort = sort; number = number; body = has_body how }

-- The scopes behind a mention: one of a visible tag declares nothing, unless it gives it a body.
abbrev pub mentioned : Scopes → Mention → Sort → ℕ → Scopes
mentioned v how sort name =
    if_there (meant v how sort name)
    (with_struct (with_tag v (a_tag v how sort name (length v.structs))) sort (Some name))
    (λ g. cond (has_body how) (with_tag v (a_tag v how sort name g.number)) v)

-- the scopes behind the `{` of a body
abbrev pub body_opened : Scopes → Sort → Option Token → Scopes
body_opened v sort None = with_struct v sort None
body_opened v sort (Some tag) = mentioned v WithBody sort tag.name

-- In one scope a tag is of one sort, and has one body.
abbrev pub tag_clashes : Scopes → Mention → Sort → ℕ → Bool
tag_clashes v how sort name = if_there (latest_tag name v.tags) false (λ g. is_here v g && (not (same_sort g.sort sort) || g.body && has_body how))

abbrev pub tag_fault : Scopes → Mention → Sort → Token → Option Fault
tag_fault v how sort tag = cond (tag_clashes v how sort tag.name) (Some (Redeclared tag.place tag.name)) None

abbrev pub body_fault : Scopes → Sort → Option Token → Option Fault
body_fault v sort None = None
body_fault v sort (Some tag) = tag_fault v WithBody sort tag
