-- What declarators declare (ISO 9899:1990, 6.5.4).
use Rattle.std.specs.Prelude.{ℕ, Bool, true, false, cond, not, ◌&&◌, ◌||◌, nat_eq, List, [], ◌∷◌, Option, None, Some}
use Rattle.c_tree.specs.declared.punctuator.Punctuator.TheVariants as marks
use Rattle.c_tree.specs.declared.token.Token.{Token}
use Rattle.c_tree.specs.declared.token.TokenKind.{TokenKind}
use Rattle.c_tree.specs.declared.token.TokenKind.TheVariants as kinds
use Rattle.c_tree.specs.Node.{Node, node, Declarator, Part, DeclaratorShape, PartShape, Named, Nested, Unnamed, ArrayBound, VoidParams, Params, MaybeNode, absent, present, Nodes, no_more, more}
use Rattle.type_rules.specs.Options.{if_there, ◌>?◌}
use Rattle.type_rules.specs.Scopes.{Scopes, Entry, Class, Variable, Typedef, Enumerator, Member, latest, member_of}
use Rattle.type_rules.specs.Specified.{Storage}
use Rattle.type_rules.specs.Specified as stored
use Rattle.type_rules.specs.Types.{CType, Pointer, Array, Func, is_function, adjusted, int}
use Rattle.type_rules.specs.Vars.{CVar}
use Rattle.type_rules.specs.Vars as vars

abbrev pub is_star : TokenKind → Bool
is_star (kinds.Punct marks.Star) = true
is_star _ = false

-- a pointer for each star (6.5.4.1)
abbrev pub starred : List Token → CType → CType
starred [] t = t
starred (word ∷ words) t = starred words (cond (is_star word.kind) (Pointer t) t)

abbrev pub suffix_part : PartShape → CType → CType
suffix_part (ArrayBound words bound) t = Array t
suffix_part VoidParams t = Func t
suffix_part (Params params variadic) t = Func t
suffix_part _ t = t

abbrev pub suffix : Node → CType → CType
suffix (node i p (Part k)) t = suffix_part k t
suffix _ t = t

-- arrays and functions, the one beside the name outermost (6.5.4.2, 6.5.4.3)
abbrev pub suffixed : Nodes → CType → CType
suffixed no_more t = t
suffixed (more e es) t = suffix e (suffixed es t)

-- the type that a declarator gives its name, from the type of its specifiers outward
abbrev mutual
  pub around : Node → CType → CType
  around (node i p (Declarator k)) t = around_shape k t
  around _ t = t

  pub around_shape : DeclaratorShape → CType → CType
  around_shape (Named pointers name suffixes) t = suffixed suffixes (starred pointers t)
  around_shape (Nested pointers inner suffixes) t = around inner (suffixed suffixes (starred pointers t))
  around_shape (Unnamed pointers suffixes) t = suffixed suffixes (starred pointers t)

abbrev pub around_maybe : MaybeNode → CType → CType
around_maybe absent t = t
around_maybe (present d) t = around d t

-- the name that a declarator declares, if it isn't abstract
abbrev mutual
  pub name_of : Node → Option Token
  name_of (node i p (Declarator k)) = name_of_shape k
  name_of _ = None

  pub name_of_shape : DeclaratorShape → Option Token
  name_of_shape (Named pointers name suffixes) = Some name
  name_of_shape (Nested pointers inner suffixes) = name_of inner
  name_of_shape (Unnamed pointers suffixes) = None

-- a name alone, maybe in parentheses
abbrev mutual
  pub is_bare : Node → Bool
  is_bare (node i p (Declarator k)) = is_bare_shape k
  is_bare _ = false

  pub is_bare_shape : DeclaratorShape → Bool
  is_bare_shape (Named [] name no_more) = true
  is_bare_shape (Nested [] inner no_more) = is_bare inner
  is_bare_shape _ = false

abbrev pub static_of : CVar → Option CVar
static_of (vars.FileStatic file name) = Some (vars.FileStatic file name)
static_of _ = None

-- What `extern` names: the file-scope `static` of that name, where that is visible (6.1.2.2).
abbrev pub linked : Scopes → ℕ → CVar
linked v name = if_there (latest name v.names >? λ k. k.var >? static_of) (vars.Extern name) (λ s. s)

abbrev pub at_file : Scopes → Bool
at_file v = nat_eq v.depth 0

-- The variable that is declared (6.1.2.2, 6.1.2.4, 6.5.1). A function in a block is `extern` by itself.
abbrev pub variable : Scopes → Storage → CType → Token → Option CVar
variable v stored.Typedef t name = None
variable v stored.Extern t name = Some (linked v name.name)
variable v stored.Static t name = Some (cond (at_file v) (vars.FileStatic name.place.file name.name) (vars.LocalStatic name.place.file name.place.token name.name))
variable v stored.Unmarked t name =
    Some (cond (at_file v) (vars.Extern name.name)
    (cond (is_function t) (linked v name.name) (vars.Local name.place.file name.place.token name.name)))

abbrev pub is_typedef : Storage → Bool
is_typedef stored.Typedef = true
is_typedef _ = false

abbrev pub is_extern : Storage → Bool
is_extern stored.Extern = true
is_extern _ = false

abbrev pub declared : Scopes → Storage → CType → Token → Entry
declared v s t name = record {
  name = name.name;
  depth = v.depth;
  class = cond (is_typedef s) Typedef Variable;
  ty = t;
  var = variable v s t name;
  again = is_extern s || is_function t;
}

abbrev pub formal : Scopes → CType → Token → Entry
formal v t name = record {
  name = name.name;
  depth = v.depth;
  class = Variable;
  ty = adjusted t;
  var = Some (vars.Param name.place.file name.place.token name.name);
  again = false;
}

-- an enumerator has the type int (6.5.2.2)
abbrev pub enumerator : Scopes → Token → Entry
enumerator v name = record { name = name.name; depth = v.depth; class = Enumerator; ty = int; var = None; again = false }

abbrev pub a_member : ℕ → CType → Token → Member
a_member owner t name = record { owner = owner; name = name.name; place = name.place; ty = t }

abbrev pub class_number : Class → ℕ
class_number Variable = 0
class_number Typedef = 1
class_number Enumerator = 2

abbrev pub same_class : Class → Class → Bool
same_class a b = nat_eq (class_number a) (class_number b)

-- Two declarations of a name in one scope, the earlier one first, don't go together (6.5): they are of different classes, or
-- of an enumerator; or, in a block or among parameters, of a variable, and not both `extern` or of a function.
abbrev pub bars : Bool → Entry → Entry → Bool
bars in_file old new =
    not (same_class old.class new.class) || same_class new.class Enumerator
    || not in_file && same_class new.class Variable && not (old.again && new.again)

abbrev pub clashes : Scopes → Entry → Bool
clashes v k = if_there (latest k.name v.names) false (λ old. nat_eq old.depth v.depth && bars (at_file v) old k)

abbrev pub member_clashes : Scopes → Member → Bool
member_clashes v m = if_there (member_of m.owner m.name v.members) false (λ old. true)
