-- Small trees over a few variables. The names are p 0, s 1, a 2, i 3, x 4, q 5, g 6, e 7, f 8, h 9, b 10; an identifier has its
-- name as the number of its node, and every other node has the number 99, of which nothing is known:
-- `extern int i; static float x; extern char *a[3]; int g(); enum { e }; struct t s, *p; struct t **q;`.
use Rattle.std.specs.Prelude.{ℕ, true, false, List, [], ◌∷◌, Option, None, Some, codes}
use Rattle.c_objects.specs.Facts.{Facts}
use Rattle.c_objects.specs.Objects.{Object}
use Rattle.c_objects.specs.ObjectOf.{object_of}
use Rattle.c_tree.specs.declared.operator.UnaryOp.{UnaryOp}
use Rattle.c_tree.specs.declared.operator.UnaryOp.TheVariants as unary
use Rattle.c_tree.specs.declared.place.Place.{Place}
use Rattle.c_tree.specs.declared.token.Mark.TheVariants as marked
use Rattle.c_tree.specs.declared.token.Token.{Token}
use Rattle.c_tree.specs.declared.token.TokenKind.{TokenKind}
use Rattle.c_tree.specs.declared.token.TokenKind.TheVariants as kinds
use Rattle.c_tree.specs.Node.{Node, node, Shape, Primary, Operation, Specifier, Ident, Constant, Paren, Index, Call, Member, Arrow, Unary, Cast, TypeName, Specs, absent, no_more}
use Rattle.type_rules.specs.Arithmetic as kind
use Rattle.type_rules.specs.Definition.{Cell}
use Rattle.type_rules.specs.Types.{CType, Arith, Pointer, Array, Func, Struct, int}
use Rattle.type_rules.specs.Vars.{CVar, Extern, FileStatic, Param, Local}

abbrev pub p : CVar
p = Param 0 10 0

abbrev pub s : CVar
s = Local 0 11 1

abbrev pub a : CVar
a = Extern 2

abbrev pub i : CVar
i = Extern 3

abbrev pub x : CVar
x = FileStatic 0 4

abbrev pub q : CVar
q = Local 0 15 5

abbrev pub cell : CType → Option CVar → Option Cell
cell t v = Some (record { ty = t; var = v })

abbrev pub facts : Facts
facts = record {
  table =
      cell (Pointer (Struct 0)) (Some p)
      ∷ cell (Struct 0) (Some s)
      ∷ cell (Array (Pointer (Arith kind.Char))) (Some a)
      ∷ cell int (Some i)
      ∷ cell (Arith kind.Float) (Some x)
      ∷ cell (Pointer (Pointer (Struct 0))) (Some q)
      ∷ cell (Func int) None
      ∷ cell int None
      ∷ [];
  structs = Some 12 ∷ [];
}

abbrev pub names : List (List ℕ)
names = codes "p" ∷ codes "s" ∷ codes "a" ∷ codes "i" ∷ codes "x" ∷ codes "q" ∷ codes "g" ∷ codes "e" ∷ codes "f" ∷ codes "h" ∷ codes "b" ∷ []

abbrev pub place : Place
place = record { file = 0; token = 0 }

abbrev pub token : TokenKind → ℕ → Token
token t name = record { kind = t; name = name; start = 0; len = 0; line = 0; col = 0; source = 0; place = place }

abbrev pub word : ℕ → Token
word name = token (kinds.Word marked.Plain) name

abbrev pub other : Shape → Node
other k = node 99 place k

abbrev pub name : ℕ → Node
name n = node n place (Primary (Ident (word n)))

abbrev pub constant : TokenKind → Node
constant t = other (Primary (Constant (token t 0)))

abbrev pub number : ℕ → Node
number value = constant (kinds.Int value true false 0)

abbrev pub paren : Node → Node
paren e = other (Primary (Paren e))

abbrev pub unary_of : UnaryOp → Node → Node
unary_of op e = other (Operation (Unary op e))

abbrev pub star : Node → Node
star e = unary_of unary.Deref e

abbrev pub address : Node → Node
address e = unary_of unary.AddressOf e

abbrev pub index : Node → Node → Node
index e n = other (Operation (Index e n))

abbrev pub dot : Node → ℕ → Node
dot e f = other (Operation (Member e (word f)))

abbrev pub arrow : Node → ℕ → Node
arrow e f = other (Operation (Arrow e (word f)))

-- `(T)e`, where nothing hangs on the type
abbrev pub cast : Node → Node
cast e = other (Operation (Cast (other (Specifier (TypeName (other (Specifier (Specs no_more))) absent))) e))

abbrev pub call : Node → Node
call f = other (Operation (Call f place no_more))

-- the object of a tree at depth 4
abbrev pub object : Node → Option Object
object e = object_of facts 4 e
