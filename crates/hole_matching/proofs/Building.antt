-- Small patterns and trees. The names and variables of the trees are those of the examples of objects: p 0, s 1, a 2, i 3, x 4,
-- q 5, g 6, e 7, f 8, h 9, b 10; `t` 12 is the tag of the structure. Nodes from 8 on are typed by hand. The holes are a state
-- variable of type any_pointer 0, any_expr 1, any_scalar 2, any_arguments 3, any_fn_call 4, `int` 5, `struct t *` 6,
-- any_pointer 7, `union t *` 8 and `unsigned int` 9.
use Rattle.std.specs.Prelude.{ℕ, true, false, List, [], ◌∷◌, ◌++◌, Bool, Option, None, Some, is_some}
use Rattle.c_objects.specs.Facts.{Facts}
use Rattle.c_objects.proofs.Building.{cell, facts, place}
use Rattle.c_tree.specs.declared.keyword.Keyword.{Keyword}
use Rattle.c_tree.specs.declared.keyword.Keyword.TheVariants as words
use Rattle.c_tree.specs.declared.operator.AssignOp.{AssignOp}
use Rattle.c_tree.specs.declared.operator.BinaryOp.{BinaryOp}
use Rattle.c_tree.specs.declared.operator.StructOrUnion.{StructOrUnion}
use Rattle.c_tree.specs.declared.operator.StructOrUnion.TheVariants as which_word
use Rattle.c_tree.specs.declared.operator.UnaryOp.TheVariants as unary
use Rattle.c_tree.specs.declared.punctuator.Punctuator.TheVariants as marks
use Rattle.c_tree.specs.Node.{Node, node, Shape}
use Rattle.c_tree.specs.Node as nodes
use Rattle.c_tree.specs.Symbol.{Symbol, Word, Sign, Reserved, IntLiteral, StringLiteral}
use Rattle.c_tree.specs.Syntax.{Syntax, Primary, Operation, Specifier, Declarator, Part, Ident, Constant, StrConst, Paren, Hole, Index, Call, Member, Arrow, Unary, SizeofType, Cast, Binary, Assign, TypeName, Specs, StructTag, Unnamed, SpecWord, absent, present, Syntaxes, no_more, more}
use Rattle.type_rules.specs.Options.{◌>?◌}
use Rattle.type_rules.specs.Arithmetic as kind
use Rattle.type_rules.specs.Types.{Arith, Pointer, Struct, Union, int}
use Rattle.metal_tree.specs.MetalMachines.Machine.{AnyExpr, AnyScalar, AnyPointer, AnyArguments, AnyFnCall, Named, Basic, Tag}
use Rattle.hole_matching.specs.Holes.{Setting}
use Rattle.metal_tree.specs.MetalMachines.Machine as holes
use Rattle.hole_matching.specs.Matched.{matched, nothing_taken}
use Rattle.hole_matching.specs.Matching.{Taken, Binding, slot}
use Rattle.c_tree.specs.PathSubjects.Subjects.{Subject, Tree}
use Rattle.hole_matching.specs.Written.{pattern_of}

-- the types of the nodes 8 to 15: `char *`, `struct t *`, `struct t`, `int`, `unsigned int`, an untagged `struct *`, `union t *`,
-- `int`
abbrev pub some_facts : Facts
some_facts = record {
  table =
      facts.table ++ (cell (Pointer (Arith kind.Char)) None
      ∷ cell (Pointer (Struct 0)) None
      ∷ cell (Struct 0) None
      ∷ cell int None
      ∷ cell (Arith kind.UnsignedInt) None
      ∷ cell (Pointer (Struct 1)) None
      ∷ cell (Pointer (Union 2)) None
      ∷ cell int None
      ∷ []);
  structs = Some 12 ∷ None ∷ Some 12 ∷ [];
}

abbrev pub setting : Setting
setting = record {
  facts = some_facts;
  depth = 4;
  variables = 1;
  holes =
      AnyPointer ∷ AnyExpr ∷ AnyScalar ∷ AnyArguments ∷ AnyFnCall ∷ Named (Basic (words.Int ∷ []))
      ∷ Named (holes.Pointer (Tag which_word.Struct 12)) ∷ AnyPointer ∷ Named (holes.Pointer (Tag which_word.Union 12))
      ∷ Named (Basic (words.Unsigned ∷ words.Int ∷ [])) ∷ [];
  function = 20;
}

-- patterns
abbrev pub hole : ℕ → Syntax
hole n = Primary (Hole n)

abbrev pub named : ℕ → Syntax
named n = Primary (Ident (Word n))

abbrev pub in_parens : Syntax → Syntax
in_parens e = Primary (Paren e)

abbrev pub symbol : Symbol → Syntax
symbol t = Primary (Constant t)

abbrev pub decimal : ℕ → Syntax
decimal value = symbol (IntLiteral (record { value = value; decimal = true; unsigned = false; longs = 0 }) 0)

abbrev pub strings : List ℕ → Syntax
strings ns = Primary (StrConst (literals ns))
  where
    literals : List ℕ → List Symbol
    literals [] = []
    literals (n ∷ ns) = StringLiteral false n ∷ literals ns

abbrev pub row : List Syntax → Syntaxes
row [] = no_more
row (e ∷ es) = more e (row es)

abbrev pub calling : Syntax → List Syntax → Syntax
calling f es = Operation (Call f (row es))

abbrev pub starred : Syntax → Syntax
starred e = Operation (Unary unary.Deref e)

abbrev pub indexed : Syntax → Syntax → Syntax
indexed e n = Operation (Index e n)

abbrev pub dotted : Syntax → ℕ → Syntax
dotted e n = Operation (Member e (Word n))

abbrev pub arrowed : Syntax → ℕ → Syntax
arrowed e n = Operation (Arrow e (Word n))

abbrev pub combining : BinaryOp → Syntax → Syntax → Syntax
combining op l r = Operation (Binary op l r)

abbrev pub assigning : AssignOp → Syntax → Syntax → Syntax
assigning op l r = Operation (Assign op l r)

-- the type names `WORDS`, `WORDS *` and `struct TAG *`
abbrev pub word_specs : List Keyword → Syntaxes
word_specs [] = no_more
word_specs (k ∷ ks) = more (Part (SpecWord (Reserved k))) (word_specs ks)

abbrev pub type_of_words : List Keyword → Syntax
type_of_words ks = Specifier (TypeName (Specifier (Specs (word_specs ks))) absent)

abbrev pub pointer_to_tag : StructOrUnion → ℕ → Syntax
pointer_to_tag which tag = Specifier (TypeName (Specifier (Specs (more (Specifier (StructTag which (Word tag))) no_more))) (present (Declarator (Unnamed (Sign marks.Star ∷ []) no_more))))

abbrev pub casting : Syntax → Syntax → Syntax
casting t e = Operation (Cast t e)

abbrev pub size_of : Syntax → Syntax
size_of t = Operation (SizeofType t)

-- trees
abbrev pub numbered : ℕ → Shape → Node
numbered n k = node n place k

abbrev pub list : List Node → nodes.Nodes
list [] = nodes.no_more
list (e ∷ es) = nodes.more e (list es)

abbrev pub call_of : Node → List Node → Node
call_of f es = numbered 99 (nodes.Operation (nodes.Call f place (list es)))

-- a type name and a cast to it, where the type is that of this number
abbrev pub type_name : ℕ → Node
type_name n = numbered n (nodes.Specifier (nodes.TypeName (numbered 99 (nodes.Specifier (nodes.Specs nodes.no_more))) nodes.absent))

abbrev pub cast_to : ℕ → Node → Node
cast_to n e = numbered 99 (nodes.Operation (nodes.Cast (type_name n) e))

abbrev pub size_in : ℕ → Node
size_in n = numbered 99 (nodes.Operation (nodes.SizeofType (type_name n)))

abbrev pub assigned : AssignOp → Node → Node → Node
assigned op l r = numbered 99 (nodes.Operation (nodes.Assign op l r))

abbrev pub sum : BinaryOp → Node → Node → Node
sum op l r = numbered 99 (nodes.Operation (nodes.Binary op l r))

-- a name with an initial
abbrev pub initialized : Node → Node → Node
initialized name initial = numbered 99 (nodes.Initializer (nodes.Init name (numbered 99 (nodes.Declarator (nodes.Unnamed [] nodes.no_more))) initial))

abbrev pub braces : List Node → Node
braces es = numbered 99 (nodes.Initializer (nodes.Braces (list es) false))

-- the match of a pattern with a subject, and what a hole takes in it
abbrev pub match : Syntax → Subject → Option Binding
match e s = matched setting (pattern_of e) s nothing_taken

abbrev pub does_match : Syntax → Node → Bool
does_match e n = is_some (match e (Tree n))

abbrev pub taken : Syntax → Node → ℕ → Option Taken
taken e n k = match e (Tree n) >? slot k
