-- Subjects, as a pattern is matched with them, level by level. Parentheses are seen through, `x->f` is `(*x).f`, and a name
-- with an initializer that isn't braced is an assignment to the name.
use Rattle.std.specs.Prelude.{ℕ, List, [], ◌∷◌, Bool, true, false, Option, None, Some, cond}
use Rattle.c_objects.specs.Facts.{Facts, numbered_type, type_in}
use Rattle.c_objects.specs.Objects.{Object, Deref}
use Rattle.c_objects.specs.ObjectOf.{object_of, onward}
use Rattle.c_tree.specs.declared.operator.AssignOp.TheVariants as assign
use Rattle.c_tree.specs.declared.operator.UnaryOp.TheVariants as unary
use Rattle.c_tree.specs.declared.token.Token.{Token}
use Rattle.c_tree.specs.declared.token.TokenKind.{TokenKind}
use Rattle.c_tree.specs.declared.token.TokenKind.TheVariants as kinds
use Rattle.c_tree.specs.Node.{Node, node, Shape, Primary, Operation, Initializer, Specifier, Part, PrimaryShape, OperationShape, InitializerShape, SpecifierShape, PartShape, Ident, Constant, StrConst, Paren, Hole, Init, TypeName, Nodes}
use Rattle.c_tree.specs.Node as nodes
use Rattle.type_rules.specs.Options.{if_there}
use Rattle.type_rules.specs.Types.{CType, pointed}
use Rattle.c_tree.specs.PathSubjects.Subjects.{Subject, Tree, DerefOf}
use Rattle.hole_matching.specs.MatchedTypes.{matched_type}
use Rattle.hole_matching.specs.Pattern.{Head, Identifier, Integer, Spelled, Strings, VaArg, Offsetof, Index, Call, Member, CompoundLit, Unary, SizeofType, Cast, Binary, Cond, Assign, Named, MemberDesignator, IndexDesignator, Braces, Designated}

-- what stands in the parentheses
abbrev pub inside : Node → Node
inside (node i p (Primary (Paren e))) = inside e
inside e = e

abbrev pub inner : Subject → Subject
inner (Tree e) = Tree (inside e)
inner (DerefOf x) = DerefOf x

-- the type of a subject; that of `*x` is what `x` points to
abbrev pub subject_type : Facts → Subject → CType
subject_type u (Tree e) = type_in u e
subject_type u (DerefOf x) = if_there (pointed (type_in u x)) (type_in u x) (λ t. t)

abbrev pub subject_object : Facts → ℕ → Subject → Option Object
subject_object u depth (Tree e) = object_of u depth e
subject_object u depth (DerefOf x) = onward depth (Deref ∷ []) (object_of u depth x)

abbrev pub is_braced : Node → Bool
is_braced (node i p (Initializer (nodes.Braces elements comma))) = true
is_braced _ = false

abbrev pub is_expression_shape : Shape → Bool
is_expression_shape (Primary (Hole number)) = false
is_expression_shape (Primary k) = true
is_expression_shape (Operation k) = true
is_expression_shape (Initializer (Init name declarator initial)) = cond (is_braced initial) false true
is_expression_shape _ = false

-- an expression, or what is read as one
abbrev pub is_expression : Subject → Bool
is_expression (Tree (node i p s)) = is_expression_shape s
is_expression (DerefOf x) = true

abbrev pub token_head : TokenKind → ℕ → Head
token_head (kinds.Int value decimal unsigned longs) name = Integer value
token_head k name = Spelled name

abbrev pub names_of : List Token → List ℕ
names_of [] = []
names_of (t ∷ ts) = t.name ∷ names_of ts

abbrev pub primary_head : PrimaryShape → Option Head
primary_head (Ident name) = Some (Identifier name.name)
primary_head (Constant token) = Some (token_head token.kind token.name)
primary_head (StrConst literals) = Some (Strings (names_of literals))
primary_head (Paren e) = None
primary_head (nodes.VaArg list of) = Some VaArg
primary_head (nodes.Offsetof of member path) = Some (Offsetof member.name)
primary_head (Hole number) = None

abbrev pub operation_head : OperationShape → Head
operation_head (nodes.Index array index) = Index
operation_head (nodes.Call callee paren arguments) = Call
operation_head (nodes.Member operand member) = Member member.name
operation_head (nodes.Arrow operand member) = Member member.name
operation_head (nodes.CompoundLit of braces) = CompoundLit
operation_head (nodes.Unary op operand) = Unary op
operation_head (nodes.SizeofType of) = SizeofType
operation_head (nodes.Cast to operand) = Cast
operation_head (nodes.Binary op left right) = Binary op
operation_head (nodes.Cond condition then otherwise) = Cond
operation_head (nodes.Assign op left right) = Assign op

abbrev pub initializer_head : InitializerShape → Option Head
initializer_head (Init name declarator initial) = cond (is_braced initial) None (Some (Assign assign.Plain))
initializer_head (nodes.Braces elements comma) = Some Braces
initializer_head (nodes.Designated designators initial) = Some Designated

abbrev pub specifier_head : Facts → ℕ → SpecifierShape → Option Head
specifier_head u i (TypeName specs declarator) = Some (Named (matched_type u (numbered_type u i)))
specifier_head u i _ = None

abbrev pub part_head : PartShape → Option Head
part_head (nodes.MemberDesignator member) = Some (MemberDesignator member.name)
part_head (nodes.IndexDesignator index) = Some IndexDesignator
part_head _ = None

-- THE HEAD of a node that isn't in parentheses, if it is one that a pattern has
abbrev pub shape_head : Facts → ℕ → Shape → Option Head
shape_head u i (Primary k) = primary_head k
shape_head u i (Operation k) = Some (operation_head k)
shape_head u i (Initializer k) = initializer_head k
shape_head u i (Specifier k) = specifier_head u i k
shape_head u i (Part k) = part_head k
shape_head u i _ = None

abbrev pub head_of : Facts → Subject → Option Head
head_of u (Tree (node i p s)) = shape_head u i s
head_of u (DerefOf x) = Some (Unary unary.Deref)

-- these trees, and then others
abbrev pub trees_then : Nodes → List Subject → List Subject
trees_then nodes.no_more ss = ss
trees_then (nodes.more e es) ss = Tree e ∷ trees_then es ss

abbrev pub trees : Nodes → List Subject
trees es = trees_then es []

abbrev pub primary_parts : PrimaryShape → List Subject
primary_parts (nodes.VaArg list of) = Tree list ∷ Tree of ∷ []
primary_parts (nodes.Offsetof of member path) = Tree of ∷ trees path
primary_parts _ = []

abbrev pub operation_parts : OperationShape → List Subject
operation_parts (nodes.Index array index) = Tree array ∷ Tree index ∷ []
operation_parts (nodes.Call callee paren arguments) = Tree callee ∷ trees arguments
operation_parts (nodes.Member operand member) = Tree operand ∷ []
operation_parts (nodes.Arrow operand member) = DerefOf operand ∷ []
operation_parts (nodes.CompoundLit of braces) = Tree of ∷ Tree braces ∷ []
operation_parts (nodes.Unary op operand) = Tree operand ∷ []
operation_parts (nodes.SizeofType of) = Tree of ∷ []
operation_parts (nodes.Cast to operand) = Tree to ∷ Tree operand ∷ []
operation_parts (nodes.Binary op left right) = Tree left ∷ Tree right ∷ []
operation_parts (nodes.Cond condition then otherwise) = Tree condition ∷ Tree then ∷ Tree otherwise ∷ []
operation_parts (nodes.Assign op left right) = Tree left ∷ Tree right ∷ []

abbrev pub initializer_parts : InitializerShape → List Subject
initializer_parts (Init name declarator initial) = Tree name ∷ Tree initial ∷ []
initializer_parts (nodes.Braces elements comma) = trees elements
initializer_parts (nodes.Designated designators initial) = trees_then designators (Tree initial ∷ [])

abbrev pub part_parts : PartShape → List Subject
part_parts (nodes.IndexDesignator index) = Tree index ∷ []
part_parts _ = []

abbrev pub shape_parts : Shape → List Subject
shape_parts (Primary k) = primary_parts k
shape_parts (Operation k) = operation_parts k
shape_parts (Initializer k) = initializer_parts k
shape_parts (Part k) = part_parts k
shape_parts _ = []

-- ITS PARTS in order, as they stand
abbrev pub parts_of : Subject → List Subject
parts_of (Tree (node i p s)) = shape_parts s
parts_of (DerefOf x) = Tree x ∷ []
