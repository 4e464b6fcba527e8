-- The number of nodes of a tree, which is that of its level and one more.
use Rattle.std.proofs.Common.{◌≡◌, ℕ, zero, suc, ◌+◌, ◌<◌, ◌≤◌, List, [], ◌∷◌, length, get_or, ap, refl, arith}
use Rattle.c_tree.specs.Syntax.{Syntax, Primary, Operation, Initializer, Specifier, Declarator, Part, Outer, Statement, Iteration, Jump, PrimarySyntax, OperationSyntax, InitializerSyntax, SpecifierSyntax, DeclaratorSyntax, PartSyntax, OuterSyntax, StatementSyntax, IterationSyntax, JumpSyntax, Ident, Constant, StrConst, Paren, VaArg, Offsetof, Hole, Index, Call, Member, Arrow, CompoundLit, Unary, SizeofType, Cast, Binary, Cond, Assign, Init, Braces, Designated, TypeName, Specs, StructTag, StructBody, EnumTag, EnumBody, StructDeclaration, BitField, Param, Named, Nested, Unnamed, SpecWord, ArrayBound, VoidParams, Params, Enumerator, MemberDesignator, IndexDesignator, Declaration, Function, Empty, Block, ExprStmt, If, Switch, Case, Default, Label, While, Do, For, ForDeclaration, Goto, Continue, Break, Return, MaybeSyntax, absent, present, Syntaxes, no_more, more}
use Rattle.c_tree.specs.declared.tree.Tree.{Tree}
use Rattle.c_tree.specs.Forget.{view, view_all}
use Rattle.tree_laws.specs.declared.tree_equality.heads.Seeing.{Seeing}
use Rattle.tree_laws.specs.TreeEquality.Levels.{WordsSyntax, Value, Single, Several, Declared, BranchesSyntax, Two, Four, Listed, LevelSyntax, level, level_of, seen, seen_all, primary_level, operation_level, initializer_level, specifier_level, declarator_level, part_level, outer_level, statement_level, iteration_level, jump_level}

abbrev mutual
  pub size : Syntax → ℕ
  size (Primary k) = suc (primary_size k)
  size (Operation k) = suc (operation_size k)
  size (Initializer k) = suc (initializer_size k)
  size (Specifier k) = suc (specifier_size k)
  size (Declarator k) = suc (declarator_size k)
  size (Part k) = suc (part_size k)
  size (Outer k) = suc (outer_size k)
  size (Statement k) = suc (statement_size k)
  size (Iteration k) = suc (iteration_size k)
  size (Jump k) = suc (jump_size k)

  primary_size : PrimarySyntax → ℕ
  primary_size (Ident _) = 0 + 0
  primary_size (Constant _) = 0 + 0
  primary_size (StrConst _) = 0 + 0
  primary_size (Paren inner) = size inner + 0
  primary_size (VaArg list of) = size list + size of
  primary_size (Offsetof of _ path) = size of + all_size path
  primary_size (Hole _) = 0 + 0

  operation_size : OperationSyntax → ℕ
  operation_size (Index array index) = size array + size index
  operation_size (Call callee arguments) = size callee + all_size arguments
  operation_size (Member operand _) = size operand + 0
  operation_size (Arrow operand _) = size operand + 0
  operation_size (CompoundLit of braces) = size of + size braces
  operation_size (Unary _ operand) = size operand + 0
  operation_size (SizeofType of) = size of + 0
  operation_size (Cast to operand) = size to + size operand
  operation_size (Binary _ left right) = size left + size right
  operation_size (Cond condition then otherwise) = size condition + size then + size otherwise + 0
  operation_size (Assign _ left right) = size left + size right

  initializer_size : InitializerSyntax → ℕ
  initializer_size (Init name declarator initial) = size name + size declarator + size initial + 0
  initializer_size (Braces elements _) = 0 + all_size elements
  initializer_size (Designated designators initial) = size initial + all_size designators

  specifier_size : SpecifierSyntax → ℕ
  specifier_size (TypeName specs declarator) = size specs + maybe_size declarator
  specifier_size (Specs items) = 0 + all_size items
  specifier_size (StructTag _ _) = 0 + 0
  specifier_size (StructBody _ _ members) = 0 + all_size members
  specifier_size (EnumTag _) = 0 + 0
  specifier_size (EnumBody _ enumerators _) = 0 + all_size enumerators
  specifier_size (StructDeclaration specs declarators) = size specs + all_size declarators
  specifier_size (BitField declarator width) = maybe_size declarator + size width
  specifier_size (Param specs declarator) = size specs + maybe_size declarator

  declarator_size : DeclaratorSyntax → ℕ
  declarator_size (Named _ _ suffixes) = 0 + all_size suffixes
  declarator_size (Nested _ inner suffixes) = size inner + all_size suffixes
  declarator_size (Unnamed _ suffixes) = 0 + all_size suffixes

  part_size : PartSyntax → ℕ
  part_size (SpecWord _) = 0 + 0
  part_size (ArrayBound _ bound) = maybe_size bound + 0
  part_size VoidParams = 0 + 0
  part_size (Params params _) = 0 + all_size params
  part_size (Enumerator _ value) = maybe_size value + 0
  part_size (MemberDesignator _) = 0 + 0
  part_size (IndexDesignator index) = size index + 0

  outer_size : OuterSyntax → ℕ
  outer_size (Declaration specs declarators) = size specs + all_size declarators
  outer_size (Function specs declarator body) = size specs + size declarator + size body + 0
  outer_size Empty = 0 + 0

  statement_size : StatementSyntax → ℕ
  statement_size (Block items) = 0 + all_size items
  statement_size (ExprStmt value) = maybe_size value + 0
  statement_size (If condition then otherwise) = size condition + size then + maybe_size otherwise + 0
  statement_size (Switch value body) = size value + size body
  statement_size (Case value body) = size value + size body
  statement_size (Default body) = size body + 0
  statement_size (Label _ body) = size body + 0

  iteration_size : IterationSyntax → ℕ
  iteration_size (While condition body) = size condition + size body
  iteration_size (Do body condition) = size body + size condition
  iteration_size (For first condition step body) = maybe_size first + maybe_size condition + maybe_size step + size body
  iteration_size (ForDeclaration declaration condition step body) = size declaration + maybe_size condition + maybe_size step + size body

  jump_size : JumpSyntax → ℕ
  jump_size (Goto _) = 0 + 0
  jump_size Continue = 0 + 0
  jump_size Break = 0 + 0
  jump_size (Return value) = maybe_size value + 0

  pub maybe_size : MaybeSyntax → ℕ
  maybe_size absent = 0
  maybe_size (present s) = size s

  pub all_size : Syntaxes → ℕ
  all_size no_more = 0
  all_size (more s ss) = size s + all_size ss

abbrev pub branches_size : BranchesSyntax → ℕ
branches_size (Two a b) = maybe_size a + maybe_size b
branches_size (Four a b c d) = maybe_size a + maybe_size b + maybe_size c + maybe_size d
branches_size (Listed a es) = maybe_size a + all_size es

abbrev pub level_size : LevelSyntax → ℕ
level_size (level _ _ b) = branches_size b

primary-size : (k : PrimarySyntax) → primary_size k ≡ level_size (primary_level k)
primary-size (Ident _) = refl
primary-size (Constant _) = refl
primary-size (StrConst _) = refl
primary-size (Paren _) = refl
primary-size (VaArg _ _) = refl
primary-size (Offsetof _ _ _) = refl
primary-size (Hole _) = refl

operation-size : (k : OperationSyntax) → operation_size k ≡ level_size (operation_level k)
operation-size (Index _ _) = refl
operation-size (Call _ _) = refl
operation-size (Member _ _) = refl
operation-size (Arrow _ _) = refl
operation-size (CompoundLit _ _) = refl
operation-size (Unary _ _) = refl
operation-size (SizeofType _) = refl
operation-size (Cast _ _) = refl
operation-size (Binary _ _ _) = refl
operation-size (Cond _ _ _) = refl
operation-size (Assign _ _ _) = refl

initializer-size : (k : InitializerSyntax) → initializer_size k ≡ level_size (initializer_level k)
initializer-size (Init _ _ _) = refl
initializer-size (Braces _ _) = refl
initializer-size (Designated _ _) = refl

specifier-size : (k : SpecifierSyntax) → specifier_size k ≡ level_size (specifier_level k)
specifier-size (TypeName _ _) = refl
specifier-size (Specs _) = refl
specifier-size (StructTag _ _) = refl
specifier-size (StructBody _ _ _) = refl
specifier-size (EnumTag _) = refl
specifier-size (EnumBody _ _ _) = refl
specifier-size (StructDeclaration _ _) = refl
specifier-size (BitField _ _) = refl
specifier-size (Param _ _) = refl

declarator-size : (k : DeclaratorSyntax) → declarator_size k ≡ level_size (declarator_level k)
declarator-size (Named _ _ _) = refl
declarator-size (Nested _ _ _) = refl
declarator-size (Unnamed _ _) = refl

part-size : (k : PartSyntax) → part_size k ≡ level_size (part_level k)
part-size (SpecWord _) = refl
part-size (ArrayBound _ _) = refl
part-size VoidParams = refl
part-size (Params _ _) = refl
part-size (Enumerator _ _) = refl
part-size (MemberDesignator _) = refl
part-size (IndexDesignator _) = refl

outer-size : (k : OuterSyntax) → outer_size k ≡ level_size (outer_level k)
outer-size (Declaration _ _) = refl
outer-size (Function _ _ _) = refl
outer-size Empty = refl

statement-size : (k : StatementSyntax) → statement_size k ≡ level_size (statement_level k)
statement-size (Block _) = refl
statement-size (ExprStmt _) = refl
statement-size (If _ _ _) = refl
statement-size (Switch _ _) = refl
statement-size (Case _ _) = refl
statement-size (Default _) = refl
statement-size (Label _ _) = refl

iteration-size : (k : IterationSyntax) → iteration_size k ≡ level_size (iteration_level k)
iteration-size (While _ _) = refl
iteration-size (Do _ _) = refl
iteration-size (For _ _ _ _) = refl
iteration-size (ForDeclaration _ _ _ _) = refl

jump-size : (k : JumpSyntax) → jump_size k ≡ level_size (jump_level k)
jump-size (Goto _) = refl
jump-size Continue = refl
jump-size Break = refl
jump-size (Return _) = refl

level-size : (s : Syntax) → size s ≡ suc (level_size (level_of s))
level-size (Primary k) = ap suc (primary-size k)
level-size (Operation k) = ap suc (operation-size k)
level-size (Initializer k) = ap suc (initializer-size k)
level-size (Specifier k) = ap suc (specifier-size k)
level-size (Declarator k) = ap suc (declarator-size k)
level-size (Part k) = ap suc (part-size k)
level-size (Outer k) = ap suc (outer-size k)
level-size (Statement k) = ap suc (statement-size k)
level-size (Iteration k) = ap suc (iteration-size k)
level-size (Jump k) = ap suc (jump-size k)

-- the parts of a level are less than its tree
pub level_less : (x : LevelSyntax) (s : Syntax) → x ≡ level_of s → level_size x < size s
level_less x s e = let f = level-size s in let g = ap level_size e in grind (arith, f, g)

-- an item of a list is no more than the list
pub item_less : (how : Seeing) (d : Tree) (items : List Tree) (i : ℕ) → i < length items → size (seen how (view (get_or items i d))) ≤ all_size (seen_all how (view_all items))
item_less how d [] i h = absurd (omega arith)
item_less how d (t ∷ items) zero h = omega arith
item_less how d (t ∷ items) (suc i) h = let k = item_less how d items i (omega (arith, h)) in omega (arith, k)
