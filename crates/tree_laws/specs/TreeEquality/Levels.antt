-- Trees level by level: the head of a tree and its parts, and what they are where a tree is seen as it is written, or as C reads it.
use Rattle.std.specs.Prelude.{Bool, true, false, List, Option, None, Some}
use Rattle.std.specs.Option.{option_map}
use Rattle.c_tree.specs.Symbol.{Symbol, symbol_of, symbols_of}
use Rattle.c_tree.specs.Syntax.{Syntax, Primary, Operation, Initializer, Specifier, Declarator, Part, Outer, Statement, Iteration, Jump, PrimarySyntax, OperationSyntax, InitializerSyntax, SpecifierSyntax, DeclaratorSyntax, PartSyntax, OuterSyntax, StatementSyntax, IterationSyntax, JumpSyntax, Ident, Constant, StrConst, Paren, VaArg, Offsetof, Hole, Index, Call, Member, Arrow, CompoundLit, Unary, SizeofType, Cast, Binary, Cond, Assign, Init, Braces, Designated, TypeName, Specs, StructTag, StructBody, EnumTag, EnumBody, StructDeclaration, BitField, Param, Named, Nested, Unnamed, SpecWord, ArrayBound, VoidParams, Params, Enumerator, MemberDesignator, IndexDesignator, Declaration, Function, Empty, Block, ExprStmt, If, Switch, Case, Default, Label, While, Do, For, ForDeclaration, Goto, Continue, Break, Return, MaybeSyntax, absent, present, Syntaxes, no_more, more}
use Rattle.c_tree.specs.Views.{maybe_token}
use Rattle.c_tree.specs.Forget.{maybe_view, list_view}
use Rattle.c_tree.specs.Compared.{compared, compared_constant, pointed_to}
use Rattle.tree_laws.specs.declared.tree_equality.heads.Form.{Form}
use Rattle.tree_laws.specs.declared.tree_equality.heads.Form.TheVariants as form
use Rattle.tree_laws.specs.declared.tree_equality.heads.Head.{Head}
use Rattle.tree_laws.specs.declared.tree_equality.heads.Head.TheVariants as head
use Rattle.tree_laws.specs.declared.tree_equality.heads.Level.{Level}
use Rattle.tree_laws.specs.declared.tree_equality.heads.Words.{Words}
use Rattle.tree_laws.specs.declared.tree_equality.heads.Words.TheVariants as words
use Rattle.tree_laws.specs.declared.tree_equality.heads.Branches.{Branches}
use Rattle.tree_laws.specs.declared.tree_equality.heads.Branches.TheVariants as branches
use Rattle.tree_laws.specs.declared.tree_equality.heads.Seeing.{Seeing}
use Rattle.tree_laws.specs.declared.tree_equality.heads.Seeing.TheVariants as seeing
use Rattle.tree_laws.specs.declared.tree_equality.heads.Seen.{Seen}

-- tokens that are no fixed ones
pub data WordsSyntax : Type 0 where
  Value : Symbol → WordsSyntax
  Single : Option Symbol → WordsSyntax
  Several : List Symbol → WordsSyntax
  Declared : List Symbol → Option Symbol → WordsSyntax

-- trees below a tree; a list comes last
pub data BranchesSyntax : Type 0 where
  Two : MaybeSyntax → MaybeSyntax → BranchesSyntax
  Four : MaybeSyntax → MaybeSyntax → MaybeSyntax → MaybeSyntax → BranchesSyntax
  Listed : MaybeSyntax → Syntaxes → BranchesSyntax

pub data LevelSyntax : Type 0 where
  level : Head → WordsSyntax → BranchesSyntax → LevelSyntax

abbrev pub primary_level : PrimarySyntax → LevelSyntax
primary_level (Ident name) = level (head.Plain form.Ident) (Single (Some name)) (Two absent absent)
primary_level (Constant token) = level (head.Plain form.Constant) (Value token) (Two absent absent)
primary_level (StrConst literals) = level (head.Plain form.StrConst) (Several literals) (Two absent absent)
primary_level (Paren inner) = level (head.Plain form.Paren) (Single None) (Two (present inner) absent)
primary_level (VaArg list of) = level (head.Plain form.VaArg) (Single None) (Two (present list) (present of))
primary_level (Offsetof of member path) = level (head.Plain form.Offsetof) (Single (Some member)) (Listed (present of) path)
primary_level (Hole number) = level (head.Hole number) (Single None) (Two absent absent)

abbrev pub operation_level : OperationSyntax → LevelSyntax
operation_level (Index array index) = level (head.Plain form.Index) (Single None) (Two (present array) (present index))
operation_level (Call callee arguments) = level (head.Plain form.Call) (Single None) (Listed (present callee) arguments)
operation_level (Member operand member) = level (head.Plain form.Member) (Single (Some member)) (Two (present operand) absent)
operation_level (Arrow operand member) = level (head.Plain form.Arrow) (Single (Some member)) (Two (present operand) absent)
operation_level (CompoundLit of braces) = level (head.Plain form.CompoundLit) (Single None) (Two (present of) (present braces))
operation_level (Unary op operand) = level (head.Unary op) (Single None) (Two (present operand) absent)
operation_level (SizeofType of) = level (head.Plain form.SizeofType) (Single None) (Two (present of) absent)
operation_level (Cast to operand) = level (head.Plain form.Cast) (Single None) (Two (present to) (present operand))
operation_level (Binary op left right) = level (head.Binary op) (Single None) (Two (present left) (present right))
operation_level (Cond condition then otherwise) = level (head.Plain form.Cond) (Single None) (Four (present condition) (present then) (present otherwise) absent)
operation_level (Assign op left right) = level (head.Assign op) (Single None) (Two (present left) (present right))

abbrev pub initializer_level : InitializerSyntax → LevelSyntax
initializer_level (Init name declarator initial) = level (head.Plain form.Init) (Single None) (Four (present name) (present declarator) (present initial) absent)
initializer_level (Braces elements comma) = level (head.Braces comma) (Single None) (Listed absent elements)
initializer_level (Designated designators initial) = level (head.Plain form.Designated) (Single None) (Listed (present initial) designators)

abbrev pub specifier_level : SpecifierSyntax → LevelSyntax
specifier_level (TypeName specs declarator) = level (head.Plain form.TypeName) (Single None) (Two (present specs) declarator)
specifier_level (Specs items) = level (head.Plain form.Specs) (Single None) (Listed absent items)
specifier_level (StructTag which tag) = level (head.StructTag which) (Single (Some tag)) (Two absent absent)
specifier_level (StructBody which tag members) = level (head.StructBody which) (Single tag) (Listed absent members)
specifier_level (EnumTag tag) = level (head.Plain form.EnumTag) (Single (Some tag)) (Two absent absent)
specifier_level (EnumBody tag enumerators comma) = level (head.EnumBody comma) (Single tag) (Listed absent enumerators)
specifier_level (StructDeclaration specs declarators) = level (head.Plain form.StructDeclaration) (Single None) (Listed (present specs) declarators)
specifier_level (BitField declarator width) = level (head.Plain form.BitField) (Single None) (Two declarator (present width))
specifier_level (Param specs declarator) = level (head.Plain form.Param) (Single None) (Two (present specs) declarator)

abbrev pub declarator_level : DeclaratorSyntax → LevelSyntax
declarator_level (Named pointers name suffixes) = level (head.Plain form.Named) (Declared pointers (Some name)) (Listed absent suffixes)
declarator_level (Nested pointers inner suffixes) = level (head.Plain form.Nested) (Declared pointers None) (Listed (present inner) suffixes)
declarator_level (Unnamed pointers suffixes) = level (head.Plain form.Unnamed) (Declared pointers None) (Listed absent suffixes)

abbrev pub part_level : PartSyntax → LevelSyntax
part_level (SpecWord word) = level (head.Plain form.SpecWord) (Single (Some word)) (Two absent absent)
part_level (ArrayBound words bound) = level (head.Plain form.ArrayBound) (Several words) (Two bound absent)
part_level VoidParams = level (head.Plain form.VoidParams) (Single None) (Two absent absent)
part_level (Params params variadic) = level (head.Params variadic) (Single None) (Listed absent params)
part_level (Enumerator name value) = level (head.Plain form.Enumerator) (Single (Some name)) (Two value absent)
part_level (MemberDesignator member) = level (head.Plain form.MemberDesignator) (Single (Some member)) (Two absent absent)
part_level (IndexDesignator index) = level (head.Plain form.IndexDesignator) (Single None) (Two (present index) absent)

abbrev pub outer_level : OuterSyntax → LevelSyntax
outer_level (Declaration specs declarators) = level (head.Plain form.Declaration) (Single None) (Listed (present specs) declarators)
outer_level (Function specs declarator body) = level (head.Plain form.Function) (Single None) (Four (present specs) (present declarator) (present body) absent)
outer_level Empty = level (head.Plain form.Empty) (Single None) (Two absent absent)

abbrev pub statement_level : StatementSyntax → LevelSyntax
statement_level (Block items) = level (head.Plain form.Block) (Single None) (Listed absent items)
statement_level (ExprStmt value) = level (head.Plain form.ExprStmt) (Single None) (Two value absent)
statement_level (If condition then otherwise) = level (head.Plain form.If) (Single None) (Four (present condition) (present then) otherwise absent)
statement_level (Switch value body) = level (head.Plain form.Switch) (Single None) (Two (present value) (present body))
statement_level (Case value body) = level (head.Plain form.Case) (Single None) (Two (present value) (present body))
statement_level (Default body) = level (head.Plain form.Default) (Single None) (Two (present body) absent)
statement_level (Label label body) = level (head.Plain form.Label) (Single (Some label)) (Two (present body) absent)

abbrev pub iteration_level : IterationSyntax → LevelSyntax
iteration_level (While condition body) = level (head.Plain form.While) (Single None) (Two (present condition) (present body))
iteration_level (Do body condition) = level (head.Plain form.Do) (Single None) (Two (present body) (present condition))
iteration_level (For first condition step body) = level (head.Plain form.For) (Single None) (Four first condition step (present body))
iteration_level (ForDeclaration declaration condition step body) = level (head.Plain form.ForDeclaration) (Single None) (Four (present declaration) condition step (present body))

abbrev pub jump_level : JumpSyntax → LevelSyntax
jump_level (Goto label) = level (head.Plain form.Goto) (Single (Some label)) (Two absent absent)
jump_level Continue = level (head.Plain form.Continue) (Single None) (Two absent absent)
jump_level Break = level (head.Plain form.Break) (Single None) (Two absent absent)
jump_level (Return value) = level (head.Plain form.Return) (Single None) (Two value absent)

abbrev pub level_of : Syntax → LevelSyntax
level_of (Primary k) = primary_level k
level_of (Operation k) = operation_level k
level_of (Initializer k) = initializer_level k
level_of (Specifier k) = specifier_level k
level_of (Declarator k) = declarator_level k
level_of (Part k) = part_level k
level_of (Outer k) = outer_level k
level_of (Statement k) = statement_level k
level_of (Iteration k) = iteration_level k
level_of (Jump k) = jump_level k

abbrev pub words_view : Words → WordsSyntax
words_view (words.Value token) = Value (symbol_of token.now)
words_view (words.Single token) = Single (option_map symbol_of (maybe_token token))
words_view (words.Several tokens) = Several (symbols_of tokens.now)
words_view (words.Declared pointers name) = Declared (symbols_of pointers.now) (option_map symbol_of (maybe_token name))

abbrev pub branches_view : Branches → BranchesSyntax
branches_view (branches.Two first second) = Two (maybe_view first) (maybe_view second)
branches_view (branches.Four first second third fourth) = Four (maybe_view first) (maybe_view second) (maybe_view third) (maybe_view fourth)
branches_view (branches.Listed first list) = Listed (maybe_view first) (list_view list)

abbrev pub level_view : Level → LevelSyntax
level_view l = level l.head (words_view l.words) (branches_view l.branches)

-- what `->` is read as
abbrev pub pointed_member : Syntax → Symbol → Syntax
pointed_member pointer member = Operation (Member (pointed_to pointer) member)

abbrev pub seen : Seeing → Syntax → Syntax
seen seeing.AsWritten s = s
seen seeing.AsRead s = compared s
seen seeing.PointedTo s = pointed_to (compared s)

abbrev pub seen_constant : Seeing → Symbol → Symbol
seen_constant seeing.AsWritten s = s
seen_constant seeing.AsRead s = compared_constant s
seen_constant seeing.PointedTo s = s

abbrev pub seen_maybe : Seeing → MaybeSyntax → MaybeSyntax
seen_maybe how absent = absent
seen_maybe how (present s) = present (seen how s)

abbrev pub seen_all : Seeing → Syntaxes → Syntaxes
seen_all how no_more = no_more
seen_all how (more s ss) = more (seen how s) (seen_all how ss)

abbrev pub seen_words : Seeing → WordsSyntax → WordsSyntax
seen_words how (Value s) = Value (seen_constant how s)
seen_words how (Single s) = Single s
seen_words how (Several ss) = Several ss
seen_words how (Declared ss s) = Declared ss s

abbrev pub seen_branches : Seeing → BranchesSyntax → BranchesSyntax
seen_branches how (Two a b) = Two (seen_maybe how a) (seen_maybe how b)
seen_branches how (Four a b c d) = Four (seen_maybe how a) (seen_maybe how b) (seen_maybe how c) (seen_maybe how d)
seen_branches how (Listed a es) = Listed (seen_maybe how a) (seen_all how es)

-- a level as it is seen
abbrev pub seen_parts : Seeing → LevelSyntax → LevelSyntax
seen_parts how (level h w b) = level h (seen_words how w) (seen_branches how b)

abbrev pub seen_level : Seen → LevelSyntax
seen_level x = seen_parts x.how (level_view x.level)

-- whether C reads a tree as it is written, but for the trees below it and integer constants
abbrev pub is_plain : Syntax → Bool
is_plain (Primary (Paren _)) = false
is_plain (Operation (Arrow _ _)) = false
is_plain (Initializer (Init _ _ _)) = false
is_plain (Specifier (TypeName _ _)) = false
is_plain _ = true
