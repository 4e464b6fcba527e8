-- A tree is known by its level: it is rebuilt from its head and its parts.
use Rattle.std.proofs.Common.{◌≡◌, List, [], Bool, Option, None, Some, ap, refl, ◌∙◌, sym, IsTrue}
use Rattle.c_tree.specs.Symbol.{Symbol, Word}
use Rattle.c_tree.specs.Syntax.{Syntax, Primary, Operation, Initializer, Specifier, Declarator, Part, Outer, Statement, Iteration, Jump, PrimarySyntax, OperationSyntax, InitializerSyntax, SpecifierSyntax, DeclaratorSyntax, PartSyntax, OuterSyntax, StatementSyntax, IterationSyntax, JumpSyntax, Ident, Constant, StrConst, Paren, VaArg, Offsetof, Hole, Index, Call, Member, Arrow, CompoundLit, Unary, SizeofType, Cast, Binary, Cond, Assign, Init, Braces, Designated, TypeName, Specs, StructTag, StructBody, EnumTag, EnumBody, StructDeclaration, BitField, Param, Named, Nested, Unnamed, SpecWord, ArrayBound, VoidParams, Params, Enumerator, MemberDesignator, IndexDesignator, Declaration, Function, Empty, Block, ExprStmt, If, Switch, Case, Default, Label, While, Do, For, ForDeclaration, Goto, Continue, Break, Return, MaybeSyntax, absent, present, Syntaxes, no_more, more}
use Rattle.tree_laws.specs.declared.tree_equality.heads.Form.{Form}
use Rattle.tree_laws.specs.declared.tree_equality.heads.Form.TheVariants as form
use Rattle.tree_laws.specs.declared.tree_equality.heads.Head.{Head}
use Rattle.tree_laws.specs.declared.tree_equality.heads.Head.TheVariants as head
use Rattle.tree_laws.specs.TreeEquality.Levels.{WordsSyntax, Value, Single, Several, Declared, BranchesSyntax, Two, Four, Listed, LevelSyntax, level, level_of, primary_level, operation_level, initializer_level, specifier_level, declarator_level, part_level, outer_level, statement_level, iteration_level, jump_level}

abbrev whole : MaybeSyntax → Syntax
whole absent = Outer Empty
whole (present s) = s

abbrev given : Option Symbol → Symbol
given None = Word 0
given (Some s) = s

abbrev value_in : WordsSyntax → Symbol
value_in (Value s) = s
value_in _ = Word 0

abbrev token_in : WordsSyntax → Option Symbol
token_in (Single s) = s
token_in (Declared _ s) = s
token_in _ = None

abbrev words_in : WordsSyntax → List Symbol
words_in (Several ss) = ss
words_in (Declared ss _) = ss
words_in _ = []

abbrev first_in : BranchesSyntax → MaybeSyntax
first_in (Two a _) = a
first_in (Four a _ _ _) = a
first_in (Listed a _) = a

abbrev second_in : BranchesSyntax → MaybeSyntax
second_in (Two _ b) = b
second_in (Four _ b _ _) = b
second_in _ = absent

abbrev third_in : BranchesSyntax → MaybeSyntax
third_in (Four _ _ c _) = c
third_in _ = absent

abbrev fourth_in : BranchesSyntax → MaybeSyntax
fourth_in (Four _ _ _ d) = d
fourth_in _ = absent

abbrev list_in : BranchesSyntax → Syntaxes
list_in (Listed _ es) = es
list_in _ = no_more

abbrev plain : Form → WordsSyntax → BranchesSyntax → Syntax
plain form.Ident w b = Primary (Ident (given (token_in w)))
plain form.Constant w b = Primary (Constant (value_in w))
plain form.StrConst w b = Primary (StrConst (words_in w))
plain form.Paren w b = Primary (Paren (whole (first_in b)))
plain form.VaArg w b = Primary (VaArg (whole (first_in b)) (whole (second_in b)))
plain form.Offsetof w b = Primary (Offsetof (whole (first_in b)) (given (token_in w)) (list_in b))
plain form.Index w b = Operation (Index (whole (first_in b)) (whole (second_in b)))
plain form.Call w b = Operation (Call (whole (first_in b)) (list_in b))
plain form.Member w b = Operation (Member (whole (first_in b)) (given (token_in w)))
plain form.Arrow w b = Operation (Arrow (whole (first_in b)) (given (token_in w)))
plain form.CompoundLit w b = Operation (CompoundLit (whole (first_in b)) (whole (second_in b)))
plain form.SizeofType w b = Operation (SizeofType (whole (first_in b)))
plain form.Cast w b = Operation (Cast (whole (first_in b)) (whole (second_in b)))
plain form.Cond w b = Operation (Cond (whole (first_in b)) (whole (second_in b)) (whole (third_in b)))
plain form.Init w b = Initializer (Init (whole (first_in b)) (whole (second_in b)) (whole (third_in b)))
plain form.Designated w b = Initializer (Designated (list_in b) (whole (first_in b)))
plain form.TypeName w b = Specifier (TypeName (whole (first_in b)) (second_in b))
plain form.Specs w b = Specifier (Specs (list_in b))
plain form.EnumTag w b = Specifier (EnumTag (given (token_in w)))
plain form.StructDeclaration w b = Specifier (StructDeclaration (whole (first_in b)) (list_in b))
plain form.BitField w b = Specifier (BitField (first_in b) (whole (second_in b)))
plain form.Param w b = Specifier (Param (whole (first_in b)) (second_in b))
plain form.Named w b = Declarator (Named (words_in w) (given (token_in w)) (list_in b))
plain form.Nested w b = Declarator (Nested (words_in w) (whole (first_in b)) (list_in b))
plain form.Unnamed w b = Declarator (Unnamed (words_in w) (list_in b))
plain form.SpecWord w b = Part (SpecWord (given (token_in w)))
plain form.ArrayBound w b = Part (ArrayBound (words_in w) (first_in b))
plain form.VoidParams w b = Part VoidParams
plain form.Enumerator w b = Part (Enumerator (given (token_in w)) (first_in b))
plain form.MemberDesignator w b = Part (MemberDesignator (given (token_in w)))
plain form.IndexDesignator w b = Part (IndexDesignator (whole (first_in b)))
plain form.Declaration w b = Outer (Declaration (whole (first_in b)) (list_in b))
plain form.Function w b = Outer (Function (whole (first_in b)) (whole (second_in b)) (whole (third_in b)))
plain form.Empty w b = Outer Empty
plain form.Block w b = Statement (Block (list_in b))
plain form.ExprStmt w b = Statement (ExprStmt (first_in b))
plain form.If w b = Statement (If (whole (first_in b)) (whole (second_in b)) (third_in b))
plain form.Switch w b = Statement (Switch (whole (first_in b)) (whole (second_in b)))
plain form.Case w b = Statement (Case (whole (first_in b)) (whole (second_in b)))
plain form.Default w b = Statement (Default (whole (first_in b)))
plain form.Label w b = Statement (Label (given (token_in w)) (whole (first_in b)))
plain form.While w b = Iteration (While (whole (first_in b)) (whole (second_in b)))
plain form.Do w b = Iteration (Do (whole (first_in b)) (whole (second_in b)))
plain form.For w b = Iteration (For (first_in b) (second_in b) (third_in b) (whole (fourth_in b)))
plain form.ForDeclaration w b = Iteration (ForDeclaration (whole (first_in b)) (second_in b) (third_in b) (whole (fourth_in b)))
plain form.Goto w b = Jump (Goto (given (token_in w)))
plain form.Continue w b = Jump Continue
plain form.Break w b = Jump Break
plain form.Return w b = Jump (Return (first_in b))

abbrev headed : Head → WordsSyntax → BranchesSyntax → Syntax
headed (head.Plain f) w b = plain f w b
headed (head.Hole number) w b = Primary (Hole number)
headed (head.Unary op) w b = Operation (Unary op (whole (first_in b)))
headed (head.Binary op) w b = Operation (Binary op (whole (first_in b)) (whole (second_in b)))
headed (head.Assign op) w b = Operation (Assign op (whole (first_in b)) (whole (second_in b)))
headed (head.Braces comma) w b = Initializer (Braces (list_in b) comma)
headed (head.StructTag which) w b = Specifier (StructTag which (given (token_in w)))
headed (head.StructBody which) w b = Specifier (StructBody which (token_in w) (list_in b))
headed (head.EnumBody comma) w b = Specifier (EnumBody (token_in w) (list_in b) comma)
headed (head.Params variadic) w b = Part (Params (list_in b) variadic)

abbrev rebuilt : LevelSyntax → Syntax
rebuilt (level h w b) = headed h w b

primary-rebuilt : (k : PrimarySyntax) → rebuilt (primary_level k) ≡ Primary k
primary-rebuilt (Ident _) = refl
primary-rebuilt (Constant _) = refl
primary-rebuilt (StrConst _) = refl
primary-rebuilt (Paren _) = refl
primary-rebuilt (VaArg _ _) = refl
primary-rebuilt (Offsetof _ _ _) = refl
primary-rebuilt (Hole _) = refl

operation-rebuilt : (k : OperationSyntax) → rebuilt (operation_level k) ≡ Operation k
operation-rebuilt (Index _ _) = refl
operation-rebuilt (Call _ _) = refl
operation-rebuilt (Member _ _) = refl
operation-rebuilt (Arrow _ _) = refl
operation-rebuilt (CompoundLit _ _) = refl
operation-rebuilt (Unary _ _) = refl
operation-rebuilt (SizeofType _) = refl
operation-rebuilt (Cast _ _) = refl
operation-rebuilt (Binary _ _ _) = refl
operation-rebuilt (Cond _ _ _) = refl
operation-rebuilt (Assign _ _ _) = refl

initializer-rebuilt : (k : InitializerSyntax) → rebuilt (initializer_level k) ≡ Initializer k
initializer-rebuilt (Init _ _ _) = refl
initializer-rebuilt (Braces _ _) = refl
initializer-rebuilt (Designated _ _) = refl

specifier-rebuilt : (k : SpecifierSyntax) → rebuilt (specifier_level k) ≡ Specifier k
specifier-rebuilt (TypeName _ _) = refl
specifier-rebuilt (Specs _) = refl
specifier-rebuilt (StructTag _ _) = refl
specifier-rebuilt (StructBody _ _ _) = refl
specifier-rebuilt (EnumTag _) = refl
specifier-rebuilt (EnumBody _ _ _) = refl
specifier-rebuilt (StructDeclaration _ _) = refl
specifier-rebuilt (BitField _ _) = refl
specifier-rebuilt (Param _ _) = refl

declarator-rebuilt : (k : DeclaratorSyntax) → rebuilt (declarator_level k) ≡ Declarator k
declarator-rebuilt (Named _ _ _) = refl
declarator-rebuilt (Nested _ _ _) = refl
declarator-rebuilt (Unnamed _ _) = refl

part-rebuilt : (k : PartSyntax) → rebuilt (part_level k) ≡ Part k
part-rebuilt (SpecWord _) = refl
part-rebuilt (ArrayBound _ _) = refl
part-rebuilt VoidParams = refl
part-rebuilt (Params _ _) = refl
part-rebuilt (Enumerator _ _) = refl
part-rebuilt (MemberDesignator _) = refl
part-rebuilt (IndexDesignator _) = refl

outer-rebuilt : (k : OuterSyntax) → rebuilt (outer_level k) ≡ Outer k
outer-rebuilt (Declaration _ _) = refl
outer-rebuilt (Function _ _ _) = refl
outer-rebuilt Empty = refl

statement-rebuilt : (k : StatementSyntax) → rebuilt (statement_level k) ≡ Statement k
statement-rebuilt (Block _) = refl
statement-rebuilt (ExprStmt _) = refl
statement-rebuilt (If _ _ _) = refl
statement-rebuilt (Switch _ _) = refl
statement-rebuilt (Case _ _) = refl
statement-rebuilt (Default _) = refl
statement-rebuilt (Label _ _) = refl

iteration-rebuilt : (k : IterationSyntax) → rebuilt (iteration_level k) ≡ Iteration k
iteration-rebuilt (While _ _) = refl
iteration-rebuilt (Do _ _) = refl
iteration-rebuilt (For _ _ _ _) = refl
iteration-rebuilt (ForDeclaration _ _ _ _) = refl

jump-rebuilt : (k : JumpSyntax) → rebuilt (jump_level k) ≡ Jump k
jump-rebuilt (Goto _) = refl
jump-rebuilt Continue = refl
jump-rebuilt Break = refl
jump-rebuilt (Return _) = refl

level-rebuilt : (s : Syntax) → rebuilt (level_of s) ≡ s
level-rebuilt (Primary k) = primary-rebuilt k
level-rebuilt (Operation k) = operation-rebuilt k
level-rebuilt (Initializer k) = initializer-rebuilt k
level-rebuilt (Specifier k) = specifier-rebuilt k
level-rebuilt (Declarator k) = declarator-rebuilt k
level-rebuilt (Part k) = part-rebuilt k
level-rebuilt (Outer k) = outer-rebuilt k
level-rebuilt (Statement k) = statement-rebuilt k
level-rebuilt (Iteration k) = iteration-rebuilt k
level-rebuilt (Jump k) = jump-rebuilt k

same_levels : (s t : Syntax) → level_of s ≡ level_of t → s ≡ t
same_levels s t h = sym (level-rebuilt s) ∙ ap rebuilt h ∙ level-rebuilt t

-- equal levels decide of equal trees
pub decided : (b : Bool) (x y : LevelSyntax) (s t : Syntax) → x ≡ level_of s → y ≡ level_of t → (IsTrue b → x ≡ y) × (x ≡ y → IsTrue b) → (IsTrue b → s ≡ t) × (s ≡ t → IsTrue b)
decided b x y s t e f h = (λ r. same_levels s t (sym e ∙ h.0 r ∙ f), λ q. h.1 (e ∙ ap level_of q ∙ sym f))
