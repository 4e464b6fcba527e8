-- The levels of trees that are seen as they are written, or as C reads them.
use Rattle.std.proofs.Common.{◌≡◌, ◌<◌, ◌+◌, ◌*◌, ℕ, List, [], ◌∷◌, length, get_or, arith, true, false, ap, refl, ◌∙◌, sym, IsTrue}
use Rattle.c_tree.specs.Syntax.{Syntax, Primary, Operation, Initializer, Specifier, Declarator, Part, Outer, Statement, Iteration, Jump, PrimarySyntax, OperationSyntax, InitializerSyntax, SpecifierSyntax, DeclaratorSyntax, PartSyntax, OuterSyntax, StatementSyntax, IterationSyntax, JumpSyntax, Ident, Constant, StrConst, Paren, VaArg, Offsetof, Hole, Index, Call, Member, Arrow, CompoundLit, Unary, SizeofType, Cast, Binary, Cond, Assign, Init, Braces, Designated, TypeName, Specs, StructTag, StructBody, EnumTag, EnumBody, StructDeclaration, BitField, Param, Named, Nested, Unnamed, SpecWord, ArrayBound, VoidParams, Params, Enumerator, MemberDesignator, IndexDesignator, Declaration, Function, Empty, Block, ExprStmt, If, Switch, Case, Default, Label, While, Do, For, ForDeclaration, Goto, Continue, Break, Return, MaybeSyntax, absent, present, Syntaxes, no_more, more}
use Rattle.c_tree.specs.declared.tree.Tree.{Tree}
use Rattle.c_tree.specs.declared.tree.Trees.{Trees, out-Trees}
use Rattle.c_tree.specs.Forget.{syntaxes_of, list_view, view, view_all}
use Rattle.c_tree.specs.Compared.{compared, compared_maybe, compared_all, compared_constant, compared_primary, compared_operation, compared_initializer, compared_specifier, compared_declarator, compared_part, compared_outer, compared_statement, compared_iteration, compared_jump}
use Rattle.c_tree.proofs.Rows.{nodes_out}
use Rattle.tree_laws.proofs.TreeEquality.Sizes.{all_size, item_less, size}
use Rattle.tree_laws.specs.declared.tree_equality.heads.Seeing.{Seeing}
use Rattle.tree_laws.specs.declared.tree_equality.heads.Seeing.TheVariants as seeing
use Rattle.tree_laws.specs.TreeEquality.Levels.{seen, WordsSyntax, Value, Single, Several, Declared, BranchesSyntax, Two, Four, Listed, LevelSyntax, level, level_of, seen_maybe, seen_all, seen_words, seen_branches, seen_parts, is_plain, primary_level, operation_level, initializer_level, specifier_level, declarator_level, part_level, outer_level, statement_level, iteration_level, jump_level}

maybe_written : (e : MaybeSyntax) → seen_maybe seeing.AsWritten e ≡ e
maybe_written absent = refl
maybe_written (present s) = refl

all_written : (es : Syntaxes) → seen_all seeing.AsWritten es ≡ es
all_written no_more = refl
all_written (more s ss) = ap (more s) (all_written ss)

words_written : (w : WordsSyntax) → seen_words seeing.AsWritten w ≡ w
words_written (Value s) = refl
words_written (Single s) = refl
words_written (Several ss) = refl
words_written (Declared ss s) = refl

branches_written : (b : BranchesSyntax) → seen_branches seeing.AsWritten b ≡ b
branches_written (Two a b) = rw (maybe_written a, maybe_written b) refl
branches_written (Four a b c d) = rw (maybe_written a, maybe_written b, maybe_written c, maybe_written d) refl
branches_written (Listed a es) = rw (maybe_written a, all_written es) refl

-- what is seen as it is written stays
pub parts_written : (l : LevelSyntax) → seen_parts seeing.AsWritten l ≡ l
parts_written (level h w b) = rw (words_written w, branches_written b) refl

maybe_read : (e : MaybeSyntax) → seen_maybe seeing.AsRead e ≡ compared_maybe e
maybe_read absent = refl
maybe_read (present s) = refl

all_read : (es : Syntaxes) → seen_all seeing.AsRead es ≡ compared_all es
all_read no_more = refl
all_read (more s ss) = ap (more (compared s)) (all_read ss)

abbrev read_words : WordsSyntax → WordsSyntax
read_words (Value s) = Value (compared_constant s)
read_words (Single s) = Single s
read_words (Several ss) = Several ss
read_words (Declared ss s) = Declared ss s

abbrev read_branches : BranchesSyntax → BranchesSyntax
read_branches (Two a b) = Two (compared_maybe a) (compared_maybe b)
read_branches (Four a b c d) = Four (compared_maybe a) (compared_maybe b) (compared_maybe c) (compared_maybe d)
read_branches (Listed a es) = Listed (compared_maybe a) (compared_all es)

abbrev read_parts : LevelSyntax → LevelSyntax
read_parts (level h w b) = level h (read_words w) (read_branches b)

words_read : (w : WordsSyntax) → seen_words seeing.AsRead w ≡ read_words w
words_read (Value s) = refl
words_read (Single s) = refl
words_read (Several ss) = refl
words_read (Declared ss s) = refl

branches_read : (b : BranchesSyntax) → seen_branches seeing.AsRead b ≡ read_branches b
branches_read (Two a b) = rw (maybe_read a, maybe_read b) refl
branches_read (Four a b c d) = rw (maybe_read a, maybe_read b, maybe_read c, maybe_read d) refl
branches_read (Listed a es) = rw (maybe_read a, all_read es) refl

parts_read : (l : LevelSyntax) → seen_parts seeing.AsRead l ≡ read_parts l
parts_read (level h w b) = rw (words_read w, branches_read b) refl

primary-read : (k : PrimarySyntax) → is_plain (Primary k) ≡ true → read_parts (primary_level k) ≡ level_of (compared (Primary k))
primary-read (Ident _) h = refl
primary-read (Constant _) h = refl
primary-read (StrConst _) h = refl
primary-read (Paren _) h = cc
primary-read (VaArg _ _) h = refl
primary-read (Offsetof _ _ _) h = refl
primary-read (Hole _) h = refl

operation-read : (k : OperationSyntax) → is_plain (Operation k) ≡ true → read_parts (operation_level k) ≡ level_of (compared (Operation k))
operation-read (Index _ _) h = refl
operation-read (Call _ _) h = refl
operation-read (Member _ _) h = refl
operation-read (Arrow _ _) h = cc
operation-read (CompoundLit _ _) h = refl
operation-read (Unary _ _) h = refl
operation-read (SizeofType _) h = refl
operation-read (Cast _ _) h = refl
operation-read (Binary _ _ _) h = refl
operation-read (Cond _ _ _) h = refl
operation-read (Assign _ _ _) h = refl

initializer-read : (k : InitializerSyntax) → is_plain (Initializer k) ≡ true → read_parts (initializer_level k) ≡ level_of (compared (Initializer k))
initializer-read (Init _ _ _) h = cc
initializer-read (Braces _ _) h = refl
initializer-read (Designated _ _) h = refl

specifier-read : (k : SpecifierSyntax) → is_plain (Specifier k) ≡ true → read_parts (specifier_level k) ≡ level_of (compared (Specifier k))
specifier-read (TypeName _ _) h = cc
specifier-read (Specs _) h = refl
specifier-read (StructTag _ _) h = refl
specifier-read (StructBody _ _ _) h = refl
specifier-read (EnumTag _) h = refl
specifier-read (EnumBody _ _ _) h = refl
specifier-read (StructDeclaration _ _) h = refl
specifier-read (BitField _ _) h = refl
specifier-read (Param _ _) h = refl

declarator-read : (k : DeclaratorSyntax) → read_parts (declarator_level k) ≡ level_of (compared (Declarator k))
declarator-read (Named _ _ _) = refl
declarator-read (Nested _ _ _) = refl
declarator-read (Unnamed _ _) = refl

part-read : (k : PartSyntax) → read_parts (part_level k) ≡ level_of (compared (Part k))
part-read (SpecWord _) = refl
part-read (ArrayBound _ _) = refl
part-read VoidParams = refl
part-read (Params _ _) = refl
part-read (Enumerator _ _) = refl
part-read (MemberDesignator _) = refl
part-read (IndexDesignator _) = refl

outer-read : (k : OuterSyntax) → read_parts (outer_level k) ≡ level_of (compared (Outer k))
outer-read (Declaration _ _) = refl
outer-read (Function _ _ _) = refl
outer-read Empty = refl

statement-read : (k : StatementSyntax) → read_parts (statement_level k) ≡ level_of (compared (Statement k))
statement-read (Block _) = refl
statement-read (ExprStmt _) = refl
statement-read (If _ _ _) = refl
statement-read (Switch _ _) = refl
statement-read (Case _ _) = refl
statement-read (Default _) = refl
statement-read (Label _ _) = refl

iteration-read : (k : IterationSyntax) → read_parts (iteration_level k) ≡ level_of (compared (Iteration k))
iteration-read (While _ _) = refl
iteration-read (Do _ _) = refl
iteration-read (For _ _ _ _) = refl
iteration-read (ForDeclaration _ _ _ _) = refl

jump-read : (k : JumpSyntax) → read_parts (jump_level k) ≡ level_of (compared (Jump k))
jump-read (Goto _) = refl
jump-read Continue = refl
jump-read Break = refl
jump-read (Return _) = refl

level-read : (s : Syntax) → is_plain s ≡ true → read_parts (level_of s) ≡ level_of (compared s)
level-read (Primary k) h = primary-read k h
level-read (Operation k) h = operation-read k h
level-read (Initializer k) h = initializer-read k h
level-read (Specifier k) h = specifier-read k h
level-read (Declarator k) h = declarator-read k
level-read (Part k) h = part-read k
level-read (Outer k) h = outer-read k
level-read (Statement k) h = statement-read k
level-read (Iteration k) h = iteration-read k
level-read (Jump k) h = jump-read k

-- what C reads as it is written, but for the trees below it
pub plain_read : (l : LevelSyntax) (s : Syntax) → is_plain s ≡ true → l ≡ level_of s → seen_parts seeing.AsRead l ≡ level_of (compared s)
plain_read l s h e = ap (seen_parts seeing.AsRead) e ∙ parts_read (level_of s) ∙ level-read s h

seen_length : (how other : Seeing) (xs ys : List Tree) → seen_all how (view_all xs) ≡ seen_all other (view_all ys) → length xs ≡ length ys
seen_length how other [] [] h = refl
seen_length how other [] (y ∷ ys) h = cc
seen_length how other (x ∷ xs) [] h = cc
seen_length how other (x ∷ xs) (y ∷ ys) h = let e : seen_all how (view_all xs) ≡ seen_all other (view_all ys) = cc in let k = seen_length how other xs ys e in cc

pub list_out : (how : Seeing) (x : Trees) → seen_all how (list_view x) ≡ seen_all how (view_all (out-Trees x).all.now)
list_out how x = ap (λ ns. seen_all how (syntaxes_of ns)) (nodes_out x)

-- lists of trees of different lengths
pub seen_differ : (how other : Seeing) (a b : Trees) → (length (out-Trees a).all.now ≡ length (out-Trees b).all.now → ⊥) → (IsTrue false → seen_all how (list_view a) ≡ seen_all other (list_view b)) × (seen_all how (list_view a) ≡ seen_all other (list_view b) → IsTrue false)
seen_differ how other a b h = (λ f. cc f, λ e. absurd (h (seen_length how other _ _ (sym (list_out how a) ∙ e ∙ list_out other b))))

-- a tree of a list is smaller than the list
pub listed_less : (how : Seeing) (x : Trees) (d : Tree) (i : ℕ) → i < length (out-Trees x).all.now → 4 * size (seen how (view (get_or (out-Trees x).all.now i d))) < 4 * all_size (seen_all how (list_view x)) + 1
listed_less how x d i h =
    let less = item_less how d (out-Trees x).all.now i h in
    let same = ap all_size (list_out how x) in
    omega (arith, less, same)
