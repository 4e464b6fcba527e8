-- What a tree begins with.
use Rattle.std.proofs.Common.{◌≡◌, ℕ, ◌<◌, ◌≤◌, Bool, true, false, cond, not, ◌&&◌, ◌||◌, nat_le, List, [], ◌∷◌, Option, None, Some, ap, refl, arith}
use Rattle.c_tree.specs.declared.keyword.Keyword.{Keyword}
use Rattle.c_tree.specs.declared.keyword.Keyword.TheVariants as words
use Rattle.c_tree.specs.declared.operator.BinaryOp.{BinaryOp}
use Rattle.c_tree.specs.declared.operator.BinaryOp.TheVariants as binary
use Rattle.c_tree.specs.declared.operator.UnaryOp.{UnaryOp}
use Rattle.c_tree.specs.declared.operator.UnaryOp.TheVariants as unary
use Rattle.c_tree.specs.declared.punctuator.Punctuator.{Punctuator}
use Rattle.c_tree.specs.declared.punctuator.Punctuator.TheVariants as marks
use Rattle.c_tree.specs.Codes.{punctuator_code}
use Rattle.c_tree.specs.Symbol.{Symbol, Word, Reserved, Sign, IntLiteral, FloatLiteral, CharLiteral, StringLiteral}
use Rattle.c_tree.specs.Syntax.{Syntax, Primary, Operation, Specifier, Declarator, Part, Ident, Constant, StrConst, Paren, VaArg, Offsetof, Index, Call, Member, Arrow, Unary, SizeofType, Cast, Binary, Cond, Assign, TypeName, Param, Named, Nested, Unnamed, ArrayBound, VoidParams, Params, no_more, more}
use Rattle.c_tree.specs.Phrase.{phrase_then}
use Rattle.c_tree.specs.Tokens.{maybe_phrase, tokens_then}
use Rattle.c_grammar.specs.Symbols.{is_sign, is_keyword, is_word, after_sign, after_keyword, begins}
use Rattle.c_grammar.specs.Levels.{postfix_level, unary_level, grade, prefix_of, level_of}
use Rattle.c_grammar.specs.Names.{Names, is_type}
use Rattle.c_grammar.specs.Specifiers.{InTypeName, InParam, begins_specifiers, goes_on}
use Rattle.c_grammar.specs.Nonterminal.{Form, WithName, Abstract, Either, may_name, may_omit}
use Rattle.c_grammar.specs.Grammar.{IsExpr, IsTypeName, IsDeclarator, IsParam, is_bound_word, is_taken_as_type}
use Rattle.c_grammar.specs.Found.{◌>>=◌}
use Rattle.c_grammar.specs.Ways.DeclaratorSteps.{begins_suffix, begins_declarator, begins_params}
use Rattle.c_grammar.specs.Ways.ExpressionSteps.{take_prefix, after_type_paren}
use Rattle.c_grammar.proofs.Front.{after_none}
use Rattle.c_grammar.proofs.CompleteSpecifiers.{specifiers_begin}

-- what begins with the one doesn't begin with the other
pub differ : (p q : Symbol → Bool) (ts : List Symbol) → ((t : Symbol) → p t ≡ true → q t ≡ false) → begins p ts ≡ true → begins q ts ≡ false
differ p q [] d h = refl
differ p q (t ∷ ts) d h = d t h

-- what doesn't begin with the one doesn't begin with the other
pub narrower : (p q : Symbol → Bool) (ts : List Symbol) → ((t : Symbol) → p t ≡ false → q t ≡ false) → begins p ts ≡ false → begins q ts ≡ false
narrower p q [] d h = refl
narrower p q (t ∷ ts) d h = d t h

-- what begins with the one begins with the other
pub wider : (p q : Symbol → Bool) (ts : List Symbol) → ((t : Symbol) → p t ≡ true → q t ≡ true) → begins p ts ≡ true → begins q ts ≡ true
wider p q [] d h = h
wider p q (t ∷ ts) d h = d t h

-- a primary expression, and so a postfix one, may begin with this symbol
abbrev pub begins_primary : Names → Symbol → Bool
begins_primary names (Word name) = not (is_type names name)
begins_primary names (Reserved words.BuiltinVaArg) = true
begins_primary names (Reserved words.BuiltinOffsetof) = true
begins_primary names (Reserved k) = false
begins_primary names (Sign marks.OpenParen) = true
begins_primary names (Sign p) = false
begins_primary names _ = true

abbrev pub begins_with : Keyword → Bool
begins_with words.Sizeof = true
begins_with words.BuiltinVaArg = true
begins_with words.BuiltinOffsetof = true
begins_with _ = false

-- an expression may begin with this symbol: it is one of these keywords or of the first punctuators
abbrev pub begins_expression : Names → Symbol → Bool
begins_expression names (Word name) = not (is_type names name)
begins_expression names (Reserved k) = begins_with k
begins_expression names (Sign p) = nat_le (punctuator_code p) 8
begins_expression names _ = true

pub expression_begins : (names : Names) (e : Syntax) (ts : List Symbol) → IsExpr names e → begins (begins_expression names) (tokens_then e ts) ≡ true
expression_begins names (Primary (Ident (Word name))) ts w = ap not w
expression_begins names (Primary (Ident _)) ts w = absurd w
expression_begins names (Primary (Constant (IntLiteral value spelling))) ts w = refl
expression_begins names (Primary (Constant (FloatLiteral end spelling))) ts w = refl
expression_begins names (Primary (Constant (CharLiteral wide spelling))) ts w = refl
expression_begins names (Primary (Constant _)) ts w = cc
expression_begins names (Primary (StrConst [])) ts w = absurd w
expression_begins names (Primary (StrConst (StringLiteral wide spelling ∷ ss))) ts w = refl
expression_begins names (Primary (StrConst (_ ∷ ss))) ts w = let a = w.0 in cc
expression_begins names (Primary (Paren inner)) ts w = refl
expression_begins names (Primary (VaArg list of)) ts w = refl
expression_begins names (Primary (Offsetof of member path)) ts w = refl
expression_begins names (Operation (Index array index)) ts w = expression_begins names array _ w.1
expression_begins names (Operation (Call callee arguments)) ts w = expression_begins names callee _ w.1
expression_begins names (Operation (Member operand member)) ts w = expression_begins names operand _ w.1
expression_begins names (Operation (Arrow operand member)) ts w = expression_begins names operand _ w.1
expression_begins names (Operation (Unary unary.PostInc operand)) ts w = expression_begins names operand _ w.1
expression_begins names (Operation (Unary unary.PostDec operand)) ts w = expression_begins names operand _ w.1
expression_begins names (Operation (Unary _ operand)) ts w = refl
expression_begins names (Operation (SizeofType of)) ts w = refl
expression_begins names (Operation (Cast to operand)) ts w = refl
expression_begins names (Operation (Binary op left right)) ts w = expression_begins names left _ w.1
expression_begins names (Operation (Cond condition then otherwise)) ts w = expression_begins names condition _ w.1
expression_begins names (Operation (Assign op left right)) ts w = expression_begins names left _ w.1
expression_begins names _ ts w = absurd w

pub level_above : (op : BinaryOp) → 3 ≤ level_of op
level_above binary.Multiply = omega arith
level_above _ = omega arith

pub primary_begins : (names : Names) (e : Syntax) (ts : List Symbol) → IsExpr names e → grade e ≤ postfix_level → begins (begins_primary names) (tokens_then e ts) ≡ true
primary_begins names (Primary (Ident (Word name))) ts w g = ap not w
primary_begins names (Primary (Ident _)) ts w g = absurd w
primary_begins names (Primary (Constant (IntLiteral value spelling))) ts w g = refl
primary_begins names (Primary (Constant (FloatLiteral end spelling))) ts w g = refl
primary_begins names (Primary (Constant (CharLiteral wide spelling))) ts w g = refl
primary_begins names (Primary (Constant _)) ts w g = cc
primary_begins names (Primary (StrConst [])) ts w g = absurd w
primary_begins names (Primary (StrConst (StringLiteral wide spelling ∷ ss))) ts w g = refl
primary_begins names (Primary (StrConst (_ ∷ ss))) ts w g = let a = w.0 in cc
primary_begins names (Primary (Paren inner)) ts w g = refl
primary_begins names (Primary (VaArg list of)) ts w g = refl
primary_begins names (Primary (Offsetof of member path)) ts w g = refl
primary_begins names (Operation (Index array index)) ts w g = primary_begins names array _ w.1 w.0
primary_begins names (Operation (Call callee arguments)) ts w g = primary_begins names callee _ w.1 w.0
primary_begins names (Operation (Member operand member)) ts w g = primary_begins names operand _ w.1 w.0
primary_begins names (Operation (Arrow operand member)) ts w g = primary_begins names operand _ w.1 w.0
primary_begins names (Operation (Unary unary.PostInc operand)) ts w g = primary_begins names operand _ w.1 w.0
primary_begins names (Operation (Unary unary.PostDec operand)) ts w g = primary_begins names operand _ w.1 w.0
primary_begins names (Operation (Unary _ operand)) ts w g = absurd (omega arith)
primary_begins names (Operation (SizeofType of)) ts w g = absurd (omega arith)
primary_begins names (Operation (Cast to operand)) ts w g = absurd (omega arith)
primary_begins names (Operation (Binary op left right)) ts w g = let a = level_above op in absurd (omega arith)
primary_begins names (Operation (Cond condition then otherwise)) ts w g = absurd (omega arith)
primary_begins names (Operation (Assign op left right)) ts w g = absurd (omega arith)
primary_begins names _ ts w g = absurd w

-- one that doesn't begin with this punctuator
pub no_sign : (p : Punctuator) (names : Names) (t : Symbol) → 8 < punctuator_code p → begins_expression names t ≡ true → is_sign p t ≡ false
no_sign p names (Sign q) c h = let a : punctuator_code q ≤ 8 = grind (arith, h) in grind arith
no_sign p names _ c h = refl

not_both : (b : Bool) → not b ≡ true → ((not false && b) || false) ≡ false
not_both true h = cc
not_both false h = refl

no_specifier : (names : Names) (t : Symbol) → begins_expression names t ≡ true → begins_specifiers names t ≡ false
no_specifier names (Word name) h = not_both (is_type names name) h
no_specifier names (Reserved words.Sizeof) h = refl
no_specifier names (Reserved words.BuiltinVaArg) h = refl
no_specifier names (Reserved words.BuiltinOffsetof) h = refl
no_specifier names (Reserved _) h = cc
no_specifier names _ h = refl

no_bound_word : (names : Names) (t : Symbol) → begins_expression names t ≡ true → is_bound_word t ≡ false
no_bound_word names (Reserved words.Sizeof) h = refl
no_bound_word names (Reserved words.BuiltinVaArg) h = refl
no_bound_word names (Reserved words.BuiltinOffsetof) h = refl
no_bound_word names (Reserved _) h = cc
no_bound_word names _ h = refl

pub expression_no_sign : (p : Punctuator) (names : Names) (e : Syntax) (ts : List Symbol) → 8 < punctuator_code p → IsExpr names e → after_sign p (tokens_then e ts) ≡ None
expression_no_sign p names e ts c w = after_none (is_sign p) (tokens_then e ts) (differ (begins_expression names) (is_sign p) (tokens_then e ts) (λ t h. no_sign p names t c h) (expression_begins names e ts w))

pub expression_no_specifier : (names : Names) (e : Syntax) (ts : List Symbol) → IsExpr names e → begins (begins_specifiers names) (tokens_then e ts) ≡ false
expression_no_specifier names e ts w = differ (begins_expression names) (begins_specifiers names) (tokens_then e ts) (no_specifier names) (expression_begins names e ts w)

pub expression_no_bound_word : (names : Names) (e : Syntax) (ts : List Symbol) → IsExpr names e → begins is_bound_word (tokens_then e ts) ≡ false
expression_no_bound_word names e ts w = differ (begins_expression names) is_bound_word (tokens_then e ts) (no_bound_word names) (expression_begins names e ts w)

no_prefix : (names : Names) (t : Symbol) → begins_primary names t ≡ true → prefix_of t ≡ None
no_prefix names (Sign marks.OpenParen) h = refl
no_prefix names (Sign _) h = cc
no_prefix names _ h = refl

no_sizeof : (names : Names) (t : Symbol) → begins_primary names t ≡ true → is_keyword words.Sizeof t ≡ false
no_sizeof names (Reserved words.BuiltinVaArg) h = refl
no_sizeof names (Reserved words.BuiltinOffsetof) h = refl
no_sizeof names (Reserved _) h = cc
no_sizeof names _ h = refl

no_prefixes : (names : Names) (ts : List Symbol) → begins (begins_primary names) ts ≡ true → take_prefix ts ≡ None
no_prefixes names [] h = refl
no_prefixes names (t ∷ ts) h = let F : Option UnaryOp → Option (UnaryOp × List Symbol) = λ o. o >>= λ op. Some (op, ts) in ap F (no_prefix names t h)

-- a postfix expression has no operator in front
pub postfix_no_prefix : (names : Names) (e : Syntax) (ts : List Symbol) → IsExpr names e → grade e ≤ postfix_level → take_prefix (tokens_then e ts) ≡ None
postfix_no_prefix names e ts w g = no_prefixes names (tokens_then e ts) (primary_begins names e ts w g)

pub postfix_no_sizeof : (names : Names) (e : Syntax) (ts : List Symbol) → IsExpr names e → grade e ≤ postfix_level → after_keyword words.Sizeof (tokens_then e ts) ≡ None
postfix_no_sizeof names e ts w g = after_none (is_keyword words.Sizeof) (tokens_then e ts) (differ (begins_primary names) (is_keyword words.Sizeof) (tokens_then e ts) (no_sizeof names) (primary_begins names e ts w g))

no_type_paren : (names : Names) (inside : List Symbol) → begins (begins_specifiers names) inside ≡ false → after_type_paren names (Sign marks.OpenParen ∷ inside) ≡ None
no_type_paren names inside h = let F : Bool → Option (List Symbol) = λ b. cond b (Some inside) None in ap F h

-- a unary expression doesn't begin as a cast
pub unary_no_cast : (names : Names) (e : Syntax) (ts : List Symbol) → IsExpr names e → grade e ≤ unary_level → after_type_paren names (tokens_then e ts) ≡ None
unary_no_cast names (Primary (Ident (Word name))) ts w g = refl
unary_no_cast names (Primary (Ident _)) ts w g = absurd w
unary_no_cast names (Primary (Constant (IntLiteral value spelling))) ts w g = refl
unary_no_cast names (Primary (Constant (FloatLiteral end spelling))) ts w g = refl
unary_no_cast names (Primary (Constant (CharLiteral wide spelling))) ts w g = refl
unary_no_cast names (Primary (Constant _)) ts w g = cc
unary_no_cast names (Primary (StrConst [])) ts w g = absurd w
unary_no_cast names (Primary (StrConst (StringLiteral wide spelling ∷ ss))) ts w g = refl
unary_no_cast names (Primary (StrConst (_ ∷ ss))) ts w g = let a = w.0 in cc
unary_no_cast names (Primary (Paren inner)) ts w g = no_type_paren names _ (expression_no_specifier names inner _ w)
unary_no_cast names (Primary (VaArg list of)) ts w g = refl
unary_no_cast names (Primary (Offsetof of member path)) ts w g = refl
unary_no_cast names (Operation (Index array index)) ts w g = unary_no_cast names array _ w.1 (omega (arith, w.0))
unary_no_cast names (Operation (Call callee arguments)) ts w g = unary_no_cast names callee _ w.1 (omega (arith, w.0))
unary_no_cast names (Operation (Member operand member)) ts w g = unary_no_cast names operand _ w.1 (omega (arith, w.0))
unary_no_cast names (Operation (Arrow operand member)) ts w g = unary_no_cast names operand _ w.1 (omega (arith, w.0))
unary_no_cast names (Operation (Unary unary.PostInc operand)) ts w g = unary_no_cast names operand _ w.1 (omega (arith, w.0))
unary_no_cast names (Operation (Unary unary.PostDec operand)) ts w g = unary_no_cast names operand _ w.1 (omega (arith, w.0))
unary_no_cast names (Operation (Unary _ operand)) ts w g = refl
unary_no_cast names (Operation (SizeofType of)) ts w g = refl
unary_no_cast names (Operation (Cast to operand)) ts w g = absurd (omega arith)
unary_no_cast names (Operation (Binary op left right)) ts w g = let a = level_above op in absurd (omega arith)
unary_no_cast names (Operation (Cond condition then otherwise)) ts w g = absurd (omega arith)
unary_no_cast names (Operation (Assign op left right)) ts w g = absurd (omega arith)
unary_no_cast names _ ts w g = absurd w

-- a type name and a parameter begin with specifiers
pub type_name_begins : (names : Names) (e : Syntax) (ts : List Symbol) → IsTypeName names e → begins (begins_specifiers names) (tokens_then e ts) ≡ true
type_name_begins names (Specifier (TypeName specs declarator)) ts w = specifiers_begin InTypeName names specs (phrase_then (maybe_phrase declarator) ts) w.0
type_name_begins names _ ts w = absurd w

pub param_begins : (names : Names) (e : Syntax) (ts : List Symbol) → IsParam names e → begins (begins_specifiers names) (tokens_then e ts) ≡ true
param_begins names (Specifier (Param specs declarator)) ts w = specifiers_begin InParam names specs (phrase_then (maybe_phrase declarator) ts) w.0
param_begins names _ ts w = absurd w

specifier_no_sign : (p : Punctuator) (names : Names) (t : Symbol) → begins_specifiers names t ≡ true → is_sign p t ≡ false
specifier_no_sign p names (Sign q) h = cc
specifier_no_sign p names _ h = refl

pub param_no_sign : (p : Punctuator) (names : Names) (e : Syntax) (ts : List Symbol) → IsParam names e → after_sign p (tokens_then e ts) ≡ None
param_no_sign p names e ts w = after_none (is_sign p) (tokens_then e ts) (differ (begins_specifiers names) (is_sign p) (tokens_then e ts) (specifier_no_sign p names) (param_begins names e ts w))

word_begins : (form : Form) (t : Symbol) → may_name form ≡ true → is_word t ≡ true → begins_declarator form t ≡ true
word_begins form (Word name) f h = let F : Bool → Bool = λ b. b && true in ap F f
word_begins form _ f h = cc

star_begins : (form : Form) (t : Symbol) → is_sign marks.Star t ≡ true → begins_declarator form t ≡ true
star_begins form t h = let F : Bool → Bool = λ b. b || begins_suffix t || (may_name form && is_word t) in ap F h

-- where a declarator stands, one begins
pub declarator_begins : (form : Form) (names : Names) (e : Syntax) (ts : List Symbol) → IsDeclarator form names e → begins (begins_declarator form) (tokens_then e ts) ≡ true
declarator_begins form names (Declarator (Named [] name suffixes)) ts w = word_begins form name w.0 w.2
declarator_begins form names (Declarator (Named (t ∷ pointers) name suffixes)) ts w = star_begins form t w.1.0
declarator_begins form names (Declarator (Nested [] inner suffixes)) ts w = refl
declarator_begins form names (Declarator (Nested (t ∷ pointers) inner suffixes)) ts w = star_begins form t w.0.0
declarator_begins form names (Declarator (Unnamed [] no_more)) ts w = let a = w.3 in cc
declarator_begins form names (Declarator (Unnamed [] (more (Part (ArrayBound words bound)) es))) ts w = refl
declarator_begins form names (Declarator (Unnamed [] (more (Part VoidParams) es))) ts w = refl
declarator_begins form names (Declarator (Unnamed [] (more (Part (Params params variadic)) es))) ts w = refl
declarator_begins form names (Declarator (Unnamed [] (more _ es))) ts w = absurd w.2.0
declarator_begins form names (Declarator (Unnamed (t ∷ pointers) suffixes)) ts w = star_begins form t w.1.0
declarator_begins form names _ ts w = absurd w

-- what begins a declarator is no parenthesis that closes, and no specifier
pub declarator_no_close : (form : Form) (t : Symbol) → begins_declarator form t ≡ true → is_sign marks.CloseParen t ≡ false
declarator_no_close WithName (Sign marks.CloseParen) h = cc
declarator_no_close Abstract (Sign marks.CloseParen) h = cc
declarator_no_close Either (Sign marks.CloseParen) h = cc
declarator_no_close form _ h = refl

pub declarator_no_specifier : (form : Form) (names : Names) (t : Symbol) → begins_declarator form t ≡ true → goes_on names true t ≡ false
declarator_no_specifier WithName names (Reserved k) h = cc
declarator_no_specifier Abstract names (Reserved k) h = cc
declarator_no_specifier Either names (Reserved k) h = cc
declarator_no_specifier form names _ h = refl

-- a declarator doesn't go on with the specifiers before it
pub before_declarator : (form : Form) (names : Names) (e : Syntax) (r : List Symbol) → IsDeclarator form names e → begins (goes_on names true) (tokens_then e r) ≡ false
before_declarator form names e r w = differ (begins_declarator form) (goes_on names true) (tokens_then e r) (declarator_no_specifier form names) (declarator_begins form names e r w)

-- what begins a declarator without a name begins no parameters
abstract_no_params : (names : Names) (t : Symbol) → begins_declarator Abstract t ≡ true → begins_params names t ≡ false
abstract_no_params names (Sign marks.Star) h = refl
abstract_no_params names (Sign marks.OpenBracket) h = refl
abstract_no_params names (Sign marks.OpenParen) h = refl
abstract_no_params names _ h = cc

star_no_params : (names : Names) (t : Symbol) → is_sign marks.Star t ≡ true → begins_params names t ≡ false
star_no_params names (Sign marks.Star) h = refl
star_no_params names _ h = cc

ordinary_no_params : (names : Names) (name : ℕ) → is_type names name ≡ false → begins_params names (Word name) ≡ false
ordinary_no_params names name h = let F : Bool → Bool = λ b. false || ((not false && b) || false) in ap F h

-- nor does one in parentheses that may have a name
either_no_params : (names : Names) (e : Syntax) (r : List Symbol) → IsDeclarator Either names e → is_taken_as_type Either names e ≡ false → begins (begins_params names) (tokens_then e r) ≡ false
either_no_params names (Declarator (Named [] (Word name) es)) r w h = ordinary_no_params names name h
either_no_params names (Declarator (Named [] _ es)) r w h = let a = w.2 in cc
either_no_params names (Declarator (Named (t ∷ ts) name es)) r w h = star_no_params names t w.1.0
either_no_params names (Declarator (Nested [] inner es)) r w h = refl
either_no_params names (Declarator (Nested (t ∷ ts) inner es)) r w h = star_no_params names t w.0.0
either_no_params names (Declarator (Unnamed [] no_more)) r w h = let a = w.3 in cc
either_no_params names (Declarator (Unnamed [] (more (Part (ArrayBound words bound)) es))) r w h = refl
either_no_params names (Declarator (Unnamed [] (more (Part VoidParams) es))) r w h = refl
either_no_params names (Declarator (Unnamed [] (more (Part (Params params variadic)) es))) r w h = refl
either_no_params names (Declarator (Unnamed [] (more _ es))) r w h = absurd w.2.0
either_no_params names (Declarator (Unnamed (t ∷ ts) es)) r w h = star_no_params names t w.1.0
either_no_params names _ r w h = absurd w

pub nested_no_params : (form : Form) (names : Names) (e : Syntax) (r : List Symbol) → IsDeclarator form names e → is_taken_as_type form names e ≡ false → (may_omit form && begins (begins_params names) (tokens_then e r)) ≡ false
nested_no_params WithName names e r w h = refl
nested_no_params Abstract names e r w h = differ (begins_declarator Abstract) (begins_params names) (tokens_then e r) (abstract_no_params names) (declarator_begins Abstract names e r w)
nested_no_params Either names e r w h = either_no_params names e r w h
