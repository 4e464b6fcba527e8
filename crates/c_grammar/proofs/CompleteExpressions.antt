-- Each expression is read, where what follows doesn't go on with it.
use Rattle.std.proofs.Common.{◌≡◌, ℕ, zero, suc, ◌+◌, ◌-◌, ◌<◌, ◌≤◌, Bool, true, false, cond, nat_le, nat_eq, max, List, [], ◌∷◌, length, Option, None, Some, inl, inr, ap, refl, ◌∙◌, sym, subst, arith}
use Rattle.c_tree.specs.declared.operator.BinaryOp.{BinaryOp}
use Rattle.c_tree.specs.declared.operator.BinaryOp.TheVariants as binary
use Rattle.c_tree.specs.declared.operator.UnaryOp.{UnaryOp}
use Rattle.c_tree.specs.declared.operator.UnaryOp.TheVariants as unary
use Rattle.c_tree.specs.declared.punctuator.Punctuator.TheVariants as marks
use Rattle.c_tree.specs.Symbol.{Symbol, Word, Sign, IntLiteral, FloatLiteral, CharLiteral, StringLiteral}
use Rattle.c_tree.specs.Syntax.{Syntax, Primary, Operation, Part, PrimarySyntax, Ident, Constant, StrConst, Paren, VaArg, Offsetof, Index, Call, Member, Arrow, Unary, SizeofType, Cast, Binary, Cond, Assign, MemberDesignator, IndexDesignator, Syntaxes, no_more, more}
use Rattle.c_tree.specs.Height.{height_of, height_in}
use Rattle.c_tree.specs.Phrase.{phrase_then}
use Rattle.c_tree.specs.Tokens.{phrase_of, binary_sign, assign_sign, row_phrase, list_phrase, more_phrase, tokens_then}
use Rattle.c_grammar.specs.Symbols.{is_word, is_string, begins}
use Rattle.c_grammar.specs.Levels.{postfix_level, unary_level, cast_level, logical_or_level, conditional_level, assignment_level, comma_level, level_of, unary_grade, operand_level, grade}
use Rattle.c_grammar.specs.Names.{Names}
use Rattle.c_grammar.specs.Nonterminal.{Expression, NameOfType}
use Rattle.c_grammar.specs.Grammar.{IsExpr, IsPrimary, AreArguments, IsPath}
use Rattle.c_grammar.specs.Found.{◌>>=◌, Found, made, Reader}
use Rattle.c_grammar.specs.Following.{Stops}
use Rattle.c_grammar.specs.Ways.ExpressionSteps.{read_path, read_primary, read_more_arguments, read_arguments, begins_postfix, read_postfix_operators, read_postfix, read_unary, read_cast, take_binary, read_chain, read_binary, read_conditional, read_assignment, read_commas, read_expression}
use Rattle.c_grammar.proofs.Options.{made_low, which, at_most, above, low}
use Rattle.c_grammar.proofs.Front.{take_symbol_here, run_of-here, after_run-here, take_binary-here, take_assign-here}
use Rattle.c_grammar.proofs.Readers.{Knows}
use Rattle.c_grammar.proofs.Longer.{count, longer, longer_more, longer_path}
use Rattle.c_grammar.proofs.Begins.{expression_no_sign, postfix_no_prefix, postfix_no_sizeof, unary_no_cast, type_name_begins, level_above}
use Rattle.c_grammar.proofs.Stops.{stops-lower, stops-cast, stops-string, stops-postfix, stops-binary, stops-question, stops-assign, binary_weighs, assign_weighs}

level_low : (op : BinaryOp) → level_of op ≤ comma_level
level_low binary.Multiply = omega arith
level_low _ = omega arith

unary_low : (op : UnaryOp) → unary_grade op ≤ unary_level
unary_low unary.PostInc = omega arith
unary_low _ = omega arith

-- every expression may stand at the level of commas
grade_low : (e : Syntax) → grade e ≤ comma_level
grade_low (Operation (Unary op operand)) = let a = unary_low op in omega arith
grade_low (Operation (Binary op left right)) = level_low op
grade_low (Operation _) = omega arith
grade_low _ = omega arith

more_arguments-complete : (inner : Reader) (n : ℕ) (names : Names) (f : ℕ) (e : Syntax) (es : Syntaxes) (r : List Symbol) → Knows inner n → AreArguments names (more e es) → height_of e ≤ n → height_in es ≤ n → count es < f
    → read_more_arguments inner names f (tokens_then e (phrase_then (more_phrase es) (Sign marks.CloseParen ∷ r))) ≡ Some (more e es, r)
unfolding read_more_arguments
more_arguments-complete inner n names zero e es r k w h hs c = absurd (omega arith)
more_arguments-complete inner n names (suc f) e no_more r k w h hs c = rw (k (Expression assignment_level) names e (Sign marks.CloseParen ∷ r) (w.0, w.1) h (omega arith)) refl
more_arguments-complete inner n names (suc f) e (more e2 es) r k w h hs c =
    let X = tokens_then e2 (phrase_then (more_phrase es) (Sign marks.CloseParen ∷ r)) in
    rw (k (Expression assignment_level) names e (Sign marks.Comma ∷ X) (w.0, w.1) h (omega arith), more_arguments-complete inner n names f e2 es r k w.2 (omega arith) (omega arith) (omega arith)) refl

pub arguments-complete : (inner : Reader) (n : ℕ) (names : Names) (es : Syntaxes) (r : List Symbol) → Knows inner n → AreArguments names es → height_in es ≤ n → read_arguments inner names (phrase_then (list_phrase es) (Sign marks.CloseParen ∷ r)) ≡ Some (es, r)
arguments-complete inner n names no_more r k w h = refl
arguments-complete inner n names (more e es) r k w h =
    let X = phrase_then (more_phrase es) (Sign marks.CloseParen ∷ r) in
    let a = longer (phrase_of e) X in
    let b = longer_more es (Sign marks.CloseParen ∷ r) in
    rw (expression_no_sign marks.CloseParen names e X (omega arith) w.1, more_arguments-complete inner n names (length (tokens_then e X)) e es r k w (omega arith) (omega arith) (omega (arith, a, b))) refl

path-complete : (inner : Reader) (n : ℕ) (names : Names) (f : ℕ) (es : Syntaxes) (r : List Symbol) → Knows inner n → IsPath names es → height_in es ≤ n → count es < f → read_path inner names f (phrase_then (row_phrase es) (Sign marks.CloseParen ∷ r)) ≡ Some (es, r)
unfolding read_path
path-complete inner n names zero es r k w h c = absurd (omega arith)
path-complete inner n names (suc f) no_more r k w h c = refl
path-complete inner n names (suc f) (more (Part (MemberDesignator member)) es) r k w h c =
    let X = phrase_then (row_phrase es) (Sign marks.CloseParen ∷ r) in
    rw (take_symbol_here is_word member X w.0, path-complete inner n names f es r k w.1 (omega arith) (omega arith)) refl
path-complete inner n names (suc f) (more (Part (IndexDesignator e)) es) r k w h c =
    let X = phrase_then (row_phrase es) (Sign marks.CloseParen ∷ r) in
    rw (k (Expression comma_level) names e (Sign marks.CloseBracket ∷ X) (grade_low e, w.0) (omega arith) (omega arith), path-complete inner n names f es r k w.1 (omega arith) (omega arith)) refl
path-complete inner n names (suc f) (more _ es) r k w h c = absurd w.0

pub primary-complete : (inner : Reader) (n : ℕ) (names : Names) (p : PrimarySyntax) (r : List Symbol) → Knows inner n → IsPrimary names p → height_of (Primary p) ≤ suc n → begins is_string r ≡ false
    → read_primary inner (suc n) names (tokens_then (Primary p) r) ≡ Some (Primary p, r)
primary-complete inner n names (Ident (Word name)) r k w h s = rw w (made_low (suc n) (Primary (Ident (Word name))) r h)
primary-complete inner n names (Ident _) r k w h s = absurd w
primary-complete inner n names (Constant (IntLiteral value spelling)) r k w h s = made_low (suc n) (Primary (Constant (IntLiteral value spelling))) r h
primary-complete inner n names (Constant (FloatLiteral end spelling)) r k w h s = made_low (suc n) (Primary (Constant (FloatLiteral end spelling))) r h
primary-complete inner n names (Constant (CharLiteral wide spelling)) r k w h s = made_low (suc n) (Primary (Constant (CharLiteral wide spelling))) r h
primary-complete inner n names (Constant _) r k w h s = cc
primary-complete inner n names (StrConst []) r k w h s = absurd w
primary-complete inner n names (StrConst (StringLiteral wide spelling ∷ ss)) r k w h s =
    rw (run_of-here is_string ss r w.1 s, after_run-here is_string ss r w.1 s) (made_low (suc n) (Primary (StrConst (StringLiteral wide spelling ∷ ss))) r h)
primary-complete inner n names (StrConst (_ ∷ ss)) r k w h s = let a = w.0 in cc
primary-complete inner n names (Paren e) r k w h s =
    rw (k (Expression comma_level) names e (Sign marks.CloseParen ∷ r) (grade_low e, w) (omega arith) (omega arith)) (made_low (suc n) (Primary (Paren e)) r h)
primary-complete inner n names (VaArg e of) r k w h s =
    let X = tokens_then of (Sign marks.CloseParen ∷ r) in
    rw (k (Expression assignment_level) names e (Sign marks.Comma ∷ X) (w.0, w.1) (omega arith) (omega arith), k NameOfType names of (Sign marks.CloseParen ∷ r) w.2 (omega arith) refl)
    (made_low (suc n) (Primary (VaArg e of)) r h)
primary-complete inner n names (Offsetof of member path) r k w h s =
    let X = phrase_then (row_phrase path) (Sign marks.CloseParen ∷ r) in
    let a = longer_path names path (Sign marks.CloseParen ∷ r) w.2 in
    rw (
      k NameOfType names of (Sign marks.Comma ∷ member ∷ X) w.0 (omega arith) refl,
      take_symbol_here is_word member X w.1,
      path-complete inner n names (length X) path r k w.2 (omega arith) (omega (arith, a)),
    ) (made_low (suc n) (Primary (Offsetof of member path)) r h)
primary-complete inner n names _ r k w h s = absurd w

-- the postfix operators on the left
abbrev depth : Syntax → ℕ
depth (Operation (Index array index)) = depth array + 1
depth (Operation (Call callee arguments)) = depth callee + 1
depth (Operation (Member operand member)) = depth operand + 1
depth (Operation (Arrow operand member)) = depth operand + 1
depth (Operation (Unary op operand)) = depth operand + 1
depth _ = 0

pub positive : (p : PrimarySyntax) → 0 < height_of (Primary p)
positive (Ident name) = omega arith
positive _ = omega arith

depth-height : (names : Names) (e : Syntax) → IsExpr names e → depth e < height_of e
depth-height names (Primary p) w = positive p
depth-height names (Operation (Index array index)) w = let a = depth-height names array w.1 in omega arith
depth-height names (Operation (Call callee arguments)) w = let a = depth-height names callee w.1 in omega arith
depth-height names (Operation (Member operand member)) w = let a = depth-height names operand w.1 in omega arith
depth-height names (Operation (Arrow operand member)) w = let a = depth-height names operand w.1 in omega arith
depth-height names (Operation (Unary op operand)) w = let a = depth-height names operand w.1 in omega arith
depth-height names (Operation _) w = omega arith
depth-height names _ w = absurd w

-- an expression with postfix operators is read up to the point where its own operators have been taken
postfix-spine : (inner : Reader) (n : ℕ) (names : Names) (f : ℕ) (e : Syntax) (r : List Symbol) → Knows inner n → IsExpr names e → grade e ≤ postfix_level → height_of e ≤ suc n → f + depth e ≡ suc n → begins is_string r ≡ false
    → read_postfix inner (suc n) names (tokens_then e r) ≡ read_postfix_operators inner (suc n) names f e r
unfolding read_postfix_operators
postfix-spine inner n names f (Primary p) r k w g h d s =
    let q : suc n ≡ f = omega arith in
    rw (primary-complete inner n names p r k w h s) (ap (λ x. read_postfix_operators inner (suc n) names x (Primary p) r) q)
postfix-spine inner n names f (Operation (Index array index)) r k w g h d s =
    postfix-spine inner n names (suc f) array (Sign marks.OpenBracket ∷ tokens_then index (Sign marks.CloseBracket ∷ r)) k w.1 w.0 (omega arith) (omega arith) refl
    ∙ rw (k (Expression comma_level) names index (Sign marks.CloseBracket ∷ r) (grade_low index, w.2) (omega arith) (omega arith), made_low (suc n) (Operation (Index array index)) r h) refl
postfix-spine inner n names f (Operation (Call callee arguments)) r k w g h d s =
    postfix-spine inner n names (suc f) callee (Sign marks.OpenParen ∷ phrase_then (list_phrase arguments) (Sign marks.CloseParen ∷ r)) k w.1 w.0 (omega arith) (omega arith) refl
    ∙ rw (arguments-complete inner n names arguments r k w.2 (omega arith), made_low (suc n) (Operation (Call callee arguments)) r h) refl
postfix-spine inner n names f (Operation (Member operand member)) r k w g h d s =
    postfix-spine inner n names (suc f) operand (Sign marks.Dot ∷ member ∷ r) k w.1 w.0 (omega arith) (omega arith) refl
    ∙ rw (take_symbol_here is_word member r w.2, made_low (suc n) (Operation (Member operand member)) r h) refl
postfix-spine inner n names f (Operation (Arrow operand member)) r k w g h d s =
    postfix-spine inner n names (suc f) operand (Sign marks.Arrow ∷ member ∷ r) k w.1 w.0 (omega arith) (omega arith) refl
    ∙ rw (take_symbol_here is_word member r w.2, made_low (suc n) (Operation (Arrow operand member)) r h) refl
postfix-spine inner n names f (Operation (Unary unary.PostInc operand)) r k w g h d s =
    postfix-spine inner n names (suc f) operand (Sign marks.Increment ∷ r) k w.1 w.0 (omega arith) (omega arith) refl
    ∙ rw (made_low (suc n) (Operation (Unary unary.PostInc operand)) r h) refl
postfix-spine inner n names f (Operation (Unary unary.PostDec operand)) r k w g h d s =
    postfix-spine inner n names (suc f) operand (Sign marks.Decrement ∷ r) k w.1 w.0 (omega arith) (omega arith) refl
    ∙ rw (made_low (suc n) (Operation (Unary unary.PostDec operand)) r h) refl
postfix-spine inner n names f (Operation (Unary _ operand)) r k w g h d s = absurd (omega arith)
postfix-spine inner n names f (Operation (SizeofType of)) r k w g h d s = absurd (omega arith)
postfix-spine inner n names f (Operation (Cast to operand)) r k w g h d s = absurd (omega arith)
postfix-spine inner n names f (Operation (Binary op left right)) r k w g h d s = let a = level_above op in absurd (omega arith)
postfix-spine inner n names f (Operation (Cond condition then otherwise)) r k w g h d s = absurd (omega arith)
postfix-spine inner n names f (Operation (Assign op left right)) r k w g h d s = absurd (omega arith)
postfix-spine inner n names f _ r k w g h d s = absurd w

postfix-end : (inner : Reader) (m : ℕ) (names : Names) (f : ℕ) (e : Syntax) (r : List Symbol) → begins begins_postfix r ≡ false → read_postfix_operators inner m names f e r ≡ Some (e, r)
unfolding read_postfix_operators
postfix-end inner m names zero e r h = rw h refl
postfix-end inner m names (suc f) e r h = rw h refl

pub postfix-complete : (inner : Reader) (n : ℕ) (names : Names) (e : Syntax) (r : List Symbol) → Knows inner n → IsExpr names e → grade e ≤ postfix_level → height_of e ≤ suc n → Stops postfix_level r
    → read_postfix inner (suc n) names (tokens_then e r) ≡ Some (e, r)
postfix-complete inner n names e r k w g h s =
    let a = depth-height names e w in
    postfix-spine inner n names (suc n - depth e) e r k w g h (omega arith) (stops-string postfix_level r s) ∙ postfix-end inner (suc n) names (suc n - depth e) e r (stops-postfix postfix_level r s)

-- a postfix expression where a unary one may stand
postfix-alone : (inner : Reader) (n : ℕ) (names : Names) (e : Syntax) (r : List Symbol) → Knows inner n → IsExpr names e → grade e ≤ postfix_level → height_of e ≤ suc n → Stops postfix_level r
    → read_unary inner (suc n) names (tokens_then e r) ≡ Some (e, r)
postfix-alone inner n names e r k w g h s = rw (postfix_no_prefix names e r w g, postfix_no_sizeof names e r w g) (postfix-complete inner n names e r k w g h s)

-- an operator with its operand behind it
prefix-complete : (inner : Reader) (n : ℕ) (names : Names) (op : UnaryOp) (e : Syntax) (r : List Symbol) → Knows inner n → IsExpr names (Operation (Unary op e)) → height_of (Operation (Unary op e)) ≤ suc n → operand_level op ≤ cast_level → Stops postfix_level r
    → (inner (Expression (operand_level op)) names (tokens_then e r) >>= λ x. made (suc n) (Operation (Unary op x.0)) x.1) ≡ Some (Operation (Unary op e), r)
prefix-complete inner n names op e r k w h o s =
    rw (k (Expression (operand_level op)) names e r (w.0, w.1) (omega arith) (stops-lower (operand_level op) cast_level r o (stops-cast r s))) (made_low (suc n) (Operation (Unary op e)) r h)

pub unary-complete : (inner : Reader) (n : ℕ) (names : Names) (e : Syntax) (r : List Symbol) → Knows inner n → IsExpr names e → grade e ≤ unary_level → height_of e ≤ suc n → Stops postfix_level r
    → read_unary inner (suc n) names (tokens_then e r) ≡ Some (e, r)
unary-complete inner n names (Primary p) r k w g h s = postfix-alone inner n names (Primary p) r k w (omega arith) h s
unary-complete inner n names (Operation (Index array index)) r k w g h s = postfix-alone inner n names (Operation (Index array index)) r k w (omega arith) h s
unary-complete inner n names (Operation (Call callee arguments)) r k w g h s = postfix-alone inner n names (Operation (Call callee arguments)) r k w (omega arith) h s
unary-complete inner n names (Operation (Member operand member)) r k w g h s = postfix-alone inner n names (Operation (Member operand member)) r k w (omega arith) h s
unary-complete inner n names (Operation (Arrow operand member)) r k w g h s = postfix-alone inner n names (Operation (Arrow operand member)) r k w (omega arith) h s
unary-complete inner n names (Operation (Unary unary.PostInc e)) r k w g h s = postfix-alone inner n names (Operation (Unary unary.PostInc e)) r k w (omega arith) h s
unary-complete inner n names (Operation (Unary unary.PostDec e)) r k w g h s = postfix-alone inner n names (Operation (Unary unary.PostDec e)) r k w (omega arith) h s
unary-complete inner n names (Operation (Unary unary.PreInc e)) r k w g h s = prefix-complete inner n names unary.PreInc e r k w h (omega arith) s
unary-complete inner n names (Operation (Unary unary.PreDec e)) r k w g h s = prefix-complete inner n names unary.PreDec e r k w h (omega arith) s
unary-complete inner n names (Operation (Unary unary.AddressOf e)) r k w g h s = prefix-complete inner n names unary.AddressOf e r k w h (omega arith) s
unary-complete inner n names (Operation (Unary unary.Deref e)) r k w g h s = prefix-complete inner n names unary.Deref e r k w h (omega arith) s
unary-complete inner n names (Operation (Unary unary.Plus e)) r k w g h s = prefix-complete inner n names unary.Plus e r k w h (omega arith) s
unary-complete inner n names (Operation (Unary unary.Minus e)) r k w g h s = prefix-complete inner n names unary.Minus e r k w h (omega arith) s
unary-complete inner n names (Operation (Unary unary.BitNot e)) r k w g h s = prefix-complete inner n names unary.BitNot e r k w h (omega arith) s
unary-complete inner n names (Operation (Unary unary.Not e)) r k w g h s = prefix-complete inner n names unary.Not e r k w h (omega arith) s
unary-complete inner n names (Operation (Unary unary.Sizeof e)) r k w g h s = rw (unary_no_cast names e r w.1 w.0) (prefix-complete inner n names unary.Sizeof e r k w h (omega arith) s)
unary-complete inner n names (Operation (SizeofType of)) r k w g h s =
    let X = Sign marks.CloseParen ∷ r in
    rw (type_name_begins names of X w, k NameOfType names of X w (omega arith) refl) (made_low (suc n) (Operation (SizeofType of)) r h)
unary-complete inner n names (Operation (Cast to operand)) r k w g h s = absurd (omega arith)
unary-complete inner n names (Operation (Binary op left right)) r k w g h s = let a = level_above op in absurd (omega arith)
unary-complete inner n names (Operation (Cond condition then otherwise)) r k w g h s = absurd (omega arith)
unary-complete inner n names (Operation (Assign op left right)) r k w g h s = absurd (omega arith)
unary-complete inner n names _ r k w g h s = absurd w

-- a unary expression where a cast may stand
unary-alone : (inner : Reader) (n : ℕ) (names : Names) (e : Syntax) (r : List Symbol) → Knows inner n → IsExpr names e → grade e ≤ unary_level → height_of e ≤ suc n → Stops postfix_level r
    → read_cast inner (suc n) names (tokens_then e r) ≡ Some (e, r)
unary-alone inner n names e r k w g h s = rw (unary_no_cast names e r w g) (unary-complete inner n names e r k w g h s)

cast-complete : (inner : Reader) (n : ℕ) (names : Names) (e : Syntax) (r : List Symbol) → Knows inner n → IsExpr names e → grade e ≤ cast_level → height_of e ≤ suc n → Stops postfix_level r
    → read_cast inner (suc n) names (tokens_then e r) ≡ Some (e, r)
cast-complete inner n names (Primary p) r k w g h s = unary-alone inner n names (Primary p) r k w (omega arith) h s
cast-complete inner n names (Operation (Index array index)) r k w g h s = unary-alone inner n names (Operation (Index array index)) r k w (omega arith) h s
cast-complete inner n names (Operation (Call callee arguments)) r k w g h s = unary-alone inner n names (Operation (Call callee arguments)) r k w (omega arith) h s
cast-complete inner n names (Operation (Member operand member)) r k w g h s = unary-alone inner n names (Operation (Member operand member)) r k w (omega arith) h s
cast-complete inner n names (Operation (Arrow operand member)) r k w g h s = unary-alone inner n names (Operation (Arrow operand member)) r k w (omega arith) h s
cast-complete inner n names (Operation (Unary op e)) r k w g h s = unary-alone inner n names (Operation (Unary op e)) r k w (unary_low op) h s
cast-complete inner n names (Operation (SizeofType of)) r k w g h s = unary-alone inner n names (Operation (SizeofType of)) r k w (omega arith) h s
cast-complete inner n names (Operation (Cast to e)) r k w g h s =
    let X = Sign marks.CloseParen ∷ tokens_then e r in
    rw (type_name_begins names to X w.0, k NameOfType names to X w.0 (omega arith) refl, k (Expression cast_level) names e r (w.1, w.2) (omega arith) (stops-cast r s)) (made_low (suc n) (Operation (Cast to e)) r h)
cast-complete inner n names (Operation (Binary op left right)) r k w g h s = let a = level_above op in absurd (omega arith)
cast-complete inner n names (Operation (Cond condition then otherwise)) r k w g h s = absurd (omega arith)
cast-complete inner n names (Operation (Assign op left right)) r k w g h s = absurd (omega arith)
cast-complete inner n names _ r k w g h s = absurd w

-- this reader finds each expression of at most this height at this level
abbrev Climbs : (List Symbol → Option Found) → ℕ → Names → ℕ → Type 0
Climbs reads m names level = (e : Syntax) (r : List Symbol) → IsExpr names e → grade e ≤ level → height_of e ≤ m → Stops level r → reads (tokens_then e r) ≡ Some (e, r)

-- the operators of this level on the left
abbrev op_depth : ℕ → Syntax → ℕ
op_depth level (Operation (Binary op left right)) = cond (nat_eq (level_of op) level) (op_depth level left + 1) 0
op_depth level _ = 0

op_depth-height : (level : ℕ) (names : Names) (e : Syntax) → IsExpr names e → op_depth level e < height_of e
op_depth-height level names (Operation (Binary op left right)) w =
    let a = op_depth-height level names left w.1 in
    elim (nat_eq (level_of op) level) as (λ b. cond b (op_depth level left + 1) 0 < max (height_of left) (height_of right) + 1) [ true ↦ omega arith | false ↦ omega arith ]
op_depth-height level names (Operation _) w = omega arith
op_depth-height level names (Primary p) w = positive p
op_depth-height level names _ w = absurd w

-- an operand, and the operators of one level behind it
abbrev then_chain : (List Symbol → Option Found) → Reader → ℕ → Names → ℕ → List Symbol → Option Found
then_chain reads inner m names level ts = reads ts >>= λ left. read_chain inner m names level m left.0 left.1

-- an operand alone
operand : (reads : List Symbol → Option Found) (inner : Reader) (m level f : ℕ) (names : Names) (e : Syntax) (r : List Symbol) → reads (tokens_then e r) ≡ Some (e, r) → f ≡ m
    → then_chain reads inner m names level (tokens_then e r) ≡ read_chain inner m names level f e r
operand reads inner m level f names e r h q = rw h (ap (λ x. read_chain inner m names level x e r) (sym q))

-- the right operand joins
joined : (inner : Reader) (m l f : ℕ) (names : Names) (op : BinaryOp) (left right : Syntax) (r : List Symbol) → level_of op ≡ suc l → inner (Expression l) names (tokens_then right r) ≡ Some (right, r) → height_of (Operation (Binary op left right)) ≤ m
    → read_chain inner m names (suc l) (suc f) left (Sign (binary_sign op) ∷ tokens_then right r) ≡ read_chain inner m names (suc l) f (Operation (Binary op left right)) r
unfolding read_chain
joined inner m l f names op left right r e h b =
    let X = tokens_then right r in
    let o : take_binary (suc l) (Sign (binary_sign op) ∷ X) ≡ Some (op, X) = subst (λ x. take_binary x (Sign (binary_sign op) ∷ X) ≡ Some (op, X)) e (take_binary-here op X) in
    let p : suc l - 1 ≡ l = omega arith in
    rw (o, p, h, made_low m (Operation (Binary op left right)) r b) refl

-- An expression of the level suc l is read up to the point where its own operators of this level have been taken. No
-- conditional expression and no assignment stands at this level alone.
spine-complete : (reads : List Symbol → Option Found) (inner : Reader) (n l : ℕ) (names : Names) → Knows inner n → cast_level ≤ l → (conditional_level ≤ suc l → conditional_level ≤ l) → (assignment_level ≤ suc l → assignment_level ≤ l) → Climbs reads (suc n) names l
    → (e : Syntax) (f : ℕ) (r : List Symbol) → f + op_depth (suc l) e ≡ suc n → IsExpr names e → grade e ≤ suc l → height_of e ≤ suc n → Stops l r
    → then_chain reads inner (suc n) names (suc l) (tokens_then e r) ≡ read_chain inner (suc n) names (suc l) f e r
spine-complete reads inner n l names k a b c t (Primary p) f r d w g h s = operand reads inner (suc n) (suc l) f names (Primary p) r (t (Primary p) r w (omega arith) h s) (omega arith)
spine-complete reads inner n l names k a b c t (Operation (Index array index)) f r d w g h s = operand reads inner (suc n) (suc l) f names (Operation (Index array index)) r (t (Operation (Index array index)) r w (omega arith) h s) (omega arith)
spine-complete reads inner n l names k a b c t (Operation (Call callee arguments)) f r d w g h s = operand reads inner (suc n) (suc l) f names (Operation (Call callee arguments)) r (t (Operation (Call callee arguments)) r w (omega arith) h s) (omega arith)
spine-complete reads inner n l names k a b c t (Operation (Member e member)) f r d w g h s = operand reads inner (suc n) (suc l) f names (Operation (Member e member)) r (t (Operation (Member e member)) r w (omega arith) h s) (omega arith)
spine-complete reads inner n l names k a b c t (Operation (Arrow e member)) f r d w g h s = operand reads inner (suc n) (suc l) f names (Operation (Arrow e member)) r (t (Operation (Arrow e member)) r w (omega arith) h s) (omega arith)
spine-complete reads inner n l names k a b c t (Operation (Unary op e)) f r d w g h s = let u = unary_low op in operand reads inner (suc n) (suc l) f names (Operation (Unary op e)) r (t (Operation (Unary op e)) r w (omega arith) h s) (omega arith)
spine-complete reads inner n l names k a b c t (Operation (SizeofType of)) f r d w g h s = operand reads inner (suc n) (suc l) f names (Operation (SizeofType of)) r (t (Operation (SizeofType of)) r w (omega arith) h s) (omega arith)
spine-complete reads inner n l names k a b c t (Operation (Cast to e)) f r d w g h s = operand reads inner (suc n) (suc l) f names (Operation (Cast to e)) r (t (Operation (Cast to e)) r w (omega arith) h s) (omega arith)
spine-complete reads inner n l names k a b c t (Operation (Cond condition then otherwise)) f r d w g h s = operand reads inner (suc n) (suc l) f names (Operation (Cond condition then otherwise)) r (t (Operation (Cond condition then otherwise)) r w (b g) h s) (omega arith)
spine-complete reads inner n l names k a b c t (Operation (Assign op left right)) f r d w g h s = operand reads inner (suc n) (suc l) f names (Operation (Assign op left right)) r (t (Operation (Assign op left right)) r w (c g) h s) (omega arith)
spine-complete reads inner n l names k a b c t (Operation (Binary op left right)) f r d w g h s =
    let e = Operation (Binary op left right) in
    elim (which (nat_eq (level_of op) (suc l)) (op_depth (suc l) left + 1) 0 _ refl) as (λ _. then_chain reads inner (suc n) names (suc l) (tokens_then e r) ≡ read_chain inner (suc n) names (suc l) f e r) [
      | inl p ↦
          let q : level_of op ≡ suc l = grind (arith, p.0) in
          let u = p.1 in
          let v = binary_weighs op in
          spine-complete reads inner n l names k a b c t left (suc f) (Sign (binary_sign op) ∷ tokens_then right r) (omega arith) w.1 (omega (arith, w.0)) (omega arith) (omega arith)
          ∙ joined inner (suc n) l f names op left right r q (k (Expression l) names right r (omega (arith, w.2), w.3) (omega arith) s) h
      | inr p ↦
          let u = p.1 in
          let q : level_of op ≤ l = grind (arith, p.0) in
          operand reads inner (suc n) (suc l) f names e r (t e r w q h s) (omega arith)
    ]
spine-complete reads inner n l names k a b c t _ f r d w g h s = absurd w

chain-end : (inner : Reader) (m level f : ℕ) (names : Names) (e : Syntax) (r : List Symbol) → take_binary level r ≡ None → read_chain inner m names level f e r ≡ Some (e, r)
unfolding read_chain
chain-end inner m level zero names e r h = rw h refl
chain-end inner m level (suc f) names e r h = rw h refl

chain-complete : (reads : List Symbol → Option Found) (inner : Reader) (n l : ℕ) (names : Names) → Knows inner n → cast_level ≤ l → (conditional_level ≤ suc l → conditional_level ≤ l) → (assignment_level ≤ suc l → assignment_level ≤ l) → Climbs reads (suc n) names l
    → Climbs (then_chain reads inner (suc n) names (suc l)) (suc n) names (suc l)
chain-complete reads inner n l names k a b c t e r w g h s =
    let d = op_depth-height (suc l) names e w in
    spine-complete reads inner n l names k a b c t e (suc n - op_depth (suc l) e) r (omega arith) w g h (stops-lower l (suc l) r (omega arith) s)
    ∙ chain-end inner (suc n) (suc l) (suc n - op_depth (suc l) e) names e r (stops-binary (suc l) r s)

pub binary-complete : (inner : Reader) (n : ℕ) (names : Names) (j : ℕ) → Knows inner n → j ≤ 10 → Climbs (read_binary inner (suc n) names j) (suc n) names (j + 2)
unfolding read_binary
binary-complete inner n names zero k q e r w g h s = cast-complete inner n names e r k w g h (stops-lower postfix_level cast_level r (omega arith) s)
binary-complete inner n names (suc j) k q e r w g h s =
    let a : suc (j + 2) ≡ j + 3 = omega arith in
    let F : ℕ → Option Found = λ x. then_chain (read_binary inner (suc n) names j) inner (suc n) names x (tokens_then e r) in
    ap F (sym a)
    ∙ chain-complete (read_binary inner (suc n) names j) inner n (j + 2) names k (omega arith) (λ x. absurd (omega arith)) (λ x. absurd (omega arith)) (binary-complete inner n names j k (omega arith)) e r
    w (omega arith) h (stops-lower (suc (j + 2)) (suc j + 2) r (omega arith) s)

-- no binary operator stands at the levels of conditional expressions and assignments
binary_low : (op : BinaryOp) → level_of op ≤ assignment_level → level_of op ≤ logical_or_level
binary_low binary.Comma h = absurd (omega arith)
binary_low _ h = omega arith

-- no "?" behind it
binary-alone : (inner : Reader) (n : ℕ) (names : Names) → Knows inner n → (e : Syntax) (r : List Symbol) → IsExpr names e → grade e ≤ logical_or_level → height_of e ≤ suc n → Stops conditional_level r
    → read_conditional inner (suc n) names (tokens_then e r) ≡ Some (e, r)
binary-alone inner n names k e r w g h s = rw (binary-complete inner n names 10 k (omega arith) e r w g h (stops-lower logical_or_level conditional_level r (omega arith) s), stops-question r s) refl

pub conditional-complete : (inner : Reader) (n : ℕ) (names : Names) → Knows inner n → Climbs (read_conditional inner (suc n) names) (suc n) names conditional_level
conditional-complete inner n names k (Operation (Cond condition then otherwise)) r w g h s =
    let X = tokens_then then (Sign marks.Colon ∷ tokens_then otherwise r) in
    rw (
      binary-complete inner n names 10 k (omega arith) condition (Sign marks.Question ∷ X) w.1 w.0 (omega arith) (omega arith),
      k (Expression comma_level) names then (Sign marks.Colon ∷ tokens_then otherwise r) (grade_low then, w.2) (omega arith) (omega arith),
      k (Expression conditional_level) names otherwise r (w.3, w.4) (omega arith) s,
    ) (made_low (suc n) (Operation (Cond condition then otherwise)) r h)
conditional-complete inner n names k (Operation (Binary op left right)) r w g h s = binary-alone inner n names k (Operation (Binary op left right)) r w (binary_low op (omega arith)) h s
conditional-complete inner n names k (Operation (Assign op left right)) r w g h s = absurd (omega arith)
conditional-complete inner n names k (Operation (Unary op e)) r w g h s = let a = unary_low op in binary-alone inner n names k (Operation (Unary op e)) r w (omega arith) h s
conditional-complete inner n names k (Operation o) r w g h s = binary-alone inner n names k (Operation o) r w (omega arith) h s
conditional-complete inner n names k (Primary p) r w g h s = binary-alone inner n names k (Primary p) r w (omega arith) h s
conditional-complete inner n names k _ r w g h s = absurd w

-- no assignment behind it
conditional-alone : (inner : Reader) (n : ℕ) (names : Names) → Knows inner n → (e : Syntax) (r : List Symbol) → IsExpr names e → grade e ≤ conditional_level → height_of e ≤ suc n → Stops assignment_level r
    → read_assignment inner (suc n) names (tokens_then e r) ≡ Some (e, r)
conditional-alone inner n names k e r w g h s = rw (conditional-complete inner n names k e r w g h (stops-lower conditional_level assignment_level r (omega arith) s), stops-assign r s) refl

pub assignment-complete : (inner : Reader) (n : ℕ) (names : Names) → Knows inner n → Climbs (read_assignment inner (suc n) names) (suc n) names assignment_level
assignment-complete inner n names k (Operation (Assign op left right)) r w g h s =
    let X = tokens_then right r in
    let a = assign_weighs op in
    rw (
      conditional-complete inner n names k left (Sign (assign_sign op) ∷ X) w.1 (omega (arith, w.0)) (omega arith) (omega arith),
      take_assign-here op X,
      low (grade left) unary_level w.0,
      k (Expression assignment_level) names right r (w.2, w.3) (omega arith) s,
    ) (made_low (suc n) (Operation (Assign op left right)) r h)
assignment-complete inner n names k (Operation (Binary op left right)) r w g h s = let a = binary_low op g in conditional-alone inner n names k (Operation (Binary op left right)) r w (omega arith) h s
assignment-complete inner n names k (Operation (Unary op e)) r w g h s = let a = unary_low op in conditional-alone inner n names k (Operation (Unary op e)) r w (omega arith) h s
assignment-complete inner n names k (Operation o) r w g h s = conditional-alone inner n names k (Operation o) r w (omega arith) h s
assignment-complete inner n names k (Primary p) r w g h s = conditional-alone inner n names k (Primary p) r w (omega arith) h s
assignment-complete inner n names k _ r w g h s = absurd w

pub commas-complete : (inner : Reader) (n : ℕ) (names : Names) → Knows inner n → Climbs (read_commas inner (suc n) names) (suc n) names comma_level
commas-complete inner n names k e r w g h s = chain-complete (read_assignment inner (suc n) names) inner n assignment_level names k (omega arith) (λ x. omega arith) (λ x. omega arith) (assignment-complete inner n names k) e r w g h s

decide : {A : Type 0} (b : Bool) (x y z : A) → (b ≡ true → x ≡ z) → (b ≡ false → y ≡ z) → cond b x y ≡ z
decide true x y z f g = f refl
decide false x y z f g = g refl

pub expression-complete : (inner : Reader) (n level : ℕ) (names : Names) (e : Syntax) (r : List Symbol) → Knows inner n → grade e ≤ level → IsExpr names e → height_of e ≤ suc n → Stops level r
    → read_expression inner (suc n) level names (tokens_then e r) ≡ Some (e, r)
expression-complete inner n level names e r k g w h s =
    decide (nat_le comma_level level) _ _ _ (λ b. let a = at_most comma_level level b in commas-complete inner n names k e r w (grade_low e) h (stops-lower comma_level level r a s)) (λ b15. let a15 = above comma_level level b15 in
    decide (nat_le assignment_level level) _ _ _ (λ b. let a = at_most assignment_level level b in assignment-complete inner n names k e r w (omega arith) h (stops-lower assignment_level level r a s)) (λ b14. let a14 = above assignment_level level b14 in
    decide (nat_le conditional_level level) _ _ _ (λ b. let a = at_most conditional_level level b in conditional-complete inner n names k e r w (omega arith) h (stops-lower conditional_level level r a s)) (λ b13. let a13 = above conditional_level level b13 in
    decide (nat_le cast_level level) _ _ _ (λ b. let a = at_most cast_level level b in binary-complete inner n names (level - cast_level) k (omega arith) e r w (omega arith) h (stops-lower (level - cast_level + 2) level r (omega arith) s)) (λ b2. let a2 = above cast_level level b2 in
    decide (nat_le unary_level level) _ _ _ (λ b. unary-complete inner n names e r k w (omega arith) h (stops-lower postfix_level level r (omega arith) s)) (λ b1. let a1 = above unary_level level b1 in
    postfix-complete inner n names e r k w (omega arith) h (stops-lower postfix_level level r (omega arith) s))))))
