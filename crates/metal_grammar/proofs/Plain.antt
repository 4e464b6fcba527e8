-- The tokens of a pattern's expression are neither braces nor semicolons.
use Rattle.std.proofs.Common.{◌≡◌, Bool, true, false, not, ◌&&◌, ◌||◌, List, [], ◌∷◌, refl}
use Rattle.c_tree.specs.declared.operator.AssignOp.{AssignOp}
use Rattle.c_tree.specs.declared.operator.AssignOp.TheVariants as assign
use Rattle.c_tree.specs.declared.operator.BinaryOp.{BinaryOp}
use Rattle.c_tree.specs.declared.operator.BinaryOp.TheVariants as binary
use Rattle.c_tree.specs.declared.operator.UnaryOp.{UnaryOp}
use Rattle.c_tree.specs.declared.operator.UnaryOp.TheVariants as unary
use Rattle.c_tree.specs.declared.punctuator.Punctuator.TheVariants as marks
use Rattle.c_tree.specs.Symbol.{Symbol, Word, Reserved, Sign, IntLiteral, FloatLiteral, CharLiteral, StringLiteral}
use Rattle.c_tree.specs.Syntax.{Syntax, Primary, Operation, Specifier, Declarator, Part, PrimarySyntax, OperationSyntax, Ident, Constant, StrConst, Paren, VaArg, Offsetof, Index, Call, Member, Arrow, Unary, SizeofType, Cast, Binary, Cond, Assign, TypeName, Specs, StructTag, Unnamed, SpecWord, MemberDesignator, IndexDesignator, MaybeSyntax, absent, present, Syntaxes, no_more, more}
use Rattle.c_tree.specs.Phrase.{Phrase, nothing, one, all, ◌⨾◌}
use Rattle.c_tree.specs.Tokens.{phrase_of, primary_phrase, operation_phrase, unary_phrase, binary_sign, assign_sign, maybe_phrase, row_phrase, list_phrase, more_phrase}
use Rattle.c_grammar.specs.Symbols.{is_sign, is_word, is_string, is_constant, AreAll}
use Rattle.c_grammar.specs.Names.{Names}
use Rattle.c_grammar.specs.Grammar.{IsExpr, IsPrimary, IsOperation, AreArguments, IsPath, IsTypeName, IsItem, AreItems, IsTag, AreStrings}
use Rattle.c_grammar.proofs.Options.{both}
use Rattle.metal_grammar.specs.Patterns.{has_plain_types, primary_has_plain_types, operation_has_plain_types, all_have_plain_types, path_has_plain_types, is_plain_type, is_plain_word, are_plain_words, is_plain_declarator, are_stars}

-- neither a brace nor a semicolon
abbrev pub is_quiet : Symbol → Bool
is_quiet t = not (is_sign marks.OpenBrace t || is_sign marks.CloseBrace t || is_sign marks.Semicolon t)

abbrev pub IsPlain : Phrase → Type 0
IsPlain nothing = Unit {0}
IsPlain (one s) = is_quiet s ≡ true
IsPlain (all ss) = AreAll is_quiet ss
IsPlain (p ⨾ q) = IsPlain p × IsPlain q

word_plain : (t : Symbol) → is_word t ≡ true → is_quiet t ≡ true
word_plain (Word name) h = refl
word_plain _ h = cc

constant_plain : (t : Symbol) → is_constant t ≡ true → is_quiet t ≡ true
constant_plain (IntLiteral value name) h = refl
constant_plain (FloatLiteral end name) h = refl
constant_plain (CharLiteral wide name) h = refl
constant_plain _ h = cc

string_plain : (t : Symbol) → is_string t ≡ true → is_quiet t ≡ true
string_plain (StringLiteral wide name) h = refl
string_plain _ h = cc

strings_plain : (ts : List Symbol) → AreAll is_string ts → AreAll is_quiet ts
strings_plain [] w = tt
strings_plain (t ∷ ts) w = (string_plain t w.0, strings_plain ts w.1)

literals_plain : (ts : List Symbol) → AreStrings ts → AreAll is_quiet ts
literals_plain [] w = absurd w
literals_plain (t ∷ ts) w = strings_plain (t ∷ ts) w

star_plain : (t : Symbol) → is_sign marks.Star t ≡ true → is_quiet t ≡ true
star_plain (Sign marks.Star) h = refl
star_plain (Sign _) h = cc
star_plain _ h = cc

stars_plain : (ts : List Symbol) → are_stars ts ≡ true → AreAll is_quiet ts
stars_plain [] h = tt
stars_plain (t ∷ ts) h = let b = both (is_sign marks.Star t) (are_stars ts) h in (star_plain t b.0, stars_plain ts b.1)

binary_plain : (op : BinaryOp) → is_quiet (Sign (binary_sign op)) ≡ true
binary_plain binary.Multiply = refl
binary_plain _ = refl

assign_plain : (op : AssignOp) → is_quiet (Sign (assign_sign op)) ≡ true
assign_plain assign.Plain = refl
assign_plain _ = refl

unary_plain : (op : UnaryOp) (p : Phrase) → IsPlain p → IsPlain (unary_phrase op p)
unary_plain unary.PostInc p w = (w, refl)
unary_plain unary.PostDec p w = (w, refl)
unary_plain unary.PreInc p w = (refl, w)
unary_plain _ p w = (refl, w)

-- a type name of a hole's type
word_of_type_plain : (names : Names) (typed : Bool) (e : Syntax) → is_plain_word e ≡ true → IsItem IsTag names typed e → IsPlain (phrase_of e)
word_of_type_plain names typed (Part (SpecWord (Reserved k))) h w = refl
word_of_type_plain names typed (Specifier (StructTag which tag)) h w = (refl, word_plain tag w)
word_of_type_plain names typed _ h w = cc

words_plain : (names : Names) (typed : Bool) (es : Syntaxes) → are_plain_words es ≡ true → AreItems IsTag names typed es → IsPlain (row_phrase es)
words_plain names typed no_more h w = tt
words_plain names typed (more e es) h w = let b = both (is_plain_word e) (are_plain_words es) h in (word_of_type_plain names typed e b.0 w.0, words_plain names _ es b.1 w.1)

declarator_plain : (d : MaybeSyntax) → is_plain_declarator d ≡ true → IsPlain (maybe_phrase d)
declarator_plain absent h = tt
declarator_plain (present (Declarator (Unnamed pointers no_more))) h = (stars_plain pointers h, tt)
declarator_plain _ h = cc

type_plain : (names : Names) (e : Syntax) → IsTypeName names e → is_plain_type e ≡ true → IsPlain (phrase_of e)
type_plain names (Specifier (TypeName (Specifier (Specs words)) declarator)) w h =
    let b = both (are_plain_words words) (is_plain_declarator declarator) h in
    (words_plain names false words b.0 w.0.0, declarator_plain declarator b.1)
type_plain names _ w h = cc

mutual
  pub expression_plain : (names : Names) (e : Syntax) → IsExpr names e → has_plain_types e ≡ true → IsPlain (phrase_of e)
  expression_plain names (Primary k) w h = primary_plain names k w h
  expression_plain names (Operation k) w h = operation_plain names k w h
  expression_plain names _ w h = absurd w

  primary_plain : (names : Names) (k : PrimarySyntax) → IsPrimary names k → primary_has_plain_types k ≡ true → IsPlain (primary_phrase k)
  primary_plain names (Ident (Word name)) w h = refl
  primary_plain names (Ident _) w h = absurd w
  primary_plain names (Constant token) w h = constant_plain token w
  primary_plain names (StrConst literals) w h = literals_plain literals w
  primary_plain names (Paren inner) w h = ((refl, expression_plain names inner w h), refl)
  primary_plain names (VaArg list of) w h =
      let b = both (has_plain_types list) (is_plain_type of) h in
      (((((refl, refl), expression_plain names list w.1 b.0), refl), type_plain names of w.2 b.1), refl)
  primary_plain names (Offsetof of member path) w h =
      let b = both (is_plain_type of) (path_has_plain_types path) h in
      ((((((refl, refl), type_plain names of w.0 b.0), refl), word_plain member w.1), path_plain names path w.2 b.1), refl)
  primary_plain names _ w h = absurd w

  operation_plain : (names : Names) (k : OperationSyntax) → IsOperation names k → operation_has_plain_types k ≡ true → IsPlain (operation_phrase k)
  operation_plain names (Index array index) w h =
      let b = both (has_plain_types array) (has_plain_types index) h in
      (((expression_plain names array w.1 b.0, refl), expression_plain names index w.2 b.1), refl)
  operation_plain names (Call callee arguments) w h =
      let b = both (has_plain_types callee) (all_have_plain_types arguments) h in
      (((expression_plain names callee w.1 b.0, refl), arguments_plain names arguments w.2 b.1), refl)
  operation_plain names (Member operand member) w h = ((expression_plain names operand w.1 h, refl), word_plain member w.2)
  operation_plain names (Arrow operand member) w h = ((expression_plain names operand w.1 h, refl), word_plain member w.2)
  operation_plain names (Unary op operand) w h = unary_plain op (phrase_of operand) (expression_plain names operand w.1 h)
  operation_plain names (SizeofType of) w h = (((refl, refl), type_plain names of w h), refl)
  operation_plain names (Cast to operand) w h =
      let b = both (is_plain_type to) (has_plain_types operand) h in
      (((refl, type_plain names to w.0 b.0), refl), expression_plain names operand w.2 b.1)
  operation_plain names (Binary op left right) w h =
      let b = both (has_plain_types left) (has_plain_types right) h in
      ((expression_plain names left w.1 b.0, binary_plain op), expression_plain names right w.3 b.1)
  operation_plain names (Cond condition then otherwise) w h =
      let a = both (has_plain_types condition && has_plain_types then) (has_plain_types otherwise) h in
      let b = both (has_plain_types condition) (has_plain_types then) a.0 in
      ((((expression_plain names condition w.1 b.0, refl), expression_plain names then w.2 b.1), refl), expression_plain names otherwise w.4 a.1)
  operation_plain names (Assign op left right) w h =
      let b = both (has_plain_types left) (has_plain_types right) h in
      ((expression_plain names left w.1 b.0, assign_plain op), expression_plain names right w.3 b.1)
  operation_plain names _ w h = absurd w

  arguments_plain : (names : Names) (es : Syntaxes) → AreArguments names es → all_have_plain_types es ≡ true → IsPlain (list_phrase es)
  arguments_plain names no_more w h = tt
  arguments_plain names (more e es) w h =
      let b = both (has_plain_types e) (all_have_plain_types es) h in
      (expression_plain names e w.1 b.0, more_plain names es w.2 b.1)

  more_plain : (names : Names) (es : Syntaxes) → AreArguments names es → all_have_plain_types es ≡ true → IsPlain (more_phrase es)
  more_plain names no_more w h = tt
  more_plain names (more e es) w h =
      let b = both (has_plain_types e) (all_have_plain_types es) h in
      ((refl, expression_plain names e w.1 b.0), more_plain names es w.2 b.1)

  path_plain : (names : Names) (es : Syntaxes) → IsPath names es → path_has_plain_types es ≡ true → IsPlain (row_phrase es)
  path_plain names no_more w h = tt
  path_plain names (more (Part (MemberDesignator member)) es) w h = ((refl, word_plain member w.0), path_plain names es w.1 h)
  path_plain names (more (Part (IndexDesignator index)) es) w h =
      let b = both (has_plain_types index) (path_has_plain_types es) h in
      (((refl, expression_plain names index w.0 b.0), refl), path_plain names es w.1 b.1)
  path_plain names (more _ es) w h = absurd w.0
