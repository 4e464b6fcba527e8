-- What is read as an expression is one.
use Rattle.std.proofs.Common.{◌≡◌, ℕ, zero, suc, ◌+◌, ◌-◌, ◌<◌, ◌≤◌, nat_le, List, [], ◌∷◌, length, Option, Some, inl, inr, ap, refl, ◌∙◌, subst, arith}
use Rattle.c_tree.specs.declared.keyword.Keyword.TheVariants as words
use Rattle.c_tree.specs.declared.operator.UnaryOp.{UnaryOp}
use Rattle.c_tree.specs.declared.operator.UnaryOp.TheVariants as unary
use Rattle.c_tree.specs.declared.punctuator.Punctuator.TheVariants as marks
use Rattle.c_tree.specs.Symbol.{Symbol, Word, Reserved, Sign, IntLiteral, FloatLiteral, CharLiteral, StringLiteral}
use Rattle.c_tree.specs.Syntax.{Syntax, Primary, Operation, Part, Ident, Constant, StrConst, Paren, VaArg, Offsetof, Index, Call, Member, Arrow, Unary, SizeofType, Cast, Binary, Cond, Assign, MemberDesignator, IndexDesignator, Syntaxes, no_more, more}
use Rattle.c_tree.specs.Height.{height_of}
use Rattle.c_tree.specs.Phrase.{phrase_then}
use Rattle.c_tree.specs.Tokens.{binary_sign, assign_sign, list_phrase, row_phrase, tokens_then}
use Rattle.c_grammar.specs.Symbols.{after_sign, after_keyword, begins, take_symbol, run_of, after_run, is_word, is_string}
use Rattle.c_grammar.specs.Levels.{postfix_level, unary_level, cast_level, logical_or_level, conditional_level, assignment_level, comma_level, level_of, unary_grade, operand_level, grade, prefix_of}
use Rattle.c_grammar.specs.Names.{Names, is_type}
use Rattle.c_grammar.specs.Specifiers.{begins_specifiers}
use Rattle.c_grammar.specs.Nonterminal.{Expression, NameOfType}
use Rattle.c_grammar.specs.Grammar.{IsExpr, AreArguments, IsPath, IsDesignator}
use Rattle.c_grammar.specs.Found.{Reader, made}
use Rattle.c_grammar.specs.Ways.ExpressionSteps.{read_designator, read_path, read_va_arg, read_offsetof, read_paren, read_primary, read_more_arguments, read_arguments, begins_postfix, read_postfix_operator, read_postfix_operators, read_postfix, after_type_paren, read_sizeof, take_prefix, read_unary, read_cast, take_binary, read_chain, read_binary, read_conditional, take_assign, read_assignment, read_commas, read_expression}
use Rattle.c_grammar.proofs.Options.{same, bound, chosen, unless, when, which, parts, made_some, at_most}
use Rattle.c_grammar.proofs.Front.{take_symbol_some, taken, taken_keyword, run-all, run-has, take_binary-some, take_assign-some}
use Rattle.c_grammar.proofs.Readers.{Stands, IsSound, finish}
use Rattle.c_grammar.proofs.SoundDeclarators.{IsMore, with_comma}

-- what stands at a level stands at each level above it
pub raise : (m j k : ℕ) (names : Names) (ts : List Symbol) (e : Syntax) (r : List Symbol) → j ≤ k → Stands m (Expression j) names ts e r → Stands m (Expression k) names ts e r
raise m j k names ts e r h s = let g = s.well.0 in record { tokens = s.tokens; well = (omega (arith, g), s.well.1); height = s.height }

record Designator (names : Names) (ts : List Symbol) (e : Syntax) (r : List Symbol) : Type 0 where
  pub tokens : ts ≡ tokens_then e r
  pub well : IsDesignator names e

found_designator : (names : Names) (ts : List Symbol) (x : Syntax) (t : List Symbol) (e : Syntax) (r : List Symbol)
    → ◌≡◌ {A = Option (Syntax × List Symbol)} (Some (x, t)) (Some (e, r)) → ts ≡ tokens_then x t → IsDesignator names x → Designator names ts e r
found_designator names ts x t e r h k w =
    let q = parts (x, t) (e, r) h in
    subst (λ y. Designator names ts y r) q.0 (record { tokens = k ∙ ap (tokens_then x) q.1; well = w })

designator-sound : (inner : Reader) (n : ℕ) (names : Names) (ts : List Symbol) (e : Syntax) (r : List Symbol)
    → IsSound inner n → read_designator inner names ts ≡ Some (e, r) → Designator names ts e r
designator-sound inner n names ts e r s h =
    elim (chosen (after_sign marks.Dot ts) _ _ _ h) as (λ _. Designator names ts e r) [
      | inr o ↦
          let a = bound (take_symbol is_word o.0) _ _ o.2 in
          let t = take_symbol_some is_word o.0 a.0.0 a.0.1 a.1 in
          found_designator names ts (Part (MemberDesignator a.0.0)) a.0.1 e r a.2 (taken marks.Dot ts o.0 o.1 ∙ ap (λ x. Sign marks.Dot ∷ x) t.0) t.1
      | inl o ↦
          let a = bound (after_sign marks.OpenBracket ts) _ _ o.1 in
          let b = bound (inner (Expression comma_level) names a.0) _ _ a.2 in
          let i = s (Expression comma_level) names a.0 b.0.0 b.0.1 b.1 in
          let c = bound (after_sign marks.CloseBracket b.0.1) _ _ b.2 in
          found_designator names ts (Part (IndexDesignator b.0.0)) c.0 e r c.2
          (taken marks.OpenBracket ts a.0 a.1 ∙ ap (λ x. Sign marks.OpenBracket ∷ x) (i.tokens ∙ ap (tokens_then b.0.0) (taken marks.CloseBracket b.0.1 c.0 c.1))) i.well.1
    ]

record Path (names : Names) (ts : List Symbol) (es : Syntaxes) (r : List Symbol) : Type 0 where
  pub tokens : ts ≡ phrase_then (row_phrase es) (Sign marks.CloseParen ∷ r)
  pub well : IsPath names es

path-sound : (inner : Reader) (n : ℕ) (names : Names) (f : ℕ) (ts : List Symbol) (es : Syntaxes) (r : List Symbol)
    → IsSound inner n → read_path inner names f ts ≡ Some (es, r) → Path names ts es r
unfolding read_path
path-sound inner n names zero ts es r s h = cc
path-sound inner n names (suc f) ts es r s h =
    elim (chosen (after_sign marks.CloseParen ts) _ _ _ h) as (λ _. Path names ts es r) [
      | inr o ↦
          let q = parts (no_more, o.0) (es, r) o.2 in
          subst (λ x. Path names ts x r) q.0 (record { tokens = taken marks.CloseParen ts o.0 o.1 ∙ ap (λ x. Sign marks.CloseParen ∷ x) q.1; well = tt })
      | inl o ↦
          let a = bound (read_designator inner names ts) _ _ o.1 in
          let i = designator-sound inner n names ts a.0.0 a.0.1 s a.1 in
          let b = bound (read_path inner names f a.0.1) _ _ a.2 in
          let j = path-sound inner n names f a.0.1 b.0.0 b.0.1 s b.1 in
          let q = parts (more a.0.0 b.0.0, b.0.1) (es, r) b.2 in
          subst (λ x. Path names ts x r) q.0 (record {
            tokens = i.tokens ∙ ap (tokens_then a.0.0) (j.tokens ∙ ap (λ x. phrase_then (row_phrase b.0.0) (Sign marks.CloseParen ∷ x)) q.1);
            well = (i.well, j.well);
          })
    ]

va_arg-sound : (inner : Reader) (n m : ℕ) (names : Names) (ts : List Symbol) (e : Syntax) (r : List Symbol)
    → IsSound inner n → read_va_arg inner m names ts ≡ Some (e, r) → Stands m (Expression postfix_level) names (Reserved words.BuiltinVaArg ∷ ts) e r
va_arg-sound inner n m names ts e r s h =
    let a = bound (after_sign marks.OpenParen ts) _ _ h in
    let b = bound (inner (Expression assignment_level) names a.0) _ _ a.2 in
    let i = s (Expression assignment_level) names a.0 b.0.0 b.0.1 b.1 in
    let c = bound (after_sign marks.Comma b.0.1) _ _ b.2 in
    let d = bound (inner NameOfType names c.0) _ _ c.2 in
    let j = s NameOfType names c.0 d.0.0 d.0.1 d.1 in
    let z = bound (after_sign marks.CloseParen d.0.1) _ _ d.2 in
    let tail : b.0.1 ≡ Sign marks.Comma ∷ tokens_then d.0.0 (Sign marks.CloseParen ∷ z.0) =
    taken marks.Comma b.0.1 c.0 c.1 ∙ ap (λ x. Sign marks.Comma ∷ x) (j.tokens ∙ ap (tokens_then d.0.0) (taken marks.CloseParen d.0.1 z.0 z.1)) in
    finish m (Expression postfix_level) names _ (Primary (VaArg b.0.0 d.0.0)) z.0 e r z.2
    (ap (λ x. Reserved words.BuiltinVaArg ∷ x) (taken marks.OpenParen ts a.0 a.1 ∙ ap (λ x. Sign marks.OpenParen ∷ x) (i.tokens ∙ ap (tokens_then b.0.0) tail)))
    (omega arith, (i.well.0, i.well.1, j.well))

offsetof-sound : (inner : Reader) (n m : ℕ) (names : Names) (ts : List Symbol) (e : Syntax) (r : List Symbol)
    → IsSound inner n → read_offsetof inner m names ts ≡ Some (e, r) → Stands m (Expression postfix_level) names (Reserved words.BuiltinOffsetof ∷ ts) e r
offsetof-sound inner n m names ts e r s h =
    let a = bound (after_sign marks.OpenParen ts) _ _ h in
    let b = bound (inner NameOfType names a.0) _ _ a.2 in
    let i = s NameOfType names a.0 b.0.0 b.0.1 b.1 in
    let c = bound (after_sign marks.Comma b.0.1) _ _ b.2 in
    let d = bound (take_symbol is_word c.0) _ _ c.2 in
    let t = take_symbol_some is_word c.0 d.0.0 d.0.1 d.1 in
    let z = bound (read_path inner names (length d.0.1) d.0.1) _ _ d.2 in
    let j = path-sound inner n names (length d.0.1) d.0.1 z.0.0 z.0.1 s z.1 in
    let tail : b.0.1 ≡ Sign marks.Comma ∷ d.0.0 ∷ phrase_then (row_phrase z.0.0) (Sign marks.CloseParen ∷ z.0.1) =
    taken marks.Comma b.0.1 c.0 c.1 ∙ ap (λ x. Sign marks.Comma ∷ x) (t.0 ∙ ap (λ x. d.0.0 ∷ x) j.tokens) in
    finish m (Expression postfix_level) names _ (Primary (Offsetof b.0.0 d.0.0 z.0.0)) z.0.1 e r z.2
    (ap (λ x. Reserved words.BuiltinOffsetof ∷ x) (taken marks.OpenParen ts a.0 a.1 ∙ ap (λ x. Sign marks.OpenParen ∷ x) (i.tokens ∙ ap (tokens_then b.0.0) tail)))
    (omega arith, (i.well, t.1, j.well))

paren-sound : (inner : Reader) (n m : ℕ) (names : Names) (ts : List Symbol) (e : Syntax) (r : List Symbol)
    → IsSound inner n → read_paren inner m names ts ≡ Some (e, r) → Stands m (Expression postfix_level) names ts e r
paren-sound inner n m names ts e r s h =
    let a = bound (after_sign marks.OpenParen ts) _ _ h in
    let b = bound (inner (Expression comma_level) names a.0) _ _ a.2 in
    let i = s (Expression comma_level) names a.0 b.0.0 b.0.1 b.1 in
    let c = bound (after_sign marks.CloseParen b.0.1) _ _ b.2 in
    finish m (Expression postfix_level) names ts (Primary (Paren b.0.0)) c.0 e r c.2
    (taken marks.OpenParen ts a.0 a.1 ∙ ap (λ x. Sign marks.OpenParen ∷ x) (i.tokens ∙ ap (tokens_then b.0.0) (taken marks.CloseParen b.0.1 c.0 c.1)))
    (omega arith, i.well.1)

built_in-sound : (inner : Reader) (n m : ℕ) (names : Names) (ts rest : List Symbol) (e : Syntax) (r : List Symbol)
    → IsSound inner n → after_keyword words.BuiltinVaArg ts ≡ Some rest → read_va_arg inner m names rest ≡ Some (e, r) → Stands m (Expression postfix_level) names ts e r
built_in-sound inner n m names ts rest e r s k h =
    let i = va_arg-sound inner n m names rest e r s h in
    record { tokens = taken_keyword words.BuiltinVaArg ts rest k ∙ i.tokens; well = i.well; height = i.height }

primary-sound : (inner : Reader) (n m : ℕ) (names : Names) (ts : List Symbol) (e : Syntax) (r : List Symbol)
    → IsSound inner n → read_primary inner m names ts ≡ Some (e, r) → Stands m (Expression postfix_level) names ts e r
primary-sound inner n m names [] e r s h = cc
primary-sound inner n m names (Word name ∷ ts) e r s h =
    let u = unless (is_type names name) (made m (Primary (Ident (Word name))) ts) (e, r) h in
    finish m (Expression postfix_level) names (Word name ∷ ts) (Primary (Ident (Word name))) ts e r u.1 refl (omega arith, u.0)
primary-sound inner n m names (IntLiteral value spelling ∷ ts) e r s h = finish m (Expression postfix_level) names (IntLiteral value spelling ∷ ts) (Primary (Constant (IntLiteral value spelling))) ts e r h refl (omega arith, refl)
primary-sound inner n m names (FloatLiteral end spelling ∷ ts) e r s h = finish m (Expression postfix_level) names (FloatLiteral end spelling ∷ ts) (Primary (Constant (FloatLiteral end spelling))) ts e r h refl (omega arith, refl)
primary-sound inner n m names (CharLiteral wide spelling ∷ ts) e r s h = finish m (Expression postfix_level) names (CharLiteral wide spelling ∷ ts) (Primary (Constant (CharLiteral wide spelling))) ts e r h refl (omega arith, refl)
primary-sound inner n m names (StringLiteral wide spelling ∷ ts) e r s h =
    finish m (Expression postfix_level) names (StringLiteral wide spelling ∷ ts) (Primary (StrConst (StringLiteral wide spelling ∷ run_of is_string ts))) (after_run is_string ts) e r h
    (ap (λ x. StringLiteral wide spelling ∷ x) (run-all is_string ts)) (omega arith, (refl, run-has is_string ts))
primary-sound inner n m names (Sign p ∷ ts) e r s h = paren-sound inner n m names (Sign p ∷ ts) e r s h
primary-sound inner n m names (Reserved k ∷ ts) e r s h =
    elim (chosen (after_keyword words.BuiltinVaArg (Reserved k ∷ ts)) _ _ _ h) as (λ _. Stands m (Expression postfix_level) names (Reserved k ∷ ts) e r) [
      | inr o ↦ built_in-sound inner n m names (Reserved k ∷ ts) o.0 e r s o.1 o.2
      | inl o ↦
          let a = bound (after_keyword words.BuiltinOffsetof (Reserved k ∷ ts)) _ _ o.1 in
          let i = offsetof-sound inner n m names a.0 e r s a.2 in
          record { tokens = taken_keyword words.BuiltinOffsetof (Reserved k ∷ ts) a.0 a.1 ∙ i.tokens; well = i.well; height = i.height }
    ]

record Arguments (names : Names) (ts : List Symbol) (es : Syntaxes) (r : List Symbol) : Type 0 where
  pub tokens : ts ≡ phrase_then (list_phrase es) (Sign marks.CloseParen ∷ r)
  pub well : AreArguments names es

record MoreArguments (names : Names) (ts : List Symbol) (es : Syntaxes) (r : List Symbol) : Type 0 where
  pub arguments : Arguments names ts es r
  pub some : IsMore es

arguments_to : (names : Names) (ts : List Symbol) (xs : Syntaxes) (t : List Symbol) (es : Syntaxes) (r : List Symbol)
    → ◌≡◌ {A = Option (Syntaxes × List Symbol)} (Some (xs, t)) (Some (es, r)) → MoreArguments names ts xs t → MoreArguments names ts es r
arguments_to names ts xs t es r h a = let q = parts (xs, t) (es, r) h in subst (λ x. MoreArguments names ts x r) q.0 (subst (λ x. MoreArguments names ts xs x) q.1 a)

more_arguments-sound : (inner : Reader) (n : ℕ) (names : Names) (f : ℕ) (ts : List Symbol) (es : Syntaxes) (r : List Symbol)
    → IsSound inner n → read_more_arguments inner names f ts ≡ Some (es, r) → MoreArguments names ts es r
unfolding read_more_arguments
more_arguments-sound inner n names zero ts es r s h = cc
more_arguments-sound inner n names (suc f) ts es r s h =
    let a = bound (inner (Expression assignment_level) names ts) _ _ h in
    let i = s (Expression assignment_level) names ts a.0.0 a.0.1 a.1 in
    elim (chosen (after_sign marks.Comma a.0.1) _ _ _ a.2) as (λ _. MoreArguments names ts es r) [
      | inl p ↦
          let b = bound (after_sign marks.CloseParen a.0.1) _ _ p.1 in
          arguments_to names ts (more a.0.0 no_more) b.0 es r b.2 (record {
            arguments = record { tokens = i.tokens ∙ ap (tokens_then a.0.0) (taken marks.CloseParen a.0.1 b.0 b.1); well = (i.well.0, i.well.1, tt) };
            some = tt;
          })
      | inr p ↦
          let b = bound (read_more_arguments inner names f p.0) _ _ p.2 in
          let j = more_arguments-sound inner n names f p.0 b.0.0 b.0.1 s b.1 in
          arguments_to names ts (more a.0.0 b.0.0) b.0.1 es r b.2 (record {
            arguments = record {
              tokens = i.tokens ∙ ap (tokens_then a.0.0) (taken marks.Comma a.0.1 p.0 p.1 ∙ ap (λ x. Sign marks.Comma ∷ x) j.arguments.tokens ∙ with_comma b.0.0 _ j.some);
              well = (i.well.0, i.well.1, j.arguments.well);
            };
            some = tt;
          })
    ]

arguments-sound : (inner : Reader) (n : ℕ) (names : Names) (ts : List Symbol) (es : Syntaxes) (r : List Symbol)
    → IsSound inner n → read_arguments inner names ts ≡ Some (es, r) → Arguments names ts es r
arguments-sound inner n names ts es r s h =
    elim (chosen (after_sign marks.CloseParen ts) _ _ _ h) as (λ _. Arguments names ts es r) [
      | inl o ↦ let i = more_arguments-sound inner n names (length ts) ts es r s o.1 in i.arguments
      | inr o ↦
          let q = parts (no_more, o.0) (es, r) o.2 in
          subst (λ x. Arguments names ts x r) q.0 (record { tokens = taken marks.CloseParen ts o.0 o.1 ∙ ap (λ x. Sign marks.CloseParen ∷ x) q.1; well = tt })
    ]

postfix_operator-sound : (inner : Reader) (n m : ℕ) (names : Names) (operand : Syntax) (ts : List Symbol) (e : Syntax) (r : List Symbol)
    → IsSound inner n → grade operand ≤ postfix_level → IsExpr names operand → read_postfix_operator inner m names operand ts ≡ Some (e, r)
    → Stands m (Expression postfix_level) names (tokens_then operand ts) e r
postfix_operator-sound inner n m names operand ts e r s g w h =
    elim (chosen (after_sign marks.OpenBracket ts) _ _ _ h) as (λ _. Stands m (Expression postfix_level) names (tokens_then operand ts) e r) [
      | inr o ↦
          let a = bound (inner (Expression comma_level) names o.0) _ _ o.2 in
          let i = s (Expression comma_level) names o.0 a.0.0 a.0.1 a.1 in
          let b = bound (after_sign marks.CloseBracket a.0.1) _ _ a.2 in
          finish m (Expression postfix_level) names _ (Operation (Index operand a.0.0)) b.0 e r b.2
          (ap (tokens_then operand) (taken marks.OpenBracket ts o.0 o.1 ∙ ap (λ x. Sign marks.OpenBracket ∷ x) (i.tokens ∙ ap (tokens_then a.0.0) (taken marks.CloseBracket a.0.1 b.0 b.1))))
          (omega arith, (g, w, i.well.1))
      | inl o ↦ elim (chosen (after_sign marks.OpenParen ts) _ _ _ o.1) as (λ _. Stands m (Expression postfix_level) names (tokens_then operand ts) e r) [
        | inr p ↦
            let a = bound (read_arguments inner names p.0) _ _ p.2 in
            let i = arguments-sound inner n names p.0 a.0.0 a.0.1 s a.1 in
            finish m (Expression postfix_level) names _ (Operation (Call operand a.0.0)) a.0.1 e r a.2
            (ap (tokens_then operand) (taken marks.OpenParen ts p.0 p.1 ∙ ap (λ x. Sign marks.OpenParen ∷ x) i.tokens)) (omega arith, (g, w, i.well))
        | inl p ↦ elim (chosen (after_sign marks.Dot ts) _ _ _ p.1) as (λ _. Stands m (Expression postfix_level) names (tokens_then operand ts) e r) [
          | inr d ↦
              let a = bound (take_symbol is_word d.0) _ _ d.2 in
              let t = take_symbol_some is_word d.0 a.0.0 a.0.1 a.1 in
              finish m (Expression postfix_level) names _ (Operation (Member operand a.0.0)) a.0.1 e r a.2
              (ap (tokens_then operand) (taken marks.Dot ts d.0 d.1 ∙ ap (λ x. Sign marks.Dot ∷ x) t.0)) (omega arith, (g, w, t.1))
          | inl d ↦ elim (chosen (after_sign marks.Arrow ts) _ _ _ d.1) as (λ _. Stands m (Expression postfix_level) names (tokens_then operand ts) e r) [
            | inr b ↦
                let a = bound (take_symbol is_word b.0) _ _ b.2 in
                let t = take_symbol_some is_word b.0 a.0.0 a.0.1 a.1 in
                finish m (Expression postfix_level) names _ (Operation (Arrow operand a.0.0)) a.0.1 e r a.2
                (ap (tokens_then operand) (taken marks.Arrow ts b.0 b.1 ∙ ap (λ x. Sign marks.Arrow ∷ x) t.0)) (omega arith, (g, w, t.1))
            | inl b ↦ elim (chosen (after_sign marks.Increment ts) _ _ _ b.1) as (λ _. Stands m (Expression postfix_level) names (tokens_then operand ts) e r) [
              | inr i ↦
                  finish m (Expression postfix_level) names _ (Operation (Unary unary.PostInc operand)) i.0 e r i.2
                  (ap (tokens_then operand) (taken marks.Increment ts i.0 i.1)) (omega arith, (g, w))
              | inl i ↦
                  let a = bound (after_sign marks.Decrement ts) _ _ i.1 in
                  finish m (Expression postfix_level) names _ (Operation (Unary unary.PostDec operand)) a.0 e r a.2
                  (ap (tokens_then operand) (taken marks.Decrement ts a.0 a.1)) (omega arith, (g, w))
            ]
          ]
        ]
      ]
    ]

as_found : (m k : ℕ) (names : Names) (left : Syntax) (ts : List Symbol) (e : Syntax) (r : List Symbol)
    → ◌≡◌ {A = Option (Syntax × List Symbol)} (Some (left, ts)) (Some (e, r)) → grade left ≤ k → IsExpr names left → height_of left ≤ m → Stands m (Expression k) names (tokens_then left ts) e r
as_found m k names left ts e r h g w l =
    let q = parts (left, ts) (e, r) h in
    subst (λ x. Stands m (Expression k) names (tokens_then left ts) x r) q.0 (record { tokens = ap (tokens_then left) q.1; well = (g, w); height = l })

postfix_operators-sound : (inner : Reader) (n m : ℕ) (names : Names) (f : ℕ) (operand : Syntax) (ts : List Symbol) (e : Syntax) (r : List Symbol)
    → IsSound inner n → grade operand ≤ postfix_level → IsExpr names operand → height_of operand ≤ m → read_postfix_operators inner m names f operand ts ≡ Some (e, r)
    → Stands m (Expression postfix_level) names (tokens_then operand ts) e r
unfolding read_postfix_operators
postfix_operators-sound inner n m names zero operand ts e r s g w l h = let u = unless (begins begins_postfix ts) _ _ h in as_found m postfix_level names operand ts e r u.1 g w l
postfix_operators-sound inner n m names (suc f) operand ts e r s g w l h =
    elim (which (begins begins_postfix ts) _ _ _ h) as (λ _. Stands m (Expression postfix_level) names (tokens_then operand ts) e r) [
      | inr o ↦ as_found m postfix_level names operand ts e r o.1 g w l
      | inl o ↦
          let a = bound (read_postfix_operator inner m names operand ts) _ _ o.1 in
          let i = postfix_operator-sound inner n m names operand ts a.0.0 a.0.1 s g w a.1 in
          let j = postfix_operators-sound inner n m names f a.0.0 a.0.1 e r s i.well.0 i.well.1 i.height a.2 in
          record { tokens = i.tokens ∙ j.tokens; well = j.well; height = j.height }
    ]

postfix-sound : (inner : Reader) (n m : ℕ) (names : Names) (ts : List Symbol) (e : Syntax) (r : List Symbol)
    → IsSound inner n → read_postfix inner m names ts ≡ Some (e, r) → Stands m (Expression postfix_level) names ts e r
postfix-sound inner n m names ts e r s h =
    let a = bound (read_primary inner m names ts) _ _ h in
    let i = primary-sound inner n m names ts a.0.0 a.0.1 s a.1 in
    let j = postfix_operators-sound inner n m names m a.0.0 a.0.1 e r s i.well.0 i.well.1 i.height a.2 in
    record { tokens = i.tokens ∙ j.tokens; well = j.well; height = j.height }

pub type_paren_some : (names : Names) (ts inside : List Symbol) → after_type_paren names ts ≡ Some inside → ts ≡ Sign marks.OpenParen ∷ inside
type_paren_some names ts inside h =
    let a = bound (after_sign marks.OpenParen ts) _ _ h in
    let k = when (begins (begins_specifiers names) a.0) (Some a.0) inside a.2 in
    let e : a.0 ≡ inside = cc in
    taken marks.OpenParen ts a.0 a.1 ∙ ap (λ x. Sign marks.OpenParen ∷ x) e

sizeof-sound : (inner : Reader) (n m : ℕ) (names : Names) (ts : List Symbol) (e : Syntax) (r : List Symbol)
    → IsSound inner n → read_sizeof inner m names ts ≡ Some (e, r) → Stands m (Expression unary_level) names (Reserved words.Sizeof ∷ ts) e r
sizeof-sound inner n m names ts e r s h =
    elim (chosen (after_type_paren names ts) _ _ _ h) as (λ _. Stands m (Expression unary_level) names (Reserved words.Sizeof ∷ ts) e r) [
      | inl o ↦
          let a = bound (inner (Expression unary_level) names ts) _ _ o.1 in
          let i = s (Expression unary_level) names ts a.0.0 a.0.1 a.1 in
          finish m (Expression unary_level) names _ (Operation (Unary unary.Sizeof a.0.0)) a.0.1 e r a.2 (ap (λ x. Reserved words.Sizeof ∷ x) i.tokens) (omega arith, i.well)
      | inr o ↦
          let a = bound (inner NameOfType names o.0) _ _ o.2 in
          let i = s NameOfType names o.0 a.0.0 a.0.1 a.1 in
          let b = bound (after_sign marks.CloseParen a.0.1) _ _ a.2 in
          finish m (Expression unary_level) names _ (Operation (SizeofType a.0.0)) b.0 e r b.2
          (ap (λ x. Reserved words.Sizeof ∷ x) (type_paren_some names ts o.0 o.1 ∙ ap (λ x. Sign marks.OpenParen ∷ x) (i.tokens ∙ ap (tokens_then a.0.0) (taken marks.CloseParen a.0.1 b.0 b.1))))
          (omega arith, i.well)
    ]

-- an operator in front of an operand
prefix_tokens : (t : Symbol) (op : UnaryOp) (e : Syntax) (r : List Symbol) → prefix_of t ≡ Some op → t ∷ tokens_then e r ≡ tokens_then (Operation (Unary op e)) r
prefix_tokens (Sign marks.Increment) op e r h = ap (λ o. tokens_then (Operation (Unary o e)) r) (same unary.PreInc op h)
prefix_tokens (Sign marks.Decrement) op e r h = ap (λ o. tokens_then (Operation (Unary o e)) r) (same unary.PreDec op h)
prefix_tokens (Sign marks.Ampersand) op e r h = ap (λ o. tokens_then (Operation (Unary o e)) r) (same unary.AddressOf op h)
prefix_tokens (Sign marks.Star) op e r h = ap (λ o. tokens_then (Operation (Unary o e)) r) (same unary.Deref op h)
prefix_tokens (Sign marks.Plus) op e r h = ap (λ o. tokens_then (Operation (Unary o e)) r) (same unary.Plus op h)
prefix_tokens (Sign marks.Minus) op e r h = ap (λ o. tokens_then (Operation (Unary o e)) r) (same unary.Minus op h)
prefix_tokens (Sign marks.Tilde) op e r h = ap (λ o. tokens_then (Operation (Unary o e)) r) (same unary.BitNot op h)
prefix_tokens (Sign marks.Exclamation) op e r h = ap (λ o. tokens_then (Operation (Unary o e)) r) (same unary.Not op h)
prefix_tokens _ op e r h = cc

low_unary : (op : UnaryOp) → unary_grade op ≤ unary_level
low_unary unary.PostInc = omega arith
low_unary unary.PostDec = omega arith
low_unary _ = omega arith

take_prefix_tokens : (ts : List Symbol) (op : UnaryOp) (rest : List Symbol) (e : Syntax) (r : List Symbol) → take_prefix ts ≡ Some (op, rest) → rest ≡ tokens_then e r → ts ≡ tokens_then (Operation (Unary op e)) r
take_prefix_tokens [] op rest e r h k = cc
take_prefix_tokens (t ∷ ts) op rest e r h k =
    let b = bound (prefix_of t) _ _ h in
    let p = parts (b.0, ts) (op, rest) b.2 in
    ap (λ x. t ∷ x) (p.1 ∙ k) ∙ prefix_tokens t b.0 e r b.1 ∙ ap (λ o. tokens_then (Operation (Unary o e)) r) p.0

unary-sound : (inner : Reader) (n m : ℕ) (names : Names) (ts : List Symbol) (e : Syntax) (r : List Symbol)
    → IsSound inner n → read_unary inner m names ts ≡ Some (e, r) → Stands m (Expression unary_level) names ts e r
unary-sound inner n m names ts e r s h =
    elim (chosen (take_prefix ts) _ _ _ h) as (λ _. Stands m (Expression unary_level) names ts e r) [
      | inr o ↦
          let op = o.0.0 in
          let a = bound (inner (Expression (operand_level op)) names o.0.1) _ _ o.2 in
          let i = s (Expression (operand_level op)) names o.0.1 a.0.0 a.0.1 a.1 in
          finish m (Expression unary_level) names ts (Operation (Unary op a.0.0)) a.0.1 e r a.2 (take_prefix_tokens ts op o.0.1 a.0.0 a.0.1 o.1 i.tokens) (low_unary op, i.well)
      | inl o ↦ elim (chosen (after_keyword words.Sizeof ts) _ _ _ o.1) as (λ _. Stands m (Expression unary_level) names ts e r) [
        | inl p ↦ raise m postfix_level unary_level names ts e r (omega arith) (postfix-sound inner n m names ts e r s p.1)
        | inr p ↦
            let i = sizeof-sound inner n m names p.0 e r s p.2 in
            record { tokens = taken_keyword words.Sizeof ts p.0 p.1 ∙ i.tokens; well = i.well; height = i.height }
      ]
    ]

cast-sound : (inner : Reader) (n m : ℕ) (names : Names) (ts : List Symbol) (e : Syntax) (r : List Symbol)
    → IsSound inner n → read_cast inner m names ts ≡ Some (e, r) → Stands m (Expression cast_level) names ts e r
cast-sound inner n m names ts e r s h =
    elim (chosen (after_type_paren names ts) _ _ _ h) as (λ _. Stands m (Expression cast_level) names ts e r) [
      | inl o ↦ raise m unary_level cast_level names ts e r (omega arith) (unary-sound inner n m names ts e r s o.1)
      | inr o ↦
          let a = bound (inner NameOfType names o.0) _ _ o.2 in
          let i = s NameOfType names o.0 a.0.0 a.0.1 a.1 in
          let b = bound (after_sign marks.CloseParen a.0.1) _ _ a.2 in
          let c = bound (inner (Expression cast_level) names b.0) _ _ b.2 in
          let j = s (Expression cast_level) names b.0 c.0.0 c.0.1 c.1 in
          finish m (Expression cast_level) names ts (Operation (Cast a.0.0 c.0.0)) c.0.1 e r c.2
          (type_paren_some names ts o.0 o.1 ∙ ap (λ x. Sign marks.OpenParen ∷ x) (i.tokens ∙ ap (tokens_then a.0.0) (taken marks.CloseParen a.0.1 b.0 b.1 ∙ ap (λ x. Sign marks.CloseParen ∷ x) j.tokens)))
          (omega arith, (i.well, j.well.0, j.well.1))
    ]

chain-sound : (inner : Reader) (n m : ℕ) (names : Names) (level f : ℕ) (left : Syntax) (ts : List Symbol) (e : Syntax) (r : List Symbol)
    → IsSound inner n → 0 < level → grade left ≤ level → IsExpr names left → height_of left ≤ m → read_chain inner m names level f left ts ≡ Some (e, r)
    → Stands m (Expression level) names (tokens_then left ts) e r
unfolding read_chain
chain-sound inner n m names level zero left ts e r s p g w l h =
    elim (chosen (take_binary level ts) _ _ _ h) as (λ _. Stands m (Expression level) names (tokens_then left ts) e r) [
      | inl o ↦ as_found m level names left ts e r o.1 g w l
      | inr o ↦ let d = o.2 in cc
    ]
chain-sound inner n m names level (suc f) left ts e r s p g w l h =
    elim (chosen (take_binary level ts) _ _ _ h) as (λ _. Stands m (Expression level) names (tokens_then left ts) e r) [
      | inl o ↦ as_found m level names left ts e r o.1 g w l
      | inr o ↦
          let op = o.0.0 in
          let t = take_binary-some level ts op o.0.1 o.1 in
          let a = bound (inner (Expression (level - 1)) names o.0.1) _ _ o.2 in
          let i = s (Expression (level - 1)) names o.0.1 a.0.0 a.0.1 a.1 in
          let node = Operation (Binary op left a.0.0) in
          let b = bound (made m node a.0.1) _ _ a.2 in
          let q = made_some m node b.0.0 a.0.1 b.0.1 b.1 in
          let tokens : tokens_then left ts ≡ tokens_then node a.0.1 = ap (tokens_then left) (t.0 ∙ ap (λ x. Sign (binary_sign op) ∷ x) i.tokens) in
          let rest : read_chain inner m names level f node a.0.1 ≡ Some (e, r) =
          ap (λ x. read_chain inner m names level f x a.0.1) q.1 ∙ ap (λ x. read_chain inner m names level f b.0.0 x) q.2 ∙ b.2 in
          let ig = i.well.0 in
          let lo : grade left ≤ level_of op = omega (arith, t.1) in
          let hi : grade a.0.0 < level_of op = omega (arith, t.1, ig) in
          let top : grade node ≤ level = omega (arith, t.1) in
          let j = chain-sound inner n m names level f node a.0.1 e r s p top (lo, w, hi, i.well.1) q.0 rest in
          record { tokens = tokens ∙ j.tokens; well = j.well; height = j.height }
    ]

binary-sound : (inner : Reader) (n m : ℕ) (names : Names) (k : ℕ) (ts : List Symbol) (e : Syntax) (r : List Symbol)
    → IsSound inner n → read_binary inner m names k ts ≡ Some (e, r) → Stands m (Expression (k + 2)) names ts e r
unfolding read_binary
binary-sound inner n m names zero ts e r s h = raise m cast_level (0 + 2) names ts e r (omega arith) (cast-sound inner n m names ts e r s h)
binary-sound inner n m names (suc k) ts e r s h =
    let a = bound (read_binary inner m names k ts) _ _ h in
    let i = binary-sound inner n m names k ts a.0.0 a.0.1 s a.1 in
    let g = i.well.0 in
    let j = chain-sound inner n m names (k + 3) m a.0.0 a.0.1 e r s (omega arith) (omega (arith, g)) i.well.1 i.height a.2 in
    raise m (k + 3) (suc k + 2) names ts e r (omega arith) (record { tokens = i.tokens ∙ j.tokens; well = j.well; height = j.height })

conditional-sound : (inner : Reader) (n m : ℕ) (names : Names) (ts : List Symbol) (e : Syntax) (r : List Symbol)
    → IsSound inner n → read_conditional inner m names ts ≡ Some (e, r) → Stands m (Expression conditional_level) names ts e r
conditional-sound inner n m names ts e r s h =
    let a = bound (read_binary inner m names 10 ts) _ _ h in
    let i = binary-sound inner n m names 10 ts a.0.0 a.0.1 s a.1 in
    let g = i.well.0 in
    elim (chosen (after_sign marks.Question a.0.1) _ _ _ a.2) as (λ _. Stands m (Expression conditional_level) names ts e r) [
      | inl o ↦
          let j = as_found m conditional_level names a.0.0 a.0.1 e r o.1 (omega (arith, g)) i.well.1 i.height in
          record { tokens = i.tokens ∙ j.tokens; well = j.well; height = j.height }
      | inr o ↦
          let b = bound (inner (Expression comma_level) names o.0) _ _ o.2 in
          let y = s (Expression comma_level) names o.0 b.0.0 b.0.1 b.1 in
          let c = bound (after_sign marks.Colon b.0.1) _ _ b.2 in
          let d = bound (inner (Expression conditional_level) names c.0) _ _ c.2 in
          let z = s (Expression conditional_level) names c.0 d.0.0 d.0.1 d.1 in
          let low : grade a.0.0 ≤ logical_or_level = omega (arith, g) in
          let tail : a.0.1 ≡ Sign marks.Question ∷ tokens_then b.0.0 (Sign marks.Colon ∷ tokens_then d.0.0 d.0.1) =
          taken marks.Question a.0.1 o.0 o.1 ∙ ap (λ x. Sign marks.Question ∷ x) (y.tokens ∙ ap (tokens_then b.0.0) (taken marks.Colon b.0.1 c.0 c.1 ∙ ap (λ x. Sign marks.Colon ∷ x) z.tokens)) in
          finish m (Expression conditional_level) names ts (Operation (Cond a.0.0 b.0.0 d.0.0)) d.0.1 e r d.2
          (i.tokens ∙ ap (tokens_then a.0.0) tail) (omega arith, (low, i.well.1, y.well.1, z.well.0, z.well.1))
    ]

assignment-sound : (inner : Reader) (n m : ℕ) (names : Names) (ts : List Symbol) (e : Syntax) (r : List Symbol)
    → IsSound inner n → read_assignment inner m names ts ≡ Some (e, r) → Stands m (Expression assignment_level) names ts e r
assignment-sound inner n m names ts e r s h =
    let a = bound (read_conditional inner m names ts) _ _ h in
    let i = conditional-sound inner n m names ts a.0.0 a.0.1 s a.1 in
    let g = i.well.0 in
    elim (chosen (take_assign a.0.1) _ _ _ a.2) as (λ _. Stands m (Expression assignment_level) names ts e r) [
      | inl o ↦
          let j = as_found m assignment_level names a.0.0 a.0.1 e r o.1 (omega (arith, g)) i.well.1 i.height in
          record { tokens = i.tokens ∙ j.tokens; well = j.well; height = j.height }
      | inr o ↦
          let t = take_assign-some a.0.1 o.0.0 o.0.1 o.1 in
          let k = when (nat_le (grade a.0.0) unary_level) _ _ o.2 in
          let b = bound (inner (Expression assignment_level) names o.0.1) _ _ k.1 in
          let j = s (Expression assignment_level) names o.0.1 b.0.0 b.0.1 b.1 in
          finish m (Expression assignment_level) names ts (Operation (Assign o.0.0 a.0.0 b.0.0)) b.0.1 e r b.2
          (i.tokens ∙ ap (tokens_then a.0.0) (t ∙ ap (λ x. Sign (assign_sign o.0.0) ∷ x) j.tokens))
          (omega arith, (at_most (grade a.0.0) unary_level k.0, i.well.1, j.well.0, j.well.1))
    ]

commas-sound : (inner : Reader) (n m : ℕ) (names : Names) (ts : List Symbol) (e : Syntax) (r : List Symbol)
    → IsSound inner n → read_commas inner m names ts ≡ Some (e, r) → Stands m (Expression comma_level) names ts e r
commas-sound inner n m names ts e r s h =
    let a = bound (read_assignment inner m names ts) _ _ h in
    let i = assignment-sound inner n m names ts a.0.0 a.0.1 s a.1 in
    let g = i.well.0 in
    let j = chain-sound inner n m names comma_level m a.0.0 a.0.1 e r s (omega arith) (omega (arith, g)) i.well.1 i.height a.2 in
    record { tokens = i.tokens ∙ j.tokens; well = j.well; height = j.height }

pub expression-sound : (inner : Reader) (n m level : ℕ) (names : Names) (ts : List Symbol) (e : Syntax) (r : List Symbol)
    → IsSound inner n → read_expression inner m level names ts ≡ Some (e, r) → Stands m (Expression level) names ts e r
expression-sound inner n m level names ts e r s h =
    elim (which (nat_le comma_level level) _ _ _ h) as (λ _. Stands m (Expression level) names ts e r) [
      | inl a ↦ raise m comma_level level names ts e r (at_most comma_level level a.0) (commas-sound inner n m names ts e r s a.1)
      | inr a ↦ elim (which (nat_le assignment_level level) _ _ _ a.1) as (λ _. Stands m (Expression level) names ts e r) [
        | inl b ↦ raise m assignment_level level names ts e r (at_most assignment_level level b.0) (assignment-sound inner n m names ts e r s b.1)
        | inr b ↦ elim (which (nat_le conditional_level level) _ _ _ b.1) as (λ _. Stands m (Expression level) names ts e r) [
          | inl c ↦ raise m conditional_level level names ts e r (at_most conditional_level level c.0) (conditional-sound inner n m names ts e r s c.1)
          | inr c ↦ elim (which (nat_le cast_level level) _ _ _ c.1) as (λ _. Stands m (Expression level) names ts e r) [
            | inl d ↦
                let at_least = at_most cast_level level d.0 in
                raise m (level - cast_level + 2) level names ts e r (omega (arith, at_least)) (binary-sound inner n m names (level - cast_level) ts e r s d.1)
            | inr d ↦ elim (which (nat_le unary_level level) _ _ _ d.1) as (λ _. Stands m (Expression level) names ts e r) [
              | inl u ↦ raise m unary_level level names ts e r (at_most unary_level level u.0) (unary-sound inner n m names ts e r s u.1)
              | inr u ↦ raise m postfix_level level names ts e r (omega arith) (postfix-sound inner n m names ts e r s u.1)
            ]
          ]
        ]
      ]
    ]
