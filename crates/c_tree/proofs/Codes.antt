-- Keywords and punctuators are told apart by their codes.
use Rattle.std.proofs.Common.{◌≡◌, ℕ, true, nat_eq, List, [], ◌∷◌, get_or, ap, refl, ◌∙◌, sym, arith}
use Rattle.c_tree.specs.declared.keyword.Keyword.{Keyword}
use Rattle.c_tree.specs.declared.keyword.Keyword.TheVariants as words
use Rattle.c_tree.specs.declared.punctuator.Punctuator.{Punctuator}
use Rattle.c_tree.specs.declared.punctuator.Punctuator.TheVariants as marks
use Rattle.c_tree.specs.Codes.{keyword_code, punctuator_code}

keywords : List Keyword
keywords =
    words.Auto ∷ words.Break ∷ words.Case ∷ words.Char ∷ words.Const ∷ words.Continue ∷ words.Default ∷ words.Do ∷
    words.Double ∷ words.Else ∷ words.Enum ∷ words.Extern ∷ words.Float ∷ words.For ∷ words.Goto ∷ words.If ∷
    words.Int ∷ words.Long ∷ words.Register ∷ words.Return ∷ words.Short ∷ words.Signed ∷ words.Sizeof ∷
    words.Static ∷ words.Struct ∷ words.Switch ∷ words.Typedef ∷ words.Union ∷ words.Unsigned ∷ words.Void ∷
    words.Volatile ∷ words.While ∷ words.Inline ∷ words.Restrict ∷ words.Bool ∷ words.Int128 ∷ words.Float32 ∷
    words.Float32x ∷ words.Float64 ∷ words.Float64x ∷ words.Float128 ∷ words.GnuFloat128 ∷ words.BuiltinVaList ∷
    words.BuiltinVaArg ∷ words.BuiltinOffsetof ∷ []

keyword_at : ℕ → Keyword
keyword_at n = get_or keywords n words.Auto

keyword_at-code : (k : Keyword) → keyword_at (keyword_code k) ≡ k
unfolding keyword_at keywords
keyword_at-code words.Auto = refl
keyword_at-code words.Break = refl
keyword_at-code words.Case = refl
keyword_at-code words.Char = refl
keyword_at-code words.Const = refl
keyword_at-code words.Continue = refl
keyword_at-code words.Default = refl
keyword_at-code words.Do = refl
keyword_at-code words.Double = refl
keyword_at-code words.Else = refl
keyword_at-code words.Enum = refl
keyword_at-code words.Extern = refl
keyword_at-code words.Float = refl
keyword_at-code words.For = refl
keyword_at-code words.Goto = refl
keyword_at-code words.If = refl
keyword_at-code words.Int = refl
keyword_at-code words.Long = refl
keyword_at-code words.Register = refl
keyword_at-code words.Return = refl
keyword_at-code words.Short = refl
keyword_at-code words.Signed = refl
keyword_at-code words.Sizeof = refl
keyword_at-code words.Static = refl
keyword_at-code words.Struct = refl
keyword_at-code words.Switch = refl
keyword_at-code words.Typedef = refl
keyword_at-code words.Union = refl
keyword_at-code words.Unsigned = refl
keyword_at-code words.Void = refl
keyword_at-code words.Volatile = refl
keyword_at-code words.While = refl
keyword_at-code words.Inline = refl
keyword_at-code words.Restrict = refl
keyword_at-code words.Bool = refl
keyword_at-code words.Int128 = refl
keyword_at-code words.Float32 = refl
keyword_at-code words.Float32x = refl
keyword_at-code words.Float64 = refl
keyword_at-code words.Float64x = refl
keyword_at-code words.Float128 = refl
keyword_at-code words.GnuFloat128 = refl
keyword_at-code words.BuiltinVaList = refl
keyword_at-code words.BuiltinVaArg = refl
keyword_at-code words.BuiltinOffsetof = refl

pub same_keyword : (k l : Keyword) → keyword_code k ≡ keyword_code l → k ≡ l
same_keyword k l h = sym (keyword_at-code k) ∙ ap keyword_at h ∙ keyword_at-code l

pub keyword_by_code : (k l : Keyword) → nat_eq (keyword_code k) (keyword_code l) ≡ true → k ≡ l
keyword_by_code k l h = let e : keyword_code k ≡ keyword_code l = grind arith in same_keyword k l e

punctuators : List Punctuator
punctuators =
    marks.OpenParen ∷ marks.Increment ∷ marks.Decrement ∷ marks.Ampersand ∷ marks.Star ∷ marks.Plus ∷ marks.Minus ∷
    marks.Tilde ∷ marks.Exclamation ∷ marks.OpenBracket ∷ marks.CloseBracket ∷ marks.CloseParen ∷ marks.OpenBrace ∷
    marks.CloseBrace ∷ marks.Dot ∷ marks.Arrow ∷ marks.Question ∷ marks.Colon ∷ marks.Semicolon ∷ marks.Comma ∷
    marks.Ellipsis ∷ marks.Slash ∷ marks.Percent ∷ marks.ShiftLeft ∷ marks.ShiftRight ∷ marks.Less ∷ marks.Greater ∷
    marks.LessEqual ∷ marks.GreaterEqual ∷ marks.Equal ∷ marks.NotEqual ∷ marks.Caret ∷ marks.Bar ∷ marks.AndAnd ∷
    marks.OrOr ∷ marks.Assign ∷ marks.StarAssign ∷ marks.SlashAssign ∷ marks.PercentAssign ∷ marks.PlusAssign ∷
    marks.MinusAssign ∷ marks.ShiftLeftAssign ∷ marks.ShiftRightAssign ∷ marks.AmpersandAssign ∷ marks.CaretAssign ∷
    marks.BarAssign ∷ marks.Dollar ∷ marks.LongArrow ∷ []

punctuator_at : ℕ → Punctuator
punctuator_at n = get_or punctuators n marks.OpenParen

punctuator_at-code : (p : Punctuator) → punctuator_at (punctuator_code p) ≡ p
unfolding punctuator_at punctuators
punctuator_at-code marks.OpenParen = refl
punctuator_at-code marks.Increment = refl
punctuator_at-code marks.Decrement = refl
punctuator_at-code marks.Ampersand = refl
punctuator_at-code marks.Star = refl
punctuator_at-code marks.Plus = refl
punctuator_at-code marks.Minus = refl
punctuator_at-code marks.Tilde = refl
punctuator_at-code marks.Exclamation = refl
punctuator_at-code marks.OpenBracket = refl
punctuator_at-code marks.CloseBracket = refl
punctuator_at-code marks.CloseParen = refl
punctuator_at-code marks.OpenBrace = refl
punctuator_at-code marks.CloseBrace = refl
punctuator_at-code marks.Dot = refl
punctuator_at-code marks.Arrow = refl
punctuator_at-code marks.Question = refl
punctuator_at-code marks.Colon = refl
punctuator_at-code marks.Semicolon = refl
punctuator_at-code marks.Comma = refl
punctuator_at-code marks.Ellipsis = refl
punctuator_at-code marks.Slash = refl
punctuator_at-code marks.Percent = refl
punctuator_at-code marks.ShiftLeft = refl
punctuator_at-code marks.ShiftRight = refl
punctuator_at-code marks.Less = refl
punctuator_at-code marks.Greater = refl
punctuator_at-code marks.LessEqual = refl
punctuator_at-code marks.GreaterEqual = refl
punctuator_at-code marks.Equal = refl
punctuator_at-code marks.NotEqual = refl
punctuator_at-code marks.Caret = refl
punctuator_at-code marks.Bar = refl
punctuator_at-code marks.AndAnd = refl
punctuator_at-code marks.OrOr = refl
punctuator_at-code marks.Assign = refl
punctuator_at-code marks.StarAssign = refl
punctuator_at-code marks.SlashAssign = refl
punctuator_at-code marks.PercentAssign = refl
punctuator_at-code marks.PlusAssign = refl
punctuator_at-code marks.MinusAssign = refl
punctuator_at-code marks.ShiftLeftAssign = refl
punctuator_at-code marks.ShiftRightAssign = refl
punctuator_at-code marks.AmpersandAssign = refl
punctuator_at-code marks.CaretAssign = refl
punctuator_at-code marks.BarAssign = refl
punctuator_at-code marks.Dollar = refl
punctuator_at-code marks.LongArrow = refl

pub same_punctuator : (p q : Punctuator) → punctuator_code p ≡ punctuator_code q → p ≡ q
same_punctuator p q h = sym (punctuator_at-code p) ∙ ap punctuator_at h ∙ punctuator_at-code q

pub punctuator_by_code : (p q : Punctuator) → nat_eq (punctuator_code p) (punctuator_code q) ≡ true → p ≡ q
punctuator_by_code p q h = let e : punctuator_code p ≡ punctuator_code q = grind arith in same_punctuator p q e
