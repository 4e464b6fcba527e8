-- The punctuators (ISO 9899:1990, 6.1.5 and 6.1.6), and the two of a checker. They stand in the order of their lengths.
use Rattle.std.specs.Prelude.{ℕ, List, [], ◌∷◌, ◌++◌, length, codes, ◌==◌, Option, if◌then◌else◌}
use Rattle.c_tree.specs.declared.punctuator.Punctuator.{Punctuator}
use Rattle.c_tree.specs.declared.punctuator.Punctuator.TheVariants as punctuator
use Rattle.c_lexer.specs.declared.c_reading.mode.Mode.{Mode}
use Rattle.c_lexer.specs.declared.c_reading.mode.Mode.TheVariants.{C, Metal}
use Rattle.c_lexer.specs.CReading.Words.{find_text}

abbrev pub Punctuators : Type 0
Punctuators = List (List ℕ × Punctuator)

-- of one byte, in both modes
unfoldable pub singles : Punctuators
singles =
    (codes "[", punctuator.OpenBracket)
    ∷ (codes "]", punctuator.CloseBracket)
    ∷ (codes "(", punctuator.OpenParen)
    ∷ (codes ")", punctuator.CloseParen)
    ∷ (codes "{", punctuator.OpenBrace)
    ∷ (codes "}", punctuator.CloseBrace)
    ∷ (codes ".", punctuator.Dot)
    ∷ (codes "&", punctuator.Ampersand)
    ∷ (codes "*", punctuator.Star)
    ∷ (codes "+", punctuator.Plus)
    ∷ (codes "-", punctuator.Minus)
    ∷ (codes "~", punctuator.Tilde)
    ∷ (codes "!", punctuator.Exclamation)
    ∷ (codes "/", punctuator.Slash)
    ∷ (codes "%", punctuator.Percent)
    ∷ (codes "<", punctuator.Less)
    ∷ (codes ">", punctuator.Greater)
    ∷ (codes "^", punctuator.Caret)
    ∷ (codes "|", punctuator.Bar)
    ∷ (codes "?", punctuator.Question)
    ∷ (codes ":", punctuator.Colon)
    ∷ (codes ";", punctuator.Semicolon)
    ∷ (codes "=", punctuator.Assign)
    ∷ (codes ",", punctuator.Comma)
    ∷ []

-- of two bytes
unfoldable pub pairs : Punctuators
pairs =
    (codes "->", punctuator.Arrow)
    ∷ (codes "++", punctuator.Increment)
    ∷ (codes "--", punctuator.Decrement)
    ∷ (codes "<<", punctuator.ShiftLeft)
    ∷ (codes ">>", punctuator.ShiftRight)
    ∷ (codes "<=", punctuator.LessEqual)
    ∷ (codes ">=", punctuator.GreaterEqual)
    ∷ (codes "==", punctuator.Equal)
    ∷ (codes "!=", punctuator.NotEqual)
    ∷ (codes "&&", punctuator.AndAnd)
    ∷ (codes "||", punctuator.OrOr)
    ∷ (codes "*=", punctuator.StarAssign)
    ∷ (codes "/=", punctuator.SlashAssign)
    ∷ (codes "%=", punctuator.PercentAssign)
    ∷ (codes "+=", punctuator.PlusAssign)
    ∷ (codes "-=", punctuator.MinusAssign)
    ∷ (codes "&=", punctuator.AmpersandAssign)
    ∷ (codes "^=", punctuator.CaretAssign)
    ∷ (codes "|=", punctuator.BarAssign)
    ∷ []

-- of three bytes, in both modes
unfoldable pub triples : Punctuators
triples =
    (codes "...", punctuator.Ellipsis)
    ∷ (codes "<<=", punctuator.ShiftLeftAssign)
    ∷ (codes ">>=", punctuator.ShiftRightAssign)
    ∷ []

-- those of a checker alone, of one byte and of three
abbrev pub extra_single : Mode → Punctuators
extra_single C = []
extra_single Metal = (codes "$", punctuator.Dollar) ∷ []

abbrev pub extra_triple : Mode → Punctuators
extra_triple C = []
extra_triple Metal = (codes "==>", punctuator.LongArrow) ∷ []

-- the punctuators of a length
unfoldable pub punctuators : Mode → ℕ → Punctuators
punctuators mode n =
    if n == 1 then singles ++ extra_single mode
    else (if n == 2 then pairs
    else (if n == 3 then triples ++ extra_triple mode
    else []))

-- which punctuator a text is, if it is one
unfoldable pub punctuator_of : Mode → List ℕ → Option Punctuator
punctuator_of mode text = find_text text (punctuators mode (length text))
