-- The words that are more than names: the keywords of C, in the order of the standard, and the words of GNU C with a mark.
use Rattle.std.specs.Prelude.{ℕ, List, [], ◌∷◌, ◌++◌, codes, unwrap_or}
use Rattle.c_tree.specs.declared.token.TokenKind.{TokenKind}
use Rattle.c_tree.specs.declared.token.TokenKind.TheVariants as kinds
use Rattle.c_tree.specs.declared.keyword.Keyword.TheVariants as keyword
use Rattle.c_tree.specs.declared.token.Mark.TheVariants as mark
pub use Rattle.c_tree.specs.Tables.{find_text}

abbrev pub Words : Type 0
Words = List (List ℕ × TokenKind)

-- the keywords of ISO 9899:1990 (6.1.1)
abbrev pub keywords : Words
keywords =
    (codes "auto", kinds.Keyword keyword.Auto)
    ∷ (codes "break", kinds.Keyword keyword.Break)
    ∷ (codes "case", kinds.Keyword keyword.Case)
    ∷ (codes "char", kinds.Keyword keyword.Char)
    ∷ (codes "const", kinds.Keyword keyword.Const)
    ∷ (codes "continue", kinds.Keyword keyword.Continue)
    ∷ (codes "default", kinds.Keyword keyword.Default)
    ∷ (codes "do", kinds.Keyword keyword.Do)
    ∷ (codes "double", kinds.Keyword keyword.Double)
    ∷ (codes "else", kinds.Keyword keyword.Else)
    ∷ (codes "enum", kinds.Keyword keyword.Enum)
    ∷ (codes "extern", kinds.Keyword keyword.Extern)
    ∷ (codes "float", kinds.Keyword keyword.Float)
    ∷ (codes "for", kinds.Keyword keyword.For)
    ∷ (codes "goto", kinds.Keyword keyword.Goto)
    ∷ (codes "if", kinds.Keyword keyword.If)
    ∷ (codes "int", kinds.Keyword keyword.Int)
    ∷ (codes "long", kinds.Keyword keyword.Long)
    ∷ (codes "register", kinds.Keyword keyword.Register)
    ∷ (codes "return", kinds.Keyword keyword.Return)
    ∷ (codes "short", kinds.Keyword keyword.Short)
    ∷ (codes "signed", kinds.Keyword keyword.Signed)
    ∷ (codes "sizeof", kinds.Keyword keyword.Sizeof)
    ∷ (codes "static", kinds.Keyword keyword.Static)
    ∷ (codes "struct", kinds.Keyword keyword.Struct)
    ∷ (codes "switch", kinds.Keyword keyword.Switch)
    ∷ (codes "typedef", kinds.Keyword keyword.Typedef)
    ∷ (codes "union", kinds.Keyword keyword.Union)
    ∷ (codes "unsigned", kinds.Keyword keyword.Unsigned)
    ∷ (codes "void", kinds.Keyword keyword.Void)
    ∷ (codes "volatile", kinds.Keyword keyword.Volatile)
    ∷ (codes "while", kinds.Keyword keyword.While)
    ∷ []

-- those that ISO 9899:1999 adds
abbrev pub later_keywords : Words
later_keywords =
    (codes "inline", kinds.Keyword keyword.Inline)
    ∷ (codes "restrict", kinds.Keyword keyword.Restrict)
    ∷ (codes "_Bool", kinds.Keyword keyword.Bool)
    ∷ []

-- those of GNU C
abbrev pub gnu_keywords : Words
gnu_keywords =
    (codes "__int128", kinds.Keyword keyword.Int128)
    ∷ (codes "_Float32", kinds.Keyword keyword.Float32)
    ∷ (codes "_Float32x", kinds.Keyword keyword.Float32x)
    ∷ (codes "_Float64", kinds.Keyword keyword.Float64)
    ∷ (codes "_Float64x", kinds.Keyword keyword.Float64x)
    ∷ (codes "_Float128", kinds.Keyword keyword.Float128)
    ∷ (codes "__float128", kinds.Keyword keyword.GnuFloat128)
    ∷ (codes "__builtin_va_list", kinds.Keyword keyword.BuiltinVaList)
    ∷ (codes "__builtin_va_arg", kinds.Keyword keyword.BuiltinVaArg)
    ∷ (codes "__builtin_offsetof", kinds.Keyword keyword.BuiltinOffsetof)
    ∷ []

-- the words that are dropped, or renamed as keywords, before parsing, and those that name the function
abbrev pub marked_words : Words
marked_words =
    (codes "__func__", kinds.Word mark.FunctionName)
    ∷ (codes "__FUNCTION__", kinds.Word mark.FunctionName)
    ∷ (codes "__PRETTY_FUNCTION__", kinds.Word mark.FunctionName)
    ∷ (codes "__extension__", kinds.Word mark.ExtensionBoth)
    ∷ (codes "__attribute", kinds.Word mark.Attribute)
    ∷ (codes "__attribute__", kinds.Word mark.AttributeBoth)
    ∷ (codes "asm", kinds.Word mark.AsmPlain)
    ∷ (codes "__asm", kinds.Word mark.Asm)
    ∷ (codes "__asm__", kinds.Word mark.AsmBoth)
    ∷ (codes "__inline", kinds.Word mark.Inline)
    ∷ (codes "__inline__", kinds.Word mark.InlineBoth)
    ∷ (codes "__restrict", kinds.Word mark.Restrict)
    ∷ (codes "__restrict__", kinds.Word mark.RestrictBoth)
    ∷ (codes "__const", kinds.Word mark.Const)
    ∷ (codes "__const__", kinds.Word mark.ConstBoth)
    ∷ (codes "__volatile", kinds.Word mark.Volatile)
    ∷ (codes "__volatile__", kinds.Word mark.VolatileBoth)
    ∷ (codes "__signed", kinds.Word mark.Signed)
    ∷ (codes "__signed__", kinds.Word mark.SignedBoth)
    ∷ []

unfoldable pub special_words : Words
special_words = keywords ++ later_keywords ++ gnu_keywords ++ marked_words

-- what a word is: every other word has the mark Plain
unfoldable pub word_kind : List ℕ → TokenKind
word_kind text = unwrap_or (find_text text special_words) (kinds.Word mark.Plain)
