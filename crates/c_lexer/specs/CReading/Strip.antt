-- Strip: the tokens without what GNU C adds and nothing here reads, and with the keywords that other spellings stand for.
use Rattle.std.specs.Prelude.{ℕ, zero, suc, Bool, true, false, List, [], ◌∷◌, Option, None, Some, if◌then◌else◌}
use Rattle.c_tree.specs.declared.token.Token.{Token}
use Rattle.c_tree.specs.declared.token.TokenKind.{TokenKind}
use Rattle.c_tree.specs.declared.token.TokenKind.TheVariants.{Word, Keyword, Punct}
use Rattle.c_tree.specs.declared.keyword.Keyword.TheVariants as keyword
use Rattle.c_tree.specs.declared.token.Mark.TheVariants as mark
use Rattle.c_tree.specs.declared.punctuator.Punctuator.TheVariants.{OpenParen, CloseParen}
use Rattle.c_lexer.specs.CReading.Scans.{plus}

abbrev pub is_open_paren : TokenKind → Bool
is_open_paren (Punct OpenParen) = true
is_open_paren _ = false

abbrev pub is_close_paren : TokenKind → Bool
is_close_paren (Punct CloseParen) = true
is_close_paren _ = false

-- The number of tokens up to and with the `)` that closes a group, in which so many more `(` are open. A group counts `(` and `)` alone.
unfoldable pub group_end : ℕ → List Token → Option ℕ
group_end inner [] = None
group_end zero (t ∷ ts) =
    if is_open_paren t.kind then plus 1 (group_end 1 ts)
    else (if is_close_paren t.kind then Some 1 else plus 1 (group_end 0 ts))
group_end (suc inner) (t ∷ ts) =
    if is_open_paren t.kind then plus 1 (group_end (suc (suc inner)) ts)
    else (if is_close_paren t.kind then plus 1 (group_end inner ts) else plus 1 (group_end (suc inner) ts))

-- the number of tokens of a balanced group in front
unfoldable pub group_len : List Token → Option ℕ
group_len [] = None
group_len (t ∷ ts) = if is_open_paren t.kind then plus 1 (group_end 0 ts) else None

-- what may stand between `asm` and its group: `volatile`, `__volatile__`, `goto`, `inline` and `__inline__`
abbrev pub is_qualifier : TokenKind → Bool
is_qualifier (Keyword keyword.Volatile) = true
is_qualifier (Keyword keyword.Goto) = true
is_qualifier (Keyword keyword.Inline) = true
is_qualifier (Word mark.VolatileBoth) = true
is_qualifier (Word mark.InlineBoth) = true
is_qualifier _ = false

-- the number of tokens of qualifiers and a group
unfoldable pub asm_len : List Token → Option ℕ
asm_len [] = None
asm_len (t ∷ ts) = if is_qualifier t.kind then plus 1 (asm_len ts) else group_len (t ∷ ts)

-- how many tokens behind a word are dropped with it, if it is dropped
abbrev pub dropped_with : TokenKind → List Token → Option ℕ
dropped_with (Word mark.ExtensionBoth) ts = Some 0
dropped_with (Word mark.Attribute) ts = group_len ts
dropped_with (Word mark.AttributeBoth) ts = group_len ts
dropped_with (Word mark.AsmPlain) ts = asm_len ts
dropped_with (Word mark.Asm) ts = asm_len ts
dropped_with (Word mark.AsmBoth) ts = asm_len ts
dropped_with _ ts = None

-- the keyword that another spelling stands for
abbrev pub renamed : TokenKind → TokenKind
renamed (Word mark.Inline) = Keyword keyword.Inline
renamed (Word mark.InlineBoth) = Keyword keyword.Inline
renamed (Word mark.Restrict) = Keyword keyword.Restrict
renamed (Word mark.RestrictBoth) = Keyword keyword.Restrict
renamed (Word mark.Const) = Keyword keyword.Const
renamed (Word mark.ConstBoth) = Keyword keyword.Const
renamed (Word mark.Volatile) = Keyword keyword.Volatile
renamed (Word mark.VolatileBoth) = Keyword keyword.Volatile
renamed (Word mark.Signed) = Keyword keyword.Signed
renamed (Word mark.SignedBoth) = Keyword keyword.Signed
renamed kind = kind

-- a token that is kept: its places and its spelling stay
abbrev pub kept : Token → Token
kept t = record t { kind = renamed t.kind }

-- what follows n dropped tokens, or this where none are dropped
abbrev pub if_dropped : Option ℕ → List Token → (ℕ → List Token) → List Token
if_dropped None here behind = here
if_dropped (Some n) here behind = behind n

-- the tokens behind the first n, which are dropped
unfoldable pub stripped_behind : ℕ → List Token → List Token
stripped_behind n [] = []
stripped_behind (suc n) (t ∷ ts) = stripped_behind n ts
stripped_behind zero (t ∷ ts) = if_dropped (dropped_with t.kind ts) (kept t ∷ stripped_behind 0 ts) (λ n. stripped_behind n ts)

abbrev pub stripped : List Token → List Token
stripped ts = stripped_behind 0 ts
