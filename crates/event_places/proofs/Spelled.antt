-- The tokens over which a tree stands are those of its line of the grammar.
use Rattle.std.proofs.Common.{◌≡◌, ℕ, List, [], ◌∷◌, ◌++◌, Bool, true, false, Option, None, Some, refl, sym, ap, ◌∙◌, append_assoc}
use Rattle.std.proofs.lemmas.List.{map-append, append-nil}
use Rattle.std.specs.Option.{option_map}
use Rattle.c_tree.specs.declared.keyword.Keyword.TheVariants as words
use Rattle.c_tree.specs.declared.operator.UnaryOp.{UnaryOp}
use Rattle.c_tree.specs.declared.operator.UnaryOp.TheVariants as unary
use Rattle.c_tree.specs.declared.place.Place.{Place}
use Rattle.c_tree.specs.declared.punctuator.Punctuator.TheVariants as marks
use Rattle.c_tree.specs.declared.token.Token.{Token}
use Rattle.c_tree.specs.Forget.{syntax_of, primary_syntax, operation_syntax, initializer_syntax, specifier_syntax, declarator_syntax, part_syntax, outer_syntax, statement_syntax, iteration_syntax, jump_syntax, maybe_syntax, syntaxes_of}
use Rattle.c_tree.specs.Node.{Node, node, Shape, PrimaryShape, OperationShape, InitializerShape, SpecifierShape, DeclaratorShape, PartShape, OuterShape, StatementShape, IterationShape, JumpShape, MaybeNode, Nodes}
use Rattle.c_tree.specs.Node as nodes
use Rattle.c_tree.specs.Phrase.{Phrase, nothing as no_phrase, one, all, ◌⨾◌ as phrase_both, phrase_then}
use Rattle.c_tree.specs.Symbol.{Symbol, Reserved, Sign, symbol_of, symbols_of}
use Rattle.c_tree.specs.Tokens as tokens
use Rattle.c_tree.specs.Tokens.{binary_sign, assign_sign, word_of, phrase_of, primary_phrase, operation_phrase, initializer_phrase, specifier_phrase, declarator_phrase, part_phrase, outer_phrase, statement_phrase, iteration_phrase, jump_phrase, unary_phrase, maybe_phrase, assigned_phrase, else_phrase, row_phrase, list_phrase, more_phrase, tokens_of}
use Rattle.c_grammar.specs.CPlaces.Lines.{Line, nothing, kept, all_kept, fixed, at, numbered, names, ◌⨾◌, line_of, primary_line, operation_line, initializer_line, specifier_line, declarator_line, part_line, outer_line, statement_line, iteration_line, jump_line, unary_line, maybe_line, assigned_line, else_line, row_line, list_line, more_line, tag_if, comma_if, ellipsis_if, declared_token}
use Rattle.c_grammar.specs.CPlaces.Stands.{Stands, OfNothing, OfKept, OfAll, OfFixed, OfPlace, OfNumber, OfName, OfBoth}

-- the symbols of a line, and then these
abbrev line_then : Line → List Symbol → List Symbol
line_then nothing ss = ss
line_then (kept t) ss = symbol_of t ∷ ss
line_then (all_kept us) ss = symbols_of us ++ ss
line_then (fixed s) ss = s ∷ ss
line_then (at p) ss = ss
line_then (numbered i) ss = ss
line_then (names o n) ss = ss
line_then (l ⨾ m) ss = line_then l (line_then m ss)

line-append : (l : Line) (ss : List Symbol) → line_then l ss ≡ line_then l [] ++ ss
line-append nothing ss = refl
line-append (kept t) ss = refl
line-append (all_kept us) ss = ap (λ (xs : List Symbol). xs ++ ss) (sym (append-nil (symbols_of us)))
line-append (fixed s) ss = refl
line-append (at p) ss = refl
line-append (numbered i) ss = refl
line-append (names o n) ss = refl
line-append (l ⨾ m) ss =
    ap (line_then l) (line-append m ss)
    ∙ line-append l (line_then m [] ++ ss)
    ∙ sym (append_assoc (line_then l []) (line_then m []) ss)
    ∙ ap (λ (xs : List Symbol). xs ++ ss) (sym (line-append l (line_then m [])))

-- the tokens over which a line stands are those of its symbols
pub own-tokens : (l : Line) (low high : ℕ) (ts rest : List Token) → Stands l low high ts rest → (own : List Token) × (ts ≡ own ++ rest) × (symbols_of own ≡ line_then l [])
own-tokens nothing low high ts rest OfNothing = ([], refl, refl)
own-tokens (kept t) low high ts rest OfKept = (t ∷ [], refl, refl)
own-tokens (all_kept us) low high ts rest OfAll = (us, refl, sym (append-nil (symbols_of us)))
own-tokens (fixed s) low high ts rest (OfFixed {t = t} e) = (t ∷ [], refl, ap (λ (x : Symbol). x ∷ []) e)
own-tokens (at p) low high ts rest OfPlace = ([], refl, refl)
own-tokens (numbered i) low high ts rest OfNumber = ([], refl, refl)
own-tokens (names o n) low high ts rest OfName = ([], refl, refl)
own-tokens (l ⨾ m) low high ts rest (OfBoth {middle = middle} {us = us} a b) =
    let x = own-tokens l low middle ts us a in
    let y = own-tokens m middle high us rest b in (
      x.0 ++ y.0,
      x.1 ∙ ap (λ (vs : List Token). x.0 ++ vs) y.1 ∙ sym (append_assoc x.0 y.0 rest),
      map-append symbol_of x.0 y.0 ∙ ap (λ (xs : List Symbol). xs ++ symbols_of y.0) x.2 ∙ ap (λ (xs : List Symbol). line_then l [] ++ xs) y.2 ∙ sym (line-append l (line_then m [])),
    )

-- a line and a phrase with the same symbols
pub record Same (l : Line) (p : Phrase) : Type 0 where
  pub same : (ss : List Symbol) → line_then l ss ≡ phrase_then p ss

same-nothing : Same nothing no_phrase
same-nothing = record { same = λ ss. refl }

same-kept : (t : Token) → Same (kept t) (one (symbol_of t))
same-kept t = record { same = λ ss. refl }

same-all : (us : List Token) → Same (all_kept us) (all (symbols_of us))
same-all us = record { same = λ ss. refl }

same-fixed : (s : Symbol) → Same (fixed s) (one s)
same-fixed s = record { same = λ ss. refl }

infixl 30 ◌⨟◌
◌⨟◌ : {l m : Line} {p q : Phrase} → Same l p → Same m q → Same (l ⨾ m) (phrase_both p q)
◌⨟◌ {l = l} {m = m} {p = p} {q = q} a b = record { same = λ ss. ap (line_then l) (b.same ss) ∙ a.same (phrase_then q ss) }

-- what has no symbols is left out
same-at : {l : Line} {p : Phrase} (q : Place) → Same l p → Same (l ⨾ at q) p
same-at q a = record { same = λ ss. a.same ss }

same-names : {l : Line} {p : Phrase} (o : Option Token) (n : Node) → Same l p → Same (l ⨾ names o n) p
same-names o n a = record { same = λ ss. a.same ss }

same-node : {l : Line} {q : Phrase} (i : ℕ) (p : Place) → Same l q → Same (at p ⨾ l ⨾ numbered i) q
same-node i p a = record { same = λ ss. a.same ss }

same-tag : (o : Option Token) → Same (tag_if o) (tokens.tag_if (option_map symbol_of o))
same-tag None = same-nothing
same-tag (Some t) = same-kept t

same-comma : (b : Bool) → Same (comma_if b) (tokens.comma_if b)
same-comma true = same-fixed (Sign marks.Comma)
same-comma false = same-nothing

same-ellipsis : (b : Bool) → Same (ellipsis_if b) (tokens.ellipsis_if b)
same-ellipsis true = same-fixed (Sign marks.Comma) ⨟ same-fixed (Sign marks.Ellipsis)
same-ellipsis false = same-nothing

same-unary : {l : Line} {p : Phrase} (op : UnaryOp) → Same l p → Same (unary_line op l) (unary_phrase op p)
same-unary unary.PostInc h = h ⨟ same-fixed (Sign marks.Increment)
same-unary unary.PostDec h = h ⨟ same-fixed (Sign marks.Decrement)
same-unary unary.PreInc h = same-fixed (Sign marks.Increment) ⨟ h
same-unary unary.PreDec h = same-fixed (Sign marks.Decrement) ⨟ h
same-unary unary.AddressOf h = same-fixed (Sign marks.Ampersand) ⨟ h
same-unary unary.Deref h = same-fixed (Sign marks.Star) ⨟ h
same-unary unary.Plus h = same-fixed (Sign marks.Plus) ⨟ h
same-unary unary.Minus h = same-fixed (Sign marks.Minus) ⨟ h
same-unary unary.BitNot h = same-fixed (Sign marks.Tilde) ⨟ h
same-unary unary.Not h = same-fixed (Sign marks.Exclamation) ⨟ h
same-unary unary.Sizeof h = same-fixed (Reserved words.Sizeof) ⨟ h

mutual
  pub same-tree : (n : Node) → Same (line_of n) (phrase_of (syntax_of n))
  same-tree (node i p (nodes.Primary k)) = same-node i p (same-primary k)
  same-tree (node i p (nodes.Operation k)) = same-node i p (same-operation k)
  same-tree (node i p (nodes.Initializer k)) = same-node i p (same-initializer k)
  same-tree (node i p (nodes.Specifier k)) = same-node i p (same-specifier k)
  same-tree (node i p (nodes.Declarator k)) = same-node i p (same-declarator k)
  same-tree (node i p (nodes.Part k)) = same-node i p (same-part k)
  same-tree (node i p (nodes.Outer k)) = same-node i p (same-outer k)
  same-tree (node i p (nodes.Statement k)) = same-node i p (same-statement k)
  same-tree (node i p (nodes.Iteration k)) = same-node i p (same-iteration k)
  same-tree (node i p (nodes.Jump k)) = same-node i p (same-jump k)

  same-primary : (k : PrimaryShape) → Same (primary_line k) (primary_phrase (primary_syntax k))
  same-primary (nodes.Ident a) = same-kept a
  same-primary (nodes.Constant a) = same-kept a
  same-primary (nodes.StrConst us) = same-all us
  same-primary (nodes.Paren e) = same-fixed (Sign marks.OpenParen) ⨟ same-tree e ⨟ same-fixed (Sign marks.CloseParen)
  same-primary (nodes.VaArg e f) = same-fixed (Reserved words.BuiltinVaArg) ⨟ same-fixed (Sign marks.OpenParen) ⨟ same-tree e ⨟ same-fixed (Sign marks.Comma) ⨟ same-tree f ⨟ same-fixed (Sign marks.CloseParen)
  same-primary (nodes.Offsetof e a es) = same-fixed (Reserved words.BuiltinOffsetof) ⨟ same-fixed (Sign marks.OpenParen) ⨟ same-tree e ⨟ same-fixed (Sign marks.Comma) ⨟ same-kept a ⨟ same-row es ⨟ same-fixed (Sign marks.CloseParen)
  same-primary (nodes.Hole h) = same-nothing

  same-operation : (k : OperationShape) → Same (operation_line k) (operation_phrase (operation_syntax k))
  same-operation (nodes.Index e f) = same-tree e ⨟ same-fixed (Sign marks.OpenBracket) ⨟ same-tree f ⨟ same-fixed (Sign marks.CloseBracket)
  same-operation (nodes.Call e q es) = same-at q (same-tree e) ⨟ same-fixed (Sign marks.OpenParen) ⨟ same-list es ⨟ same-fixed (Sign marks.CloseParen)
  same-operation (nodes.Member e a) = same-tree e ⨟ same-fixed (Sign marks.Dot) ⨟ same-kept a
  same-operation (nodes.Arrow e a) = same-tree e ⨟ same-fixed (Sign marks.Arrow) ⨟ same-kept a
  same-operation (nodes.CompoundLit e f) = same-fixed (Sign marks.OpenParen) ⨟ same-tree e ⨟ same-fixed (Sign marks.CloseParen) ⨟ same-tree f
  same-operation (nodes.Unary op e) = same-unary op (same-tree e)
  same-operation (nodes.SizeofType e) = same-fixed (Reserved words.Sizeof) ⨟ same-fixed (Sign marks.OpenParen) ⨟ same-tree e ⨟ same-fixed (Sign marks.CloseParen)
  same-operation (nodes.Cast e f) = same-fixed (Sign marks.OpenParen) ⨟ same-tree e ⨟ same-fixed (Sign marks.CloseParen) ⨟ same-tree f
  same-operation (nodes.Binary op e f) = same-tree e ⨟ same-fixed (Sign (binary_sign op)) ⨟ same-tree f
  same-operation (nodes.Cond e f g) = same-tree e ⨟ same-fixed (Sign marks.Question) ⨟ same-tree f ⨟ same-fixed (Sign marks.Colon) ⨟ same-tree g
  same-operation (nodes.Assign op e f) = same-tree e ⨟ same-fixed (Sign (assign_sign op)) ⨟ same-tree f

  same-initializer : (k : InitializerShape) → Same (initializer_line k) (initializer_phrase (initializer_syntax k))
  same-initializer (nodes.Init n d e) = same-names (declared_token d) n (same-tree d) ⨟ same-fixed (Sign marks.Assign) ⨟ same-tree e
  same-initializer (nodes.Braces es c) = same-fixed (Sign marks.OpenBrace) ⨟ same-list es ⨟ same-comma c ⨟ same-fixed (Sign marks.CloseBrace)
  same-initializer (nodes.Designated es e) = same-row es ⨟ same-fixed (Sign marks.Assign) ⨟ same-tree e

  same-specifier : (k : SpecifierShape) → Same (specifier_line k) (specifier_phrase (specifier_syntax k))
  same-specifier (nodes.TypeName e m) = same-tree e ⨟ same-maybe m
  same-specifier (nodes.Specs es) = same-row es
  same-specifier (nodes.StructTag w a) = same-fixed (Reserved (word_of w)) ⨟ same-kept a
  same-specifier (nodes.StructBody w o es) = same-fixed (Reserved (word_of w)) ⨟ same-tag o ⨟ same-fixed (Sign marks.OpenBrace) ⨟ same-row es ⨟ same-fixed (Sign marks.CloseBrace)
  same-specifier (nodes.EnumTag a) = same-fixed (Reserved words.Enum) ⨟ same-kept a
  same-specifier (nodes.EnumBody o es c) = same-fixed (Reserved words.Enum) ⨟ same-tag o ⨟ same-fixed (Sign marks.OpenBrace) ⨟ same-list es ⨟ same-comma c ⨟ same-fixed (Sign marks.CloseBrace)
  same-specifier (nodes.StructDeclaration e es) = same-tree e ⨟ same-list es ⨟ same-fixed (Sign marks.Semicolon)
  same-specifier (nodes.BitField m e) = same-maybe m ⨟ same-fixed (Sign marks.Colon) ⨟ same-tree e
  same-specifier (nodes.Param e m) = same-tree e ⨟ same-maybe m

  same-declarator : (k : DeclaratorShape) → Same (declarator_line k) (declarator_phrase (declarator_syntax k))
  same-declarator (nodes.Named us a es) = same-all us ⨟ same-kept a ⨟ same-row es
  same-declarator (nodes.Nested us e es) = same-all us ⨟ same-fixed (Sign marks.OpenParen) ⨟ same-tree e ⨟ same-fixed (Sign marks.CloseParen) ⨟ same-row es
  same-declarator (nodes.Unnamed us es) = same-all us ⨟ same-row es

  same-part : (k : PartShape) → Same (part_line k) (part_phrase (part_syntax k))
  same-part (nodes.SpecWord a) = same-kept a
  same-part (nodes.ArrayBound us m) = same-fixed (Sign marks.OpenBracket) ⨟ same-all us ⨟ same-maybe m ⨟ same-fixed (Sign marks.CloseBracket)
  same-part nodes.VoidParams = same-fixed (Sign marks.OpenParen) ⨟ same-fixed (Reserved words.Void) ⨟ same-fixed (Sign marks.CloseParen)
  same-part (nodes.Params es c) = same-fixed (Sign marks.OpenParen) ⨟ same-list es ⨟ same-ellipsis c ⨟ same-fixed (Sign marks.CloseParen)
  same-part (nodes.Enumerator a m) = same-kept a ⨟ same-assigned m
  same-part (nodes.MemberDesignator a) = same-fixed (Sign marks.Dot) ⨟ same-kept a
  same-part (nodes.IndexDesignator e) = same-fixed (Sign marks.OpenBracket) ⨟ same-tree e ⨟ same-fixed (Sign marks.CloseBracket)

  same-outer : (k : OuterShape) → Same (outer_line k) (outer_phrase (outer_syntax k))
  same-outer (nodes.Declaration e es) = same-tree e ⨟ same-list es ⨟ same-fixed (Sign marks.Semicolon)
  same-outer (nodes.Function e f g) = same-tree e ⨟ same-tree f ⨟ same-tree g
  same-outer nodes.Empty = same-fixed (Sign marks.Semicolon)

  same-statement : (k : StatementShape) → Same (statement_line k) (statement_phrase (statement_syntax k))
  same-statement (nodes.Block es) = same-fixed (Sign marks.OpenBrace) ⨟ same-row es ⨟ same-fixed (Sign marks.CloseBrace)
  same-statement (nodes.ExprStmt m) = same-maybe m ⨟ same-fixed (Sign marks.Semicolon)
  same-statement (nodes.If e f m) = same-fixed (Reserved words.If) ⨟ same-fixed (Sign marks.OpenParen) ⨟ same-tree e ⨟ same-fixed (Sign marks.CloseParen) ⨟ same-tree f ⨟ same-else m
  same-statement (nodes.Switch e f) = same-fixed (Reserved words.Switch) ⨟ same-fixed (Sign marks.OpenParen) ⨟ same-tree e ⨟ same-fixed (Sign marks.CloseParen) ⨟ same-tree f
  same-statement (nodes.Case e f) = same-fixed (Reserved words.Case) ⨟ same-tree e ⨟ same-fixed (Sign marks.Colon) ⨟ same-tree f
  same-statement (nodes.Default e) = same-fixed (Reserved words.Default) ⨟ same-fixed (Sign marks.Colon) ⨟ same-tree e
  same-statement (nodes.Label a e) = same-kept a ⨟ same-fixed (Sign marks.Colon) ⨟ same-tree e

  same-iteration : (k : IterationShape) → Same (iteration_line k) (iteration_phrase (iteration_syntax k))
  same-iteration (nodes.While e f) = same-fixed (Reserved words.While) ⨟ same-fixed (Sign marks.OpenParen) ⨟ same-tree e ⨟ same-fixed (Sign marks.CloseParen) ⨟ same-tree f
  same-iteration (nodes.Do e f) = same-fixed (Reserved words.Do) ⨟ same-tree e ⨟ same-fixed (Reserved words.While) ⨟ same-fixed (Sign marks.OpenParen) ⨟ same-tree f ⨟ same-fixed (Sign marks.CloseParen) ⨟ same-fixed (Sign marks.Semicolon)
  same-iteration (nodes.For l m n e) = same-fixed (Reserved words.For) ⨟ same-fixed (Sign marks.OpenParen) ⨟ same-maybe l ⨟ same-fixed (Sign marks.Semicolon) ⨟ same-maybe m ⨟ same-fixed (Sign marks.Semicolon) ⨟ same-maybe n ⨟ same-fixed (Sign marks.CloseParen) ⨟ same-tree e
  same-iteration (nodes.ForDeclaration d m n e) = same-fixed (Reserved words.For) ⨟ same-fixed (Sign marks.OpenParen) ⨟ same-tree d ⨟ same-maybe m ⨟ same-fixed (Sign marks.Semicolon) ⨟ same-maybe n ⨟ same-fixed (Sign marks.CloseParen) ⨟ same-tree e

  same-jump : (k : JumpShape) → Same (jump_line k) (jump_phrase (jump_syntax k))
  same-jump (nodes.Goto a) = same-fixed (Reserved words.Goto) ⨟ same-kept a ⨟ same-fixed (Sign marks.Semicolon)
  same-jump nodes.Continue = same-fixed (Reserved words.Continue) ⨟ same-fixed (Sign marks.Semicolon)
  same-jump nodes.Break = same-fixed (Reserved words.Break) ⨟ same-fixed (Sign marks.Semicolon)
  same-jump (nodes.Return m) = same-fixed (Reserved words.Return) ⨟ same-maybe m ⨟ same-fixed (Sign marks.Semicolon)

  same-maybe : (m : MaybeNode) → Same (maybe_line m) (maybe_phrase (maybe_syntax m))
  same-maybe nodes.absent = same-nothing
  same-maybe (nodes.present e) = same-tree e

  same-assigned : (m : MaybeNode) → Same (assigned_line m) (assigned_phrase (maybe_syntax m))
  same-assigned nodes.absent = same-nothing
  same-assigned (nodes.present e) = same-fixed (Sign marks.Assign) ⨟ same-tree e

  same-else : (m : MaybeNode) → Same (else_line m) (else_phrase (maybe_syntax m))
  same-else nodes.absent = same-nothing
  same-else (nodes.present e) = same-fixed (Reserved words.Else) ⨟ same-tree e

  same-row : (ns : Nodes) → Same (row_line ns) (row_phrase (syntaxes_of ns))
  same-row nodes.no_more = same-nothing
  same-row (nodes.more e es) = same-tree e ⨟ same-row es

  same-list : (ns : Nodes) → Same (list_line ns) (list_phrase (syntaxes_of ns))
  same-list nodes.no_more = same-nothing
  same-list (nodes.more e es) = same-tree e ⨟ same-further es

  same-further : (ns : Nodes) → Same (more_line ns) (more_phrase (syntaxes_of ns))
  same-further nodes.no_more = same-nothing
  same-further (nodes.more e es) = same-fixed (Sign marks.Comma) ⨟ same-tree e ⨟ same-further es
