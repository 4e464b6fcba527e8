-- An expression that is written as a pattern is read as the same expression in a tree, and what trees are compared by is read
-- so too.
use Rattle.std.proofs.Common.{◌≡◌, ℕ, List, [], ◌∷◌, refl, ◌∙◌, sym, ap}
use Rattle.c_objects.specs.Facts.{Facts}
use Rattle.c_tree.specs.declared.operator.UnaryOp.TheVariants as unary
use Rattle.c_tree.specs.declared.token.Token.{Token}
use Rattle.c_tree.specs.declared.token.TokenKind.{TokenKind}
use Rattle.c_tree.specs.declared.token.TokenKind.TheVariants as kinds
use Rattle.c_tree.specs.Compared as forms
use Rattle.c_tree.specs.Forget.{syntax_of, syntaxes_of, primary_syntax, operation_syntax}
use Rattle.c_tree.specs.Node.{Node, node, Primary, Operation, PrimaryShape, OperationShape, Ident, Constant, StrConst, Paren, VaArg, Offsetof, Hole, Nodes, no_more, more}
use Rattle.c_tree.specs.Node as nodes
use Rattle.c_tree.specs.Symbol.{symbol_as, symbol_of, symbols_of}
use Rattle.hole_matching.specs.ComparedSubjects.{compared_node, compared_nodes, compared_primary, compared_operation}
use Rattle.hole_matching.specs.Pattern.{Head, Identifier, Strings, Index, Call, Member, Unary, Binary, Cond, Assign, Pattern, likewise, Patterns}
use Rattle.hole_matching.specs.Pattern as pattern
use Rattle.hole_matching.specs.Plain.{IsSpelled, AreSpelled, IsPlain, IsPlainPrimary, IsPlainOperation, ArePlain}
use Rattle.hole_matching.specs.Subjects.{token_head, names_of}
use Rattle.hole_matching.specs.Written.{spelling, spellings, constant_head, pattern_of, primary_pattern, operation_pattern, patterns_of, one_part, two_parts}

spelled : (k : TokenKind) (n : ℕ) → IsSpelled k → spelling (symbol_as k n) ≡ n
spelled (kinds.Word m) n h = refl
spelled (kinds.Keyword k) n h = absurd h
spelled (kinds.Int v d u l) n h = refl
spelled (kinds.Float e) n h = refl
spelled (kinds.Char w) n h = refl
spelled (kinds.Str w) n h = refl
spelled (kinds.Punct p) n h = absurd h

all-spelled : (ts : List Token) → AreSpelled ts → spellings (symbols_of ts) ≡ names_of ts
all-spelled [] h = refl
all-spelled (t ∷ ts) h = ap (λ n. n ∷ spellings (symbols_of ts)) (spelled t.kind t.name h.0) ∙ ap (λ ns. t.name ∷ ns) (all-spelled ts h.1)

constant : (k : TokenKind) (n : ℕ) → IsSpelled k → constant_head (symbol_as k n) ≡ token_head k n
constant (kinds.Word m) n h = refl
constant (kinds.Keyword k) n h = absurd h
constant (kinds.Int v d u l) n h = refl
constant (kinds.Float e) n h = refl
constant (kinds.Char w) n h = refl
constant (kinds.Str w) n h = refl
constant (kinds.Punct p) n h = absurd h

compared-constant : (k : TokenKind) (n : ℕ) → constant_head (forms.compared_constant (symbol_as k n)) ≡ constant_head (symbol_as k n)
compared-constant (kinds.Word m) n = refl
compared-constant (kinds.Keyword k) n = refl
compared-constant (kinds.Int v d u l) n = refl
compared-constant (kinds.Float e) n = refl
compared-constant (kinds.Char w) n = refl
compared-constant (kinds.Str w) n = refl
compared-constant (kinds.Punct p) n = refl

one : (h : Head) (a b : Pattern) → a ≡ b → likewise h (one_part a) ≡ likewise h (one_part b)
one h a b e = ap (λ x. likewise h (one_part x)) e

two : (h : Head) (a b c d : Pattern) → a ≡ b → c ≡ d → likewise h (two_parts a c) ≡ likewise h (two_parts b d)
two h a b c d e f = ap (λ x. likewise h (two_parts x c)) e ∙ ap (λ x. likewise h (two_parts b x)) f

three : (a b c d e f : Pattern) → a ≡ b → c ≡ d → e ≡ f → likewise Cond (pattern.more a (two_parts c e)) ≡ likewise Cond (pattern.more b (two_parts d f))
three a b c d e f x y z = ap (λ q. likewise Cond (pattern.more q (two_parts c e))) x ∙ ap (λ q. likewise Cond (pattern.more b (two_parts q e))) y ∙ ap (λ q. likewise Cond (pattern.more b (two_parts d q))) z

called : (a b : Pattern) (ps qs : Patterns) → a ≡ b → ps ≡ qs → likewise Call (pattern.more a ps) ≡ likewise Call (pattern.more b qs)
called a b ps qs e f = ap (λ x. likewise Call (pattern.more x ps)) e ∙ ap (λ x. likewise Call (pattern.more b x)) f

member : (n m : ℕ) (a b : Pattern) → n ≡ m → a ≡ b → likewise (Member n) (one_part a) ≡ likewise (Member m) (one_part b)
member n m a b e f = ap (λ x. likewise (Member x) (one_part a)) e ∙ one (Member m) a b f

mutual
  pub copy : (u : Facts) (e : Node) → IsPlain e → pattern_of (syntax_of e) ≡ compared_node u e
  copy u (node i p (Primary k)) h = primary-copy u k h
  copy u (node i p (Operation k)) h = operation-copy u k h
  copy u (node i p s) h = absurd h

  primary-copy : (u : Facts) (k : PrimaryShape) → IsPlainPrimary k → primary_pattern (primary_syntax k) ≡ compared_primary u k
  primary-copy u (Ident name) h = ap (λ n. likewise (Identifier n) pattern.no_more) (spelled name.kind name.name h)
  primary-copy u (Constant token) h = ap (λ k. likewise k pattern.no_more) (constant token.kind token.name h)
  primary-copy u (StrConst literals) h = ap (λ ns. likewise (Strings ns) pattern.no_more) (all-spelled literals h)
  primary-copy u (Paren inner) h = copy u inner h
  primary-copy u (VaArg list of) h = absurd h
  primary-copy u (Offsetof of m path) h = absurd h
  primary-copy u (Hole n) h = absurd h

  operation-copy : (u : Facts) (k : OperationShape) → IsPlainOperation k → operation_pattern (operation_syntax k) ≡ compared_operation u k
  operation-copy u (nodes.Index a b) h = two Index (pattern_of (syntax_of a)) (compared_node u a) (pattern_of (syntax_of b)) (compared_node u b) (copy u a h.0) (copy u b h.1)
  operation-copy u (nodes.Call f paren es) h = called (pattern_of (syntax_of f)) (compared_node u f) (patterns_of (syntaxes_of es)) (compared_nodes u es) (copy u f h.0) (copies u es h.1)
  operation-copy u (nodes.Member a m) h = member (spelling (symbol_of m)) m.name (pattern_of (syntax_of a)) (compared_node u a) (spelled m.kind m.name h.1) (copy u a h.0)
  operation-copy u (nodes.Arrow a m) h = member (spelling (symbol_of m)) m.name (likewise (Unary unary.Deref) (one_part (pattern_of (syntax_of a)))) (likewise (Unary unary.Deref) (one_part (compared_node u a))) (spelled m.kind m.name h.1) (one (Unary unary.Deref) (pattern_of (syntax_of a)) (compared_node u a) (copy u a h.0))
  operation-copy u (nodes.Unary op a) h = one (Unary op) (pattern_of (syntax_of a)) (compared_node u a) (copy u a h)
  operation-copy u (nodes.Binary op a b) h = two (Binary op) (pattern_of (syntax_of a)) (compared_node u a) (pattern_of (syntax_of b)) (compared_node u b) (copy u a h.0) (copy u b h.1)
  operation-copy u (nodes.Cond a b c) h = three (pattern_of (syntax_of a)) (compared_node u a) (pattern_of (syntax_of b)) (compared_node u b) (pattern_of (syntax_of c)) (compared_node u c) (copy u a h.0) (copy u b h.1) (copy u c h.2)
  operation-copy u (nodes.Assign op a b) h = two (Assign op) (pattern_of (syntax_of a)) (compared_node u a) (pattern_of (syntax_of b)) (compared_node u b) (copy u a h.0) (copy u b h.1)
  operation-copy u (nodes.CompoundLit a b) h = absurd h
  operation-copy u (nodes.SizeofType a) h = absurd h
  operation-copy u (nodes.Cast a b) h = absurd h

  copies : (u : Facts) (es : Nodes) → ArePlain es → patterns_of (syntaxes_of es) ≡ compared_nodes u es
  copies u no_more h = refl
  copies u (more e es) h = ap (λ x. pattern.more x (patterns_of (syntaxes_of es))) (copy u e h.0) ∙ ap (pattern.more (compared_node u e)) (copies u es h.1)

mutual
  same : (e : Node) → IsPlain e → pattern_of (forms.compared (syntax_of e)) ≡ pattern_of (syntax_of e)
  same (node i p (Primary k)) h = primary-same k h
  same (node i p (Operation k)) h = operation-same k h
  same (node i p s) h = absurd h

  primary-same : (k : PrimaryShape) → IsPlainPrimary k → pattern_of (forms.compared_primary (primary_syntax k)) ≡ primary_pattern (primary_syntax k)
  primary-same (Ident name) h = refl
  primary-same (Constant token) h = ap (λ k. likewise k pattern.no_more) (compared-constant token.kind token.name)
  primary-same (StrConst literals) h = refl
  primary-same (Paren inner) h = same inner h
  primary-same (VaArg list of) h = absurd h
  primary-same (Offsetof of m path) h = absurd h
  primary-same (Hole n) h = absurd h

  operation-same : (k : OperationShape) → IsPlainOperation k → operation_pattern (forms.compared_operation (operation_syntax k)) ≡ operation_pattern (operation_syntax k)
  operation-same (nodes.Index a b) h = two Index (pattern_of (forms.compared (syntax_of a))) (pattern_of (syntax_of a)) (pattern_of (forms.compared (syntax_of b))) (pattern_of (syntax_of b)) (same a h.0) (same b h.1)
  operation-same (nodes.Call f paren es) h = called (pattern_of (forms.compared (syntax_of f))) (pattern_of (syntax_of f)) (patterns_of (forms.compared_all (syntaxes_of es))) (patterns_of (syntaxes_of es)) (same f h.0) (sames es h.1)
  operation-same (nodes.Member a m) h = one (Member (spelling (symbol_of m))) (pattern_of (forms.compared (syntax_of a))) (pattern_of (syntax_of a)) (same a h.0)
  operation-same (nodes.Arrow a m) h = ap (λ x. likewise (Member (spelling (symbol_of m))) (one_part (likewise (Unary unary.Deref) (one_part x)))) (same a h.0)
  operation-same (nodes.Unary op a) h = one (Unary op) (pattern_of (forms.compared (syntax_of a))) (pattern_of (syntax_of a)) (same a h)
  operation-same (nodes.Binary op a b) h = two (Binary op) (pattern_of (forms.compared (syntax_of a))) (pattern_of (syntax_of a)) (pattern_of (forms.compared (syntax_of b))) (pattern_of (syntax_of b)) (same a h.0) (same b h.1)
  operation-same (nodes.Cond a b c) h = three (pattern_of (forms.compared (syntax_of a))) (pattern_of (syntax_of a)) (pattern_of (forms.compared (syntax_of b))) (pattern_of (syntax_of b)) (pattern_of (forms.compared (syntax_of c))) (pattern_of (syntax_of c)) (same a h.0) (same b h.1) (same c h.2)
  operation-same (nodes.Assign op a b) h = two (Assign op) (pattern_of (forms.compared (syntax_of a))) (pattern_of (syntax_of a)) (pattern_of (forms.compared (syntax_of b))) (pattern_of (syntax_of b)) (same a h.0) (same b h.1)
  operation-same (nodes.CompoundLit a b) h = absurd h
  operation-same (nodes.SizeofType a) h = absurd h
  operation-same (nodes.Cast a b) h = absurd h

  sames : (es : Nodes) → ArePlain es → patterns_of (forms.compared_all (syntaxes_of es)) ≡ patterns_of (syntaxes_of es)
  sames no_more h = refl
  sames (more e es) h = ap (λ x. pattern.more x (patterns_of (forms.compared_all (syntaxes_of es)))) (same e h.0) ∙ ap (pattern.more (pattern_of (syntax_of e))) (sames es h.1)

-- trees that are the same by their tokens are equal in a match
pub same-equal : (u : Facts) (a b : Node) → IsPlain a → IsPlain b → forms.compared (syntax_of a) ≡ forms.compared (syntax_of b) → compared_node u a ≡ compared_node u b
same-equal u a b h k e = sym (copy u a h) ∙ sym (same a h) ∙ ap pattern_of e ∙ same b k ∙ copy u b k
