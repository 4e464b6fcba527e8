-- In a line whose kept tokens are no braces, each brace that opens is closed in the line.
use Rattle.std.proofs.Common.{◌≡◌, ℕ, suc, ◌-◌, leb, List, [], ◌∷◌, ◌++◌, Bool, true, false, cond, ◌||◌, Option, Some, refl, ap, ◌∙◌, arith}
use borrow.Author.Tests.{lt-leb}
use Rattle.c_tree.specs.declared.keyword.Keyword.{Keyword}
use Rattle.c_tree.specs.declared.operator.AssignOp.{AssignOp}
use Rattle.c_tree.specs.declared.operator.AssignOp.TheVariants as assign
use Rattle.c_tree.specs.declared.operator.BinaryOp.{BinaryOp}
use Rattle.c_tree.specs.declared.operator.BinaryOp.TheVariants as binary
use Rattle.c_tree.specs.declared.place.Place.{Place}
use Rattle.c_tree.specs.declared.punctuator.Punctuator.{Punctuator}
use Rattle.c_tree.specs.declared.punctuator.Punctuator.TheVariants as marks
use Rattle.c_tree.specs.declared.token.Token.{Token}
use Rattle.c_tree.specs.declared.token.TokenKind.{TokenKind}
use Rattle.c_tree.specs.declared.token.TokenKind.TheVariants as kinds
use Rattle.c_tree.specs.Node.{Node, node, Shape}
use Rattle.c_tree.specs.Symbol.{Symbol, Reserved, Sign, symbol_as, symbol_of, symbols_of}
use Rattle.c_tree.specs.Tokens.{binary_sign, assign_sign}
use Rattle.c_grammar.specs.CPlaces.Lines.{Line, nothing, kept, all_kept, fixed, at, numbered, names, ◌⨾◌, sign, line_of, shape_line}
use Rattle.c_grammar.specs.CPlaces.Stands.{Stands, OfNothing, OfKept, OfAll, OfFixed, OfPlace, OfNumber, OfName, OfBoth}
use Rattle.c_grammar.specs.Symbols.{AreAll}
use Rattle.call_graph.specs.FunctionGraphs.Closing.{opens, closes, closing}

abbrev pub is_brace : Symbol → Bool
is_brace (Sign p) = opens (kinds.Punct p) || closes (kinds.Punct p)
is_brace _ = false

both-false : (a b : Bool) → a || b ≡ false → (a ≡ false) × (b ≡ false)
both-false true b h = cc
both-false false b h = (refl, h)

kind-plain : (k : TokenKind) (name : ℕ) → is_brace (symbol_as k name) ≡ false → (opens k ≡ false) × (closes k ≡ false)
kind-plain (kinds.Word m) name h = (refl, refl)
kind-plain (kinds.Keyword k) name h = (refl, refl)
kind-plain (kinds.Int v d u l) name h = (refl, refl)
kind-plain (kinds.Float e) name h = (refl, refl)
kind-plain (kinds.Char w) name h = (refl, refl)
kind-plain (kinds.Str w) name h = (refl, refl)
kind-plain (kinds.Punct p) name h = both-false (opens (kinds.Punct p)) (closes (kinds.Punct p)) h

-- a token that is no brace is passed
plain-passed : (n : ℕ) (t : Token) (ts : List Token) → is_brace (symbol_of t) ≡ false → closing n (t ∷ ts) ≡ closing n ts
plain-passed n t ts h =
    let k = kind-plain t.kind t.name h in
    ap (λ b. cond b (closing (suc n) ts) (cond (closes t.kind) (cond (leb n 1) (Some t.place) (closing (n - 1) ts)) (closing n ts))) k.0
    ∙ ap (λ b. cond b (cond (leb n 1) (Some t.place) (closing (n - 1) ts)) (closing n ts)) k.1

open-kind : (k : TokenKind) (name : ℕ) → symbol_as k name ≡ Sign marks.OpenBrace → opens k ≡ true
open-kind (kinds.Word m) name h = cc
open-kind (kinds.Keyword k) name h = cc
open-kind (kinds.Int v d u l) name h = cc
open-kind (kinds.Float e) name h = cc
open-kind (kinds.Char w) name h = cc
open-kind (kinds.Str w) name h = cc
open-kind (kinds.Punct p) name h = let s : p ≡ marks.OpenBrace = cc in ap (λ q. opens (kinds.Punct q)) s

close-kind : (k : TokenKind) (name : ℕ) → symbol_as k name ≡ Sign marks.CloseBrace → (opens k ≡ false) × (closes k ≡ true)
close-kind (kinds.Word m) name h = cc
close-kind (kinds.Keyword k) name h = cc
close-kind (kinds.Int v d u l) name h = cc
close-kind (kinds.Float e) name h = cc
close-kind (kinds.Char w) name h = cc
close-kind (kinds.Str w) name h = cc
close-kind (kinds.Punct p) name h = let s : p ≡ marks.CloseBrace = cc in (ap (λ q. opens (kinds.Punct q)) s, ap (λ q. closes (kinds.Punct q)) s)

-- a brace that opens
pub opened : (n : ℕ) (t : Token) (ts : List Token) → symbol_of t ≡ Sign marks.OpenBrace → closing n (t ∷ ts) ≡ closing (suc n) ts
opened n t ts h =
    ap (λ b. cond b (closing (suc n) ts) (cond (closes t.kind) (cond (leb n 1) (Some t.place) (closing (n - 1) ts)) (closing n ts))) (open-kind t.kind t.name h)

-- one that closes, with others open round it, and the last one
behind-close : (n : ℕ) (t : Token) (ts : List Token) → symbol_of t ≡ Sign marks.CloseBrace → closing n (t ∷ ts) ≡ cond (leb n 1) (Some t.place) (closing (n - 1) ts)
behind-close n t ts h =
    let k = close-kind t.kind t.name h in
    ap (λ b. cond b (closing (suc n) ts) (cond (closes t.kind) (cond (leb n 1) (Some t.place) (closing (n - 1) ts)) (closing n ts))) k.0
    ∙ ap (λ b. cond b (cond (leb n 1) (Some t.place) (closing (n - 1) ts)) (closing n ts)) k.1

many-open : (n : ℕ) → leb (suc (suc n)) 1 ≡ false
many-open n = lt-leb (suc (suc n)) 1 (omega arith)

one-less : (n : ℕ) → suc (suc n) - 1 ≡ suc n
one-less n = omega arith

pub closed-inside : (n : ℕ) (t : Token) (ts : List Token) → symbol_of t ≡ Sign marks.CloseBrace → closing (suc (suc n)) (t ∷ ts) ≡ closing (suc n) ts
closed-inside n t ts h =
    behind-close (suc (suc n)) t ts h
    ∙ ap (λ b. cond b (Some t.place) (closing (suc (suc n) - 1) ts)) (many-open n)
    ∙ ap (λ m. closing m ts) (one-less n)

pub closed-last : (t : Token) (ts : List Token) → symbol_of t ≡ Sign marks.CloseBrace → closing 1 (t ∷ ts) ≡ Some t.place
closed-last t ts h = behind-close 1 t ts h

-- A LINE IS CALM where no brace that is open before it is closed in it, and none that it opens is left open
pub record IsCalm (l : Line) : Type 0 where
  pub passed : (low high : ℕ) (ts rest : List Token) → Stands l low high ts rest → (n : ℕ) → closing (suc n) ts ≡ closing (suc n) rest

pub calm-nothing : IsCalm nothing
calm-nothing = record { passed = by }
  where
    by : (low high : ℕ) (ts rest : List Token) → Stands nothing low high ts rest → (n : ℕ) → closing (suc n) ts ≡ closing (suc n) rest
    by low high ts rest OfNothing n = refl

pub calm-kept : (t : Token) → is_brace (symbol_of t) ≡ false → IsCalm (kept t)
calm-kept t h = record { passed = by t h }
  where
    by : (t : Token) → is_brace (symbol_of t) ≡ false → (low high : ℕ) (ts rest : List Token) → Stands (kept t) low high ts rest → (n : ℕ) → closing (suc n) ts ≡ closing (suc n) rest
    by t h low high ts rest OfKept n = plain-passed (suc n) t rest h

all-passed : (is : Symbol → Bool) → ((s : Symbol) → is s ≡ true → is_brace s ≡ false) → (us : List Token) → AreAll is (symbols_of us) → (n : ℕ) (rest : List Token) → closing (suc n) (us ++ rest) ≡ closing (suc n) rest
all-passed is g [] a n rest = refl
all-passed is g (u ∷ us) a n rest = plain-passed (suc n) u (us ++ rest) (g (symbol_of u) a.0) ∙ all-passed is g us a.1 n rest

pub calm-all : (us : List Token) (is : Symbol → Bool) → ((s : Symbol) → is s ≡ true → is_brace s ≡ false) → AreAll is (symbols_of us) → IsCalm (all_kept us)
calm-all us is g h = record { passed = by us h }
  where
    by : (us : List Token) → AreAll is (symbols_of us) → (low high : ℕ) (ts rest : List Token) → Stands (all_kept us) low high ts rest → (n : ℕ) → closing (suc n) ts ≡ closing (suc n) rest
    by us a low high ts rest OfAll n = all-passed is g us a n rest

pub calm-fixed : (s : Symbol) → is_brace s ≡ false → IsCalm (fixed s)
calm-fixed s h = record { passed = by }
  where
    by : (low high : ℕ) (ts rest : List Token) → Stands (fixed s) low high ts rest → (n : ℕ) → closing (suc n) ts ≡ closing (suc n) rest
    by low high ts rest (OfFixed {t = t} e) n = plain-passed (suc n) t rest (ap is_brace e ∙ h)

pub calm-at : (p : Place) → IsCalm (at p)
calm-at p = record { passed = by p }
  where
    by : (p : Place) (low high : ℕ) (ts rest : List Token) → Stands (at p) low high ts rest → (n : ℕ) → closing (suc n) ts ≡ closing (suc n) rest
    by p low high ts rest OfPlace n = refl

pub calm-numbered : (i : ℕ) → IsCalm (numbered i)
calm-numbered i = record { passed = by i }
  where
    by : (i low high : ℕ) (ts rest : List Token) → Stands (numbered i) low high ts rest → (n : ℕ) → closing (suc n) ts ≡ closing (suc n) rest
    by i low high ts rest OfNumber n = refl

pub calm-names : (o : Option Token) (name : Node) → IsCalm (names o name)
calm-names o name = record { passed = by o name }
  where
    by : (o : Option Token) (name : Node) (low high : ℕ) (ts rest : List Token) → Stands (names o name) low high ts rest → (n : ℕ) → closing (suc n) ts ≡ closing (suc n) rest
    by o name low high ts rest OfName n = refl

infixl 30 ◌⨟◌
pub ◌⨟◌ : {l m : Line} → IsCalm l → IsCalm m → IsCalm (l ⨾ m)
◌⨟◌ {l = l} {m = m} a b = record { passed = by }
  where
    by : (low high : ℕ) (ts rest : List Token) → Stands (l ⨾ m) low high ts rest → (n : ℕ) → closing (suc n) ts ≡ closing (suc n) rest
    by low high ts rest (OfBoth {middle = middle} {us = us} x y) n = a.passed low middle ts us x n ∙ b.passed middle high us rest y n

-- A LINE IS OPEN where it leaves one brace open, and closes none that is open before it
pub record IsOpen (l : Line) : Type 0 where
  pub raised : (low high : ℕ) (ts rest : List Token) → Stands l low high ts rest → (n : ℕ) → closing (suc n) ts ≡ closing (suc (suc n)) rest

pub open-brace : IsOpen (sign marks.OpenBrace)
open-brace = record { raised = by }
  where
    by : (low high : ℕ) (ts rest : List Token) → Stands (sign marks.OpenBrace) low high ts rest → (n : ℕ) → closing (suc n) ts ≡ closing (suc (suc n)) rest
    by low high ts rest (OfFixed {t = t} e) n = opened (suc n) t rest e

pub calm-open : {l m : Line} → IsCalm l → IsOpen m → IsOpen (l ⨾ m)
calm-open {l = l} {m = m} a b = record { raised = by }
  where
    by : (low high : ℕ) (ts rest : List Token) → Stands (l ⨾ m) low high ts rest → (n : ℕ) → closing (suc n) ts ≡ closing (suc (suc n)) rest
    by low high ts rest (OfBoth {middle = middle} {us = us} x y) n = a.passed low middle ts us x n ∙ b.raised middle high us rest y n

pub open-calm : {l m : Line} → IsOpen l → IsCalm m → IsOpen (l ⨾ m)
open-calm {l = l} {m = m} a b = record { raised = by }
  where
    by : (low high : ℕ) (ts rest : List Token) → Stands (l ⨾ m) low high ts rest → (n : ℕ) → closing (suc n) ts ≡ closing (suc (suc n)) rest
    by low high ts rest (OfBoth {middle = middle} {us = us} x y) n = a.raised low middle ts us x n ∙ b.passed middle high us rest y (suc n)

pub close-brace : {l : Line} → IsOpen l → IsCalm (l ⨾ sign marks.CloseBrace)
close-brace {l = l} a = record { passed = by }
  where
    by : (low high : ℕ) (ts rest : List Token) → Stands (l ⨾ sign marks.CloseBrace) low high ts rest → (n : ℕ) → closing (suc n) ts ≡ closing (suc n) rest
    by low high ts rest (OfBoth {middle = middle} {us = us} x (OfFixed {t = t} e)) n = a.raised low middle ts us x n ∙ closed-inside n t rest e

pub calm-node : (i : ℕ) (p : Place) (s : Shape) → IsCalm (shape_line s) → IsCalm (line_of (node i p s))
calm-node i p s h = calm-at p ⨟ h ⨟ calm-numbered i

pub calm-sign : (p : Punctuator) → is_brace (Sign p) ≡ false → IsCalm (sign p)
calm-sign p h = calm-fixed (Sign p) h

pub calm-keyword : (k : Keyword) → IsCalm (fixed (Reserved k))
calm-keyword k = calm-fixed (Reserved k) refl

-- no operator is a brace
pub binary-plain : (op : BinaryOp) → is_brace (Sign (binary_sign op)) ≡ false
binary-plain binary.Multiply = refl
binary-plain binary.Divide = refl
binary-plain binary.Remainder = refl
binary-plain binary.Add = refl
binary-plain binary.Subtract = refl
binary-plain binary.ShiftLeft = refl
binary-plain binary.ShiftRight = refl
binary-plain binary.Less = refl
binary-plain binary.Greater = refl
binary-plain binary.LessEqual = refl
binary-plain binary.GreaterEqual = refl
binary-plain binary.Equal = refl
binary-plain binary.NotEqual = refl
binary-plain binary.BitAnd = refl
binary-plain binary.BitXor = refl
binary-plain binary.BitOr = refl
binary-plain binary.LogAnd = refl
binary-plain binary.LogOr = refl
binary-plain binary.Comma = refl

pub assign-plain : (op : AssignOp) → is_brace (Sign (assign_sign op)) ≡ false
assign-plain assign.Plain = refl
assign-plain assign.Multiply = refl
assign-plain assign.Divide = refl
assign-plain assign.Remainder = refl
assign-plain assign.Add = refl
assign-plain assign.Subtract = refl
assign-plain assign.ShiftLeft = refl
assign-plain assign.ShiftRight = refl
assign-plain assign.BitAnd = refl
assign-plain assign.BitXor = refl
assign-plain assign.BitOr = refl
