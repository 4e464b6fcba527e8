-- What is asked of a reader of lower trees, and what each step then gives.
use Rattle.std.proofs.Common.{◌≡◌, ℕ, ◌≤◌, Bool, true, false, ◌||◌, List, ◌∷◌, Option, Some, ap, refl, ◌∙◌, subst}
use Rattle.c_tree.specs.declared.punctuator.Punctuator.{Punctuator}
use Rattle.c_tree.specs.declared.punctuator.Punctuator.TheVariants as marks
use Rattle.c_tree.specs.Symbol.{Symbol, Sign}
use Rattle.c_tree.specs.Syntax.{Syntax, Syntaxes, no_more, more}
use Rattle.c_tree.specs.Height.{height_of}
use Rattle.c_tree.specs.Phrase.{phrase_then}
use Rattle.c_tree.specs.Tokens.{comma_if, list_phrase, more_phrase, row_phrase, tokens_then}
use Rattle.c_grammar.specs.Names.{Names}
use Rattle.c_grammar.specs.Found.{Found, made}
use Rattle.c_grammar.proofs.Options.{parts, three_parts, made_some}
use Rattle.c_grammar.specs.UnitGrammar.Construct.{Construct, OneStatement, ConstructReader}
use Rattle.c_grammar.specs.UnitGrammar.Declarations.{has_any}
use Rattle.c_grammar.specs.UnitGrammar.Grammar.{IsOf}
use Rattle.c_grammar.specs.UnitGrammar.Following.{Ends, LeavesNoElse}

-- what the reader of a tree leaves behind it
abbrev pub IsLast : Construct → Syntax → List Symbol → Type 0
IsLast OneStatement e r = LeavesNoElse e r
IsLast _ e r = Unit {0}

-- the tree stands in front of r, and is at most m high
pub record Stands (m : ℕ) (construct : Construct) (names : Names) (ts : List Symbol) (e : Syntax) (r : List Symbol) : Type 0 where
  pub tokens : ts ≡ tokens_then e r
  pub well : IsOf construct names e
  pub height : height_of e ≤ m
  pub last : IsLast construct e r

-- what the reader finds stands there
abbrev pub IsSound : ConstructReader → ℕ → Type 0
IsSound inner n = (construct : Construct) (names : Names) (ts : List Symbol) (e : Syntax) (r : List Symbol)
    → inner construct names ts ≡ Some (e, r) → Stands n construct names ts e r

-- the reader finds each tree of height at most n
abbrev pub Knows : ConstructReader → ℕ → Type 0
Knows inner n = (construct : Construct) (names : Names) (e : Syntax) (r : List Symbol)
    → IsOf construct names e → height_of e ≤ n → Ends construct names e r → inner construct names (tokens_then e r) ≡ Some (e, r)

-- a step that ends with a tree of its own
pub finish : (m : ℕ) (construct : Construct) (names : Names) (ts : List Symbol) (x : Syntax) (t : List Symbol) (e : Syntax) (r : List Symbol)
    → made m x t ≡ Some (e, r) → ts ≡ tokens_then x t → IsOf construct names x → IsLast construct x t → Stands m construct names ts e r
finish m construct names ts x t e r h k w l =
    let q = made_some m x e t r h in
    subst (λ y. Stands m construct names ts y r) q.1 (record { tokens = k ∙ ap (tokens_then x) q.2; well = w; height = q.0; last = subst (IsLast construct x) q.2 l })

-- a part of which this is known
pub found : (P : Syntax → Type 0) (ts : List Symbol) (x : Syntax) (t : List Symbol) (e : Syntax) (r : List Symbol)
    → ◌≡◌ {A = Option Found} (Some (x, t)) (Some (e, r)) → ts ≡ tokens_then x t → P x → (ts ≡ tokens_then e r) × P e
found P ts x t e r h k w =
    let q = parts (x, t) (e, r) h in
    (k ∙ ap (tokens_then x) q.1 ∙ ap (λ y. tokens_then y r) q.0, subst P q.0 w)

-- a list behind a comma is one whose members have commas in front
pub with_comma : (es : Syntaxes) (ts : List Symbol) → has_any es ≡ true → Sign marks.Comma ∷ phrase_then (list_phrase es) ts ≡ phrase_then (more_phrase es) ts
with_comma no_more ts h = cc
with_comma (more e es) ts h = refl

-- trees one after the other, of which this is known, and a punctuator
pub record Row (P : Syntaxes → Type 0) (close : Punctuator) (ts : List Symbol) (es : Syntaxes) (r : List Symbol) : Type 0 where
  pub tokens : ts ≡ phrase_then (row_phrase es) (Sign close ∷ r)
  pub well : P es

pub row : (P : Syntaxes → Type 0) (close : Punctuator) (ts : List Symbol) (xs : Syntaxes) (t : List Symbol) (es : Syntaxes) (r : List Symbol)
    → ◌≡◌ {A = Option (Syntaxes × List Symbol)} (Some (xs, t)) (Some (es, r)) → Row P close ts xs t → Row P close ts es r
row P close ts xs t es r h l =
    let q = parts (xs, t) (es, r) h in
    subst (λ x. Row P close ts x r) q.0 (subst (λ x. Row P close ts xs x) q.1 l)

-- the same with commas between, at least one
pub record Separated (P : Syntaxes → Type 0) (close : Punctuator) (ts : List Symbol) (es : Syntaxes) (r : List Symbol) : Type 0 where
  pub tokens : ts ≡ phrase_then (list_phrase es) (Sign close ∷ r)
  pub well : P es
  pub some : has_any es ≡ true

pub separated : (P : Syntaxes → Type 0) (close : Punctuator) (ts : List Symbol) (xs : Syntaxes) (t : List Symbol) (es : Syntaxes) (r : List Symbol)
    → ◌≡◌ {A = Option (Syntaxes × List Symbol)} (Some (xs, t)) (Some (es, r)) → Separated P close ts xs t → Separated P close ts es r
separated P close ts xs t es r h l =
    let q = parts (xs, t) (es, r) h in
    subst (λ x. Separated P close ts x r) q.0 (subst (λ x. Separated P close ts xs x) q.1 l)

-- the same, maybe with a comma behind the last
pub record Listed (P : Syntaxes → Type 0) (close : Punctuator) (ts : List Symbol) (es : Syntaxes) (comma : Bool) (r : List Symbol) : Type 0 where
  pub tokens : ts ≡ phrase_then (list_phrase es) (phrase_then (comma_if comma) (Sign close ∷ r))
  pub well : P es
  pub some : has_any es ≡ true

pub listed : (P : Syntaxes → Type 0) (close : Punctuator) (ts : List Symbol) (xs : Syntaxes) (c : Bool) (t : List Symbol) (es : Syntaxes) (comma : Bool) (r : List Symbol)
    → ◌≡◌ {A = Option (Syntaxes × Bool × List Symbol)} (Some (xs, c, t)) (Some (es, comma, r)) → Listed P close ts xs c t → Listed P close ts es comma r
listed P close ts xs c t es comma r h l =
    let q = three_parts (xs, c, t) (es, comma, r) h in
    subst (λ x. Listed P close ts x comma r) q.0 (subst (λ x. Listed P close ts xs x r) q.1 (subst (λ x. Listed P close ts xs c x) q.2 l))

pub or_first : (a b : Bool) → a ≡ true → (a || b) ≡ true
or_first true b h = refl
or_first false b h = cc
