-- The closing brace of a body is its last token.
use Rattle.std.proofs.Common.{◌≡◌, ◌≤◌, ◌+◌, ℕ, List, [], ◌∷◌, ◌++◌, Option, None, Some, slice_get, refl, sym, ap, subst, ◌∙◌, append_assoc, arith, le-leb}
use borrow.Author.Tests.{lt-leb}
use Rattle.c_grammar.specs.CPlaces.Lines.{Line, nothing, kept, all_kept, fixed, at, numbered, names, ◌⨾◌, line_of, row_line}
use Rattle.c_grammar.specs.CPlaces.Stands.{Stands, OfNothing, OfKept, OfAll, OfFixed, OfPlace, OfNumber, OfName, OfBoth, StandsOver}
use Rattle.c_grammar.specs.Names.{Names, with_params}
use Rattle.c_grammar.specs.UnitGrammar.Grammar.{IsBlock, IsBody, IsChunk}
use Rattle.c_grammar.specs.UnitGrammar.Names.{declared}
use Rattle.c_tree.specs.Forget.{syntax_of, syntaxes_of}
use Rattle.c_tree.specs.Node.{Node, node, Primary, Operation, Initializer, Specifier, Declarator, Part, Outer, Statement, Iteration, Jump, Declaration, Function, Empty, Block, ExprStmt, If, Switch, Case, Default, Label, Nodes, no_more, more}
use Rattle.c_tree.specs.PathSubjects.Subjects.{first_of}
use Rattle.c_tree.specs.Symbol.{Sign, symbol_of}
use Rattle.c_tree.specs.Syntax.{Syntaxes}
use Rattle.c_tree.specs.TokenPlaces.{Rises}
use Rattle.c_tree.specs.declared.place.Place.{Place}
use Rattle.c_tree.specs.declared.punctuator.Punctuator.TheVariants as marks
use Rattle.c_tree.specs.declared.token.Token.{Token}
use Rattle.call_graph.specs.FunctionGraphs.Closing.{closing, closing_brace}
use Rattle.type_rules.specs.Declarators.{name_of}
use Rattle.type_rules.specs.Definition.{after}
use Rattle.type_rules.specs.Functions.{Defined, defined, defined_in, functions_in, functions_of}
use Rattle.type_rules.specs.Options.{if_there}
use Rattle.type_rules.specs.Parts.{flat}
use Rattle.type_rules.specs.Roles.{Plain}
use Rattle.type_rules.specs.Scopes.{Scopes, at_start}
use Rattle.path_model.specs.CheckerPrograms.Texts as texts
use Rattle.path_model.specs.CheckerPrograms.Texts.{tokens_of, with_close}
use Rattle.typed_unit.specs.Texts.{Text}
use Rattle.std.specs.Option.{option_map}
use Rattle.typed_unit.specs.TokenSearch.Numbers.{from}
use Rattle.event_places.specs.Bodies.{AreChunksOf, AreOfGrammar, EndsAt}
use Rattle.event_places.specs.Standing.{StandsIn, StandInFiles}
use Rattle.event_places.proofs.Braces.{IsCalm, opened, closed-last}
use Rattle.event_places.proofs.Calm.{calm-block}
use Rattle.event_places.proofs.Functions.{Each, each-map, each-more, IsFunctionOf, text-functions, function-at}

-- the tokens of a line, and those behind it
pub front : (l : Line) (low high : ℕ) (ts rest : List Token) → Stands l low high ts rest → (own : List Token) × (ts ≡ own ++ rest)
front nothing low high ts rest OfNothing = ([], refl)
front (kept t) low high ts rest OfKept = (t ∷ [], refl)
front (all_kept us) low high ts rest OfAll = (us, refl)
front (fixed s) low high ts rest (OfFixed {t = t} e) = (t ∷ [], refl)
front (at p) low high ts rest OfPlace = ([], refl)
front (numbered i) low high ts rest OfNumber = ([], refl)
front (names o n) low high ts rest OfName = ([], refl)
front (l ⨾ m) low high ts rest (OfBoth {middle = middle} {us = us} a b) =
    let x = front l low middle ts us a in
    let y = front m middle high us rest b in
    (x.0 ++ y.0, x.1 ∙ ap (λ (vs : List Token). x.0 ++ vs) y.1 ∙ sym (append_assoc x.0 y.0 rest))

-- tokens from one of them on
all-from : (number low high : ℕ) (ts : List Token) → Rises low ts high → number ≤ low → from number ts ≡ ts
all-from number low high [] h l = refl
all-from number low high (t ∷ ts) h l =
    let here = h.0 in
    rw (le-leb number t.place.token (omega arith)) (ap (λ us. t ∷ us) (all-from number (t.place.token + 1) high ts h.1 (omega arith)))

pub later : (low high : ℕ) (before : List Token) (t : Token) (ts : List Token) → Rises low (before ++ (t ∷ ts)) high → low ≤ t.place.token
later low high [] t ts h = h.0
later low high (b ∷ before) t ts h = let x = later (b.place.token + 1) high before t ts h.1 in let y = h.0 in omega arith

pub from-it : (low high : ℕ) (before : List Token) (t : Token) (ts : List Token) → Rises low (before ++ (t ∷ ts)) high → from t.place.token (before ++ (t ∷ ts)) ≡ t ∷ ts
from-it low high [] t ts h = all-from t.place.token t.place.token high (t ∷ ts) (omega arith, h.1) (omega arith)
from-it low high (b ∷ before) t ts h =
    let x = later (b.place.token + 1) high before t ts h.1 in
    rw (lt-leb t.place.token b.place.token (omega arith)) (from-it (b.place.token + 1) high before t ts h.1)

-- a place in these tokens, and the tokens from there on
record Segment (tokens ts : List Token) : Type 0 where
  before : List Token
  whole : tokens ≡ before ++ ts

behind-line : (tokens : List Token) (l : Line) (low high : ℕ) (ts rest : List Token) → Stands l low high ts rest → Segment tokens ts → Segment tokens rest
behind-line tokens l low high ts rest h s =
    let x = front l low high ts rest h in
    record { before = s.before ++ x.0; whole = s.whole ∙ ap (λ (us : List Token). s.before ++ us) x.1 ∙ sym (append_assoc s.before x.0 rest) }

-- a block is its braces and what stands between them
record BlockParts (p : Place) (items : Nodes) (ts rest : List Token) : Type 0 where
  first : Token
  inside : List Token
  last : Token
  low : ℕ
  high : ℕ
  place : p ≡ first.place
  tokens : ts ≡ first ∷ inside
  opens : symbol_of first ≡ Sign marks.OpenBrace
  stand : Stands (row_line items) low high inside (last ∷ rest)
  closes : symbol_of last ≡ Sign marks.CloseBrace

block-parts : (i : ℕ) (p : Place) (items : Nodes) (low high : ℕ) (ts rest : List Token) → Stands (line_of (node i p (Statement (Block items)))) low high ts rest → BlockParts p items ts rest
block-parts i p items low high ts rest (OfBoth (OfBoth OfPlace (OfBoth (OfBoth (OfFixed {t = t} {ts = us} e) stand) (OfFixed {t = u} f))) OfNumber) =
    record { first = t; inside = us; last = u; low = _; high = _; place = refl; tokens = refl; opens = e; stand = stand; closes = f }

module _ (tokens : List Token) (end : ℕ) (rises : Rises 0 tokens end) where
  closing-from : (before : List Token) (t : Token) (ts : List Token) (p : Place) → tokens ≡ before ++ (t ∷ ts) → closing 0 (t ∷ ts) ≡ Some p → closing_brace tokens t.place ≡ p
  closing-from before t ts p e k =
      ap (λ (o : Option Place). if_there o t.place (λ q. q))
      (ap (λ (us : List Token). closing 0 us) (ap (from t.place.token) e ∙ from-it 0 end before t ts (subst (λ (us : List Token). Rises 0 us end) e rises)) ∙ k)

  -- a block whose items are calm
  block-ends : (i : ℕ) (p : Place) (items : Nodes) → IsCalm (row_line items) → (low high : ℕ) (ts rest : List Token) → Stands (line_of (node i p (Statement (Block items)))) low high ts rest → Segment tokens ts
      → EndsAt tokens (node i p (Statement (Block items))) (closing_brace tokens p)
  block-ends i p items calm low high ts rest h s =
      let b = block-parts i p items low high ts rest h in
      let x = front (row_line items) b.low b.high b.inside (b.last ∷ rest) b.stand in
      let own : ts ≡ (b.first ∷ x.0) ++ (b.last ∷ rest) = b.tokens ∙ ap (λ (vs : List Token). b.first ∷ vs) x.1 in
      record {
        before = s.before;
        own = b.first ∷ x.0;
        brace = b.last;
        behind = rest;
        low = low;
        high = high;
        whole = s.whole ∙ ap (λ (vs : List Token). s.before ++ vs) own;
        stands = subst (λ (vs : List Token). StandsOver (node i p (Statement (Block items))) low high vs rest) own h;
        closes = b.closes;
        place =
            ap (closing_brace tokens) b.place
            ∙ closing-from s.before b.first b.inside b.last.place (s.whole ∙ ap (λ (vs : List Token). s.before ++ vs) b.tokens)
            (opened 0 b.first b.inside b.opens ∙ calm.passed b.low b.high b.inside (b.last ∷ rest) b.stand 0 ∙ closed-last b.last rest b.closes);
      }

  -- a block of the grammar
  block-of : (known : Names) (n : Node) → IsBlock known (syntax_of n) → (low high : ℕ) (ts rest : List Token) → Stands (line_of n) low high ts rest → Segment tokens ts → EndsAt tokens n (closing_brace tokens (first_of n))
  block-of known (node i p (Statement (Block items))) h low high ts rest s g = block-ends i p items (calm-block known items h) low high ts rest s g
  block-of known (node i p (Statement (ExprStmt value))) h low high ts rest s g = absurd h
  block-of known (node i p (Statement (If condition then otherwise))) h low high ts rest s g = absurd h
  block-of known (node i p (Statement (Switch value body))) h low high ts rest s g = absurd h
  block-of known (node i p (Statement (Case value body))) h low high ts rest s g = absurd h
  block-of known (node i p (Statement (Default body))) h low high ts rest s g = absurd h
  block-of known (node i p (Statement (Label label body))) h low high ts rest s g = absurd h
  block-of known (node i p (Primary k)) h low high ts rest s g = absurd h
  block-of known (node i p (Operation k)) h low high ts rest s g = absurd h
  block-of known (node i p (Initializer k)) h low high ts rest s g = absurd h
  block-of known (node i p (Specifier k)) h low high ts rest s g = absurd h
  block-of known (node i p (Declarator k)) h low high ts rest s g = absurd h
  block-of known (node i p (Part k)) h low high ts rest s g = absurd h
  block-of known (node i p (Outer k)) h low high ts rest s g = absurd h
  block-of known (node i p (Iteration k)) h low high ts rest s g = absurd h
  block-of known (node i p (Jump k)) h low high ts rest s g = absurd h

  body-ends : (known : Names) (params : Option Syntaxes) (n : Node) → IsBody known params (syntax_of n) → (low high : ℕ) (ts rest : List Token) → Stands (line_of n) low high ts rest → Segment tokens ts
      → EndsAt tokens n (closing_brace tokens (first_of n))
  body-ends known None n h low high ts rest s g = absurd h
  body-ends known (Some params) n h low high ts rest s g = block-of (with_params params known) n h.0 low high ts rest s g

  abbrev Ends : Defined → Type 0
  Ends f = EndsAt tokens f.body (closing_brace tokens (first_of f.body))

  function-ends : (known : Names) (v : Scopes) (e : Node) (f : Defined) → IsChunk known (syntax_of e) → (low high : ℕ) (ts rest : List Token) → Stands (line_of e) low high ts rest → Segment tokens ts → defined_in v e ≡ Some f → Ends f
  function-ends known v (node i p (Outer (Function specs declarator block))) f h low high ts rest (OfBoth (OfBoth OfPlace (OfBoth (OfBoth a b) c)) OfNumber) g e = by (name_of declarator) e
    where
      there : EndsAt tokens block (closing_brace tokens (first_of block))
      there = body-ends _ _ block h.3 _ _ _ rest c (behind-line tokens _ _ _ _ _ b (behind-line tokens _ _ _ _ _ a g))

      by : (o : Option Token) → option_map (defined v specs declarator block) o ≡ Some f → Ends f
      by None e = cc
      by (Some name) e = let s : defined v specs declarator block name ≡ f = cc in subst Ends s there
  function-ends known v (node i p (Outer (Declaration specs declarators))) f h low high ts rest s g e = cc
  function-ends known v (node i p (Outer Empty)) f h low high ts rest s g e = cc
  function-ends known v (node i p (Primary k)) f h low high ts rest s g e = cc
  function-ends known v (node i p (Operation k)) f h low high ts rest s g e = cc
  function-ends known v (node i p (Initializer k)) f h low high ts rest s g e = cc
  function-ends known v (node i p (Specifier k)) f h low high ts rest s g e = cc
  function-ends known v (node i p (Declarator k)) f h low high ts rest s g e = cc
  function-ends known v (node i p (Part k)) f h low high ts rest s g e = cc
  function-ends known v (node i p (Statement k)) f h low high ts rest s g e = cc
  function-ends known v (node i p (Iteration k)) f h low high ts rest s g e = cc
  function-ends known v (node i p (Jump k)) f h low high ts rest s g e = cc

  functions-end : (known : Names) (v : Scopes) (es : Nodes) → AreChunksOf known (syntaxes_of es) → (low high : ℕ) (ts rest : List Token) → Stands (row_line es) low high ts rest → Segment tokens ts → Each Ends (functions_in v es)
  functions-end known v no_more h low high ts rest s g = tt
  functions-end known v (more e es) h low high ts rest (OfBoth {middle = middle} {us = us} a b) g =
      each-more Ends (defined_in v e) (functions_in (after v Plain (flat e)) es) (λ f n. function-ends known v e f h.0 low middle ts us a g n)
      (functions-end (declared (syntax_of e) known) (after v Plain (flat e)) es h.1 middle high us rest b (behind-line tokens (line_of e) low middle ts us a g))

-- in its text, each function ends so
abbrev EndsIn : ℕ → Text → Defined → Type 0
EndsIn file t f = (f.file ≡ file) × EndsAt t.tokens f.body (closing_brace t.tokens (first_of f.body))

pub each-two : (R S : Defined → Type 0) (fs : List Defined) → Each R fs → Each S fs → Each (λ f. R f × S f) fs
each-two R S [] h k = tt
each-two R S (f ∷ fs) h k = ((h.0, k.0), each-two R S fs h.1 k.1)

text-ends : (file : ℕ) (t : Text) → StandsIn file t → AreChunksOf [] (syntaxes_of t.trees) → Each (EndsIn file t) (functions_of t.trees)
text-ends file t h g =
    each-map (λ f. IsFunctionOf file t f × EndsAt t.tokens f.body (closing_brace t.tokens (first_of f.body))) (EndsIn file t) (λ f k. (k.0.file_is, k.1)) (functions_of t.trees)
    (each-two (IsFunctionOf file t) (λ f. EndsAt t.tokens f.body (closing_brace t.tokens (first_of f.body))) (functions_of t.trees)
    (text-functions file t h)
    (functions-end t.tokens h.placed.high h.placed.rises [] at_start t.trees g 0 h.standing.0 t.tokens [] h.standing.1 (record { before = []; whole = refl })))

-- EACH BODY of a program ends at its last token
pub body-closes : (ts : List Text) → StandInFiles ts → AreOfGrammar ts → (n : ℕ) (d : Defined) → slice_get (texts.functions_in ts) n ≡ Some d → EndsAt (tokens_of ts d.file) d.body (with_close ts d).close
body-closes ts h g n d e =
    let k = function-at EndsIn ts (λ i t s. text-ends i t (h i t s) (g i t s)) n d e in
    let file : d.file ≡ k.position = let a = k.is_of.0 in omega (arith, a) in
    let same : tokens_of ts d.file ≡ k.text.tokens = ap (tokens_of ts) file ∙ ap (λ (o : Option Text). if_there o [] (λ t. t.tokens)) k.here in
    subst (λ (us : List Token). EndsAt us d.body (closing_brace us (first_of d.body))) (sym same) k.is_of.1
