-- The trees of a unit stand over tokens of it, and so does each node of the body of each of its functions.
use Rattle.std.proofs.Common.{◌≡◌, ◌+◌, ℕ, List, [], ◌∷◌, ◌++◌, slice_get, Option, None, Some, refl, sym, ap, subst, ◌∙◌, append_assoc, arith}
use Rattle.std.specs.Option.{option_map}
use Rattle.c_grammar.specs.CPlaces.Lines.{Line, kept, names, ◌⨾◌, line_of, declarator_line, row_line, declared_token, declarator_token}
use Rattle.c_grammar.specs.CPlaces.Stands.{Stands, OfKept, OfPlace, OfNumber, OfName, OfBoth}
use Rattle.c_tree.specs.declared.token.Token.{Token}
use Rattle.c_tree.specs.Node.{Node, node, Primary, Operation, Initializer, Specifier, Declarator, Part, Outer, Statement, Iteration, Jump, Ident, DeclaratorShape, Named, Nested, Unnamed, Function, Nodes, no_more, more}
use Rattle.path_model.specs.CheckerModel.Happenings as happenings
use Rattle.path_model.specs.CheckerPrograms.Texts as texts
use Rattle.path_model.specs.CheckerPrograms.Texts.{definition_of, empty, tokens_of, with_close}
use Rattle.type_rules.specs.Declarators.{name_of}
use Rattle.type_rules.specs.Definition.{after}
use Rattle.type_rules.specs.Functions.{Defined, defined, defined_in, functions_in, functions_of}
use Rattle.type_rules.specs.Options.{if_there}
use Rattle.type_rules.specs.Parts.{Slot, plain, flat, none, each}
use Rattle.type_rules.specs.Roles.{Plain}
use Rattle.type_rules.specs.Scopes.{Scopes, at_start}
use Rattle.typed_unit.specs.Texts.{Text}
use Rattle.event_places.specs.Standing.{StandsIn, StandInFiles}
use Rattle.event_places.proofs.Closing.{front, each-two}
use Rattle.event_places.proofs.EachNode.{Everywhere, InParts, of-row}
use Rattle.event_places.proofs.Functions.{Each, each-more, IsFunctionOf, function-at, text-functions}
use Rattle.event_places.proofs.Lines.{PassesDown, IsIdentifierOf}
use Rattle.event_places.proofs.Walks.{IsDefined}

-- the line stands over some of these tokens
pub record IsOver (tokens : List Token) (l : Line) : Type 0 where
  pub low : ℕ
  pub high : ℕ
  pub before : List Token
  pub from : List Token
  pub rest : List Token
  pub whole : tokens ≡ before ++ from
  pub stands : Stands l low high from rest

module _ (tokens : List Token) where
  -- the parts of a line stand one after the other
  front-over : (l m : Line) → IsOver tokens (l ⨾ m) → IsOver tokens l
  front-over l m h = by h.low h.high h.from h.rest h.whole h.stands
    where
      by : (low high : ℕ) (ts rest : List Token) → tokens ≡ h.before ++ ts → Stands (l ⨾ m) low high ts rest → IsOver tokens l
      by low high ts rest w (OfBoth {middle = middle} {us = us} a b) = record { low = low; high = middle; before = h.before; from = ts; rest = us; whole = w; stands = a }

  back-over : (l m : Line) → IsOver tokens (l ⨾ m) → IsOver tokens m
  back-over l m h = by h.low h.high h.from h.rest h.whole h.stands
    where
      by : (low high : ℕ) (ts rest : List Token) → tokens ≡ h.before ++ ts → Stands (l ⨾ m) low high ts rest → IsOver tokens m
      by low high ts rest w (OfBoth {middle = middle} {us = us} a b) =
          let x = front l low middle ts us a in
          record { low = middle; high = high; before = h.before ++ x.0; from = us; rest = rest; whole = w ∙ ap (λ (vs : List Token). h.before ++ vs) x.1 ∙ sym (append_assoc h.before x.0 us); stands = b }

  -- the token that a declarator declares
  mutual
    declared-over : (d : Node) (t : Token) → IsOver tokens (line_of d) → declared_token d ≡ Some t → IsOver tokens (kept t)
    declared-over (node i p (Declarator k)) t h e = named-over k t (back-over _ _ (front-over _ _ h)) e
    declared-over (node i p (Primary k)) t h e = cc
    declared-over (node i p (Operation k)) t h e = cc
    declared-over (node i p (Initializer k)) t h e = cc
    declared-over (node i p (Specifier k)) t h e = cc
    declared-over (node i p (Part k)) t h e = cc
    declared-over (node i p (Outer k)) t h e = cc
    declared-over (node i p (Statement k)) t h e = cc
    declared-over (node i p (Iteration k)) t h e = cc
    declared-over (node i p (Jump k)) t h e = cc

    named-over : (k : DeclaratorShape) (t : Token) → IsOver tokens (declarator_line k) → declarator_token k ≡ Some t → IsOver tokens (kept t)
    named-over (Named pointers name suffixes) t h e = let s : name ≡ t = cc in subst (λ (x : Token). IsOver tokens (kept x)) s (back-over _ _ (front-over _ _ h))
    named-over (Nested pointers inner suffixes) t h e = declared-over inner t (back-over _ _ (front-over _ _ (front-over _ _ h))) e
    named-over (Unnamed pointers suffixes) t h e = cc

  kept-first : (t : Token) (low high : ℕ) (ts rest : List Token) → Stands (kept t) low high ts rest → ts ≡ t ∷ rest
  kept-first t low high ts rest OfKept = refl

  -- its identifier stands over it
  identifier-over : (number : ℕ) (t : Token) → IsOver tokens (kept t) → IsOver tokens (line_of (node number t.place (Primary (Ident t))))
  identifier-over number t h = record {
    low = number;
    high = number + 1;
    before = h.before;
    from = t ∷ h.rest;
    rest = h.rest;
    whole = h.whole ∙ ap (λ (us : List Token). h.before ++ us) (kept-first t h.low h.high h.from h.rest h.stands);
    stands = OfBoth (OfBoth OfPlace OfKept) OfNumber;
  }

  -- what is named is an identifier
  name-is : (o : Option Token) (name : Node) (low high : ℕ) (ts rest : List Token) → Stands (names o name) low high ts rest → (t : Token) × (o ≡ Some t) × IsIdentifierOf t name
  name-is o name low high ts rest (OfName {t = t}) = (t, refl, (low, refl))

  name-over : (declarator name : Node) → IsOver tokens (line_of declarator ⨾ names (declared_token declarator) name) → IsOver tokens (line_of name)
  name-over declarator name h =
      let n = back-over _ _ h in
      let x = name-is (declared_token declarator) name n.low n.high n.from n.rest n.stands in
      let number = x.2.0 in
      subst (λ (m : Node). IsOver tokens (line_of m)) (sym x.2.1) (identifier-over number x.0 (declared-over declarator x.0 (front-over _ _ h) x.1))

  pub over-down : PassesDown (IsOver tokens)
  over-down = record { front = λ {l} {m} h. front-over l m h; back = λ {l} {m} h. back-over l m h; identifier = name-over }

-- what each node of a unit has, each node of the body of each of its functions has
module _ (Q : Node → Type 0) where
  function-everywhere : (v : Scopes) (e : Node) (f : Defined) → Everywhere Q (flat e) → defined_in v e ≡ Some f → Everywhere Q (flat f.body)
  function-everywhere v (node i p (Outer (Function specs declarator block))) f h e = by (name_of declarator) e
    where
      by : (o : Option Token) → option_map (defined v specs declarator block) o ≡ Some f → Everywhere Q (flat f.body)
      by None e = cc
      by (Some name) e = let s : defined v specs declarator block name ≡ f = cc in subst (λ (g : Defined). Everywhere Q (flat g.body)) s h.1.1.1.0
  function-everywhere v n f h e = cc

  pub functions-everywhere : (v : Scopes) (slot : Slot) (es : Nodes) → InParts Q (each slot es none) → Each (λ f. Everywhere Q (flat f.body)) (functions_in v es)
  functions-everywhere v slot no_more h = tt
  functions-everywhere v slot (more e es) h =
      each-more (λ f. Everywhere Q (flat f.body)) (defined_in v e) (functions_in (after v Plain (flat e)) es) (λ f n. function-everywhere v e f h.0 n) (functions-everywhere (after v Plain (flat e)) slot es h.1)

-- the nodes of the body of a function of a text stand over tokens of it
abbrev IsOverAll : List Token → Defined → Type 0
IsOverAll tokens f = Everywhere (λ n. IsOver tokens (line_of n)) (flat f.body)

abbrev IsOverIn : ℕ → Text → Defined → Type 0
IsOverIn file t f = IsFunctionOf file t f × IsOverAll t.tokens f

bodies-over : (file : ℕ) (t : Text) → StandsIn file t → Each (IsOverIn file t) (functions_of t.trees)
bodies-over file t h =
    let unit : IsOver t.tokens (row_line t.trees) = record { low = 0; high = h.standing.0; before = []; from = t.tokens; rest = []; whole = refl; stands = h.standing.1 } in
    each-two (IsFunctionOf file t) (IsOverAll t.tokens) (functions_of t.trees) (text-functions file t h)
    (functions-everywhere (λ n. IsOver t.tokens (line_of n)) at_start plain t.trees (of-row (IsOver t.tokens) (over-down t.tokens) plain t.trees none unit tt))

-- THE BODY OF A FUNCTION of a program, over the tokens of its file, which stand there
pub record StandsThere (ts : List Text) (f : happenings.Function) : Type 0 where
  pub position : ℕ
  pub text : Text
  pub there : slice_get ts position ≡ Some text
  pub tokens : tokens_of ts f.place.file ≡ text.tokens
  pub over : Everywhere (λ n. IsOver text.tokens (line_of n)) (flat (definition_of ts f).body)

pub body-stands : (ts : List Text) → StandInFiles ts → (f : happenings.Function) → IsDefined (texts.functions_in ts) f → StandsThere ts f
body-stands ts stand f w =
    let k = function-at IsOverIn ts (λ i t e. bodies-over i t (stand i t e)) w.number w.defined w.numbered in
    let is = k.is_of in
    let own : f.place.file ≡ k.position = let a = is.0.place_is in let b : w.defined.place.file ≡ f.place.file = ap (λ (g : happenings.Function). g.place.file) w.same in omega (arith, a, b) in
    let same : (definition_of ts f).body ≡ w.defined.body = ap (λ (o : Option Defined). (if_there o (empty f.place) (with_close ts)).body) w.first in
    record {
      position = k.position;
      text = k.text;
      there = k.here;
      tokens = ap (tokens_of ts) own ∙ ap (λ (o : Option Text). if_there o [] (λ t. t.tokens)) k.here;
      over = subst (λ (n : Node). Everywhere (λ m. IsOver k.text.tokens (line_of m)) (flat n)) (sym same) is.1;
    }
