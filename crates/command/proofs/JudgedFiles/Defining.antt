-- The functions that a unit defines: there are no more of them than tokens, and the name of each is one of the tokens.
use Rattle.std.proofs.Common.{◌≡◌, ℕ, ◌+◌, ◌≤◌, List, [], ◌∷◌, ◌++◌, length, Contains, Option, None, Some, refl, subst, arith, length-append}
use Rattle.std.proofs.lemmas.List.Elements.{Contains-append_right}
use Rattle.std.specs.Prelude.{⊤}
use Rattle.std.specs.Option.{option_map}
use Rattle.c_grammar.specs.CPlaces.Lines.{Line, nothing, kept, all_kept, fixed, at, numbered, names, ◌⨾◌, line_of, declarator_line, row_line}
use Rattle.c_grammar.specs.CPlaces.Stands.{Stands, OfNothing, OfKept, OfAll, OfFixed, OfPlace, OfNumber, OfName, OfBoth}
use Rattle.c_tree.specs.declared.token.Token.{Token}
use Rattle.c_tree.specs.Node.{Node, node, Primary, Operation, Initializer, Specifier, Declarator, Part, Outer, Statement, Iteration, Jump, DeclaratorShape, Named, Nested, Unnamed, Declaration, Function, Empty, Nodes, no_more, more}
use Rattle.type_rules.specs.Declarators.{name_of, name_of_shape}
use Rattle.type_rules.specs.Definition.{after}
use Rattle.type_rules.specs.Functions.{Defined, defined, defined_in, functions_in, functions_of}
use Rattle.type_rules.specs.Options.{if_there}
use Rattle.type_rules.specs.Parts.{flat}
use Rattle.type_rules.specs.Roles.{Plain}
use Rattle.type_rules.specs.Scopes.{Scopes, at_start}

-- ---- how many tokens a line keeps one by one

abbrev singles : Line → ℕ
singles nothing = 0
singles (kept t) = 1
singles (all_kept ts) = 0
singles (fixed s) = 0
singles (at place) = 0
singles (numbered id) = 0
singles (names token n) = 0
singles (l ⨾ m) = singles l + singles m

singles-few : (l : Line) (low high : ℕ) (ts rest : List Token) → Stands l low high ts rest → singles l + length rest ≤ length ts
singles-few nothing low high ts rest OfNothing = omega arith
singles-few (kept t) low high ts rest OfKept = omega arith
singles-few (all_kept us) low high ts rest OfAll = omega (arith, length-append us rest)
singles-few (fixed s) low high ts rest (OfFixed e) = omega arith
singles-few (at p) low high ts rest OfPlace = omega arith
singles-few (numbered i) low high ts rest OfNumber = omega arith
singles-few (names t n) low high ts rest OfName = omega arith
singles-few (l ⨾ m) low high ts rest (OfBoth {middle = middle} {us = us} s t) =
    let a = singles-few l low middle ts us s in
    let b = singles-few m middle high us rest t in
    omega (arith, a, b)

-- the name of a declarator is one
mutual
  one-in : (d : Node) (name : Token) → name_of d ≡ Some name → 1 ≤ singles (line_of d)
  one-in (node i p (Declarator k)) name e = let a = one-by k name e in omega (arith, a)
  one-in (node i p (Primary k)) name e = cc
  one-in (node i p (Operation k)) name e = cc
  one-in (node i p (Initializer k)) name e = cc
  one-in (node i p (Specifier k)) name e = cc
  one-in (node i p (Part k)) name e = cc
  one-in (node i p (Outer k)) name e = cc
  one-in (node i p (Statement k)) name e = cc
  one-in (node i p (Iteration k)) name e = cc
  one-in (node i p (Jump k)) name e = cc

  one-by : (k : DeclaratorShape) (name : Token) → name_of_shape k ≡ Some name → 1 ≤ singles (declarator_line k)
  one-by (Named pointers token suffixes) name e = omega arith
  one-by (Nested pointers inner suffixes) name e = let a = one-in inner name e in omega (arith, a)
  one-by (Unnamed pointers suffixes) name e = cc

function-one : (v : Scopes) (e : Node) (f : Defined) → defined_in v e ≡ Some f → 1 ≤ singles (line_of e)
function-one v (node i p (Outer (Function specs declarator block))) f e = by (name_of declarator) refl e
  where
    by : (o : Option Token) → name_of declarator ≡ o → option_map (defined v specs declarator block) o ≡ Some f → 1 ≤ singles (line_of (node i p (Outer (Function specs declarator block))))
    by None n e = cc
    by (Some name) n e = let a = one-in declarator name n in omega (arith, a)
function-one v (node i p (Outer (Declaration specs declarators))) f e = cc
function-one v (node i p (Outer Empty)) f e = cc
function-one v (node i p (Primary k)) f e = cc
function-one v (node i p (Operation k)) f e = cc
function-one v (node i p (Initializer k)) f e = cc
function-one v (node i p (Specifier k)) f e = cc
function-one v (node i p (Declarator k)) f e = cc
function-one v (node i p (Part k)) f e = cc
function-one v (node i p (Statement k)) f e = cc
function-one v (node i p (Iteration k)) f e = cc
function-one v (node i p (Jump k)) f e = cc

functions-few : (v : Scopes) (es : Nodes) → length (functions_in v es) ≤ singles (row_line es)
functions-few v no_more = omega arith
functions-few v (more e es) = by (defined_in v e) refl (functions-few (after v Plain (flat e)) es)
  where
    by : (o : Option Defined) → defined_in v e ≡ o → length (functions_in (after v Plain (flat e)) es) ≤ singles (row_line es)
        → length (if_there o (functions_in (after v Plain (flat e)) es) (λ f. f ∷ functions_in (after v Plain (flat e)) es)) ≤ singles (line_of e) + singles (row_line es)
    by None n a = omega (arith, a)
    by (Some f) n a = let b = function-one v e f n in omega (arith, a, b)

-- no more functions than tokens
pub few_functions : (es : Nodes) (high : ℕ) (ts : List Token) → Stands (row_line es) 0 high ts [] → length (functions_of es) ≤ length ts
few_functions es high ts s =
    let a = functions-few at_start es in
    let b = singles-few (row_line es) 0 high ts [] s in
    omega (arith, a, b)

-- ---- the tokens that a line keeps one by one

abbrev Keeps : (Token → Type 0) → Line → Type 0
Keeps P nothing = ⊤
Keeps P (kept t) = P t
Keeps P (all_kept ts) = ⊤
Keeps P (fixed s) = ⊤
Keeps P (at place) = ⊤
Keeps P (numbered id) = ⊤
Keeps P (names token n) = ⊤
Keeps P (l ⨾ m) = Keeps P l × Keeps P m

-- this holds of each token
abbrev pub Each : (Token → Type 0) → List Token → Type 0
Each P [] = ⊤
Each P (t ∷ ts) = P t × Each P ts

each-behind : (P : Token → Type 0) (us ts : List Token) → Each P (us ++ ts) → Each P ts
each-behind P [] ts h = h
each-behind P (u ∷ us) ts h = each-behind P us ts h.1

keeps : (P : Token → Type 0) (l : Line) (low high : ℕ) (ts rest : List Token) → Stands l low high ts rest → Each P ts → Keeps P l × Each P rest
keeps P nothing low high ts rest OfNothing h = (tt, h)
keeps P (kept t) low high ts rest OfKept h = h
keeps P (all_kept us) low high ts rest OfAll h = (tt, each-behind P us rest h)
keeps P (fixed s) low high ts rest (OfFixed e) h = (tt, h.1)
keeps P (at p) low high ts rest OfPlace h = (tt, h)
keeps P (numbered i) low high ts rest OfNumber h = (tt, h)
keeps P (names t n) low high ts rest OfName h = (tt, h)
keeps P (l ⨾ m) low high ts rest (OfBoth {middle = middle} {us = us} s t) h =
    let x = keeps P l low middle ts us s h in
    let y = keeps P m middle high us rest t x.1 in
    ((x.0, y.0), y.1)

mutual
  named-in : (P : Token → Type 0) (d : Node) (name : Token) → Keeps P (line_of d) → name_of d ≡ Some name → P name
  named-in P (node i p (Declarator k)) name h e = named-by P k name h.0.1 e
  named-in P (node i p (Primary k)) name h e = cc
  named-in P (node i p (Operation k)) name h e = cc
  named-in P (node i p (Initializer k)) name h e = cc
  named-in P (node i p (Specifier k)) name h e = cc
  named-in P (node i p (Part k)) name h e = cc
  named-in P (node i p (Outer k)) name h e = cc
  named-in P (node i p (Statement k)) name h e = cc
  named-in P (node i p (Iteration k)) name h e = cc
  named-in P (node i p (Jump k)) name h e = cc

  named-by : (P : Token → Type 0) (k : DeclaratorShape) (name : Token) → Keeps P (declarator_line k) → name_of_shape k ≡ Some name → P name
  named-by P (Named pointers token suffixes) name h e = let s : token ≡ name = cc in subst P s h.0.1
  named-by P (Nested pointers inner suffixes) name h e = named-in P inner name h.0.0.1 e
  named-by P (Unnamed pointers suffixes) name h e = cc

-- a token of which this holds stands where the function's name does
pub record IsNamedAt (P : Token → Type 0) (f : Defined) : Type 0 where
  pub token : Token
  pub holds : P token
  pub place : token.place ≡ f.place

function-named : (P : Token → Type 0) (v : Scopes) (e : Node) (f : Defined) → Keeps P (line_of e) → defined_in v e ≡ Some f → IsNamedAt P f
function-named P v (node i p (Outer (Function specs declarator block))) f h e = by (name_of declarator) refl e
  where
    by : (o : Option Token) → name_of declarator ≡ o → option_map (defined v specs declarator block) o ≡ Some f → IsNamedAt P f
    by None n e = cc
    by (Some name) n e =
        let s : defined v specs declarator block name ≡ f = cc in
        subst (IsNamedAt P) s (record { token = name; holds = named-in P declarator name h.0.1.0.1 n; place = refl })
function-named P v (node i p (Outer (Declaration specs declarators))) f h e = cc
function-named P v (node i p (Outer Empty)) f h e = cc
function-named P v (node i p (Primary k)) f h e = cc
function-named P v (node i p (Operation k)) f h e = cc
function-named P v (node i p (Initializer k)) f h e = cc
function-named P v (node i p (Specifier k)) f h e = cc
function-named P v (node i p (Declarator k)) f h e = cc
function-named P v (node i p (Part k)) f h e = cc
function-named P v (node i p (Statement k)) f h e = cc
function-named P v (node i p (Iteration k)) f h e = cc
function-named P v (node i p (Jump k)) f h e = cc

-- of all functions
abbrev pub AreNamedAt : (Token → Type 0) → List Defined → Type 0
AreNamedAt P [] = ⊤
AreNamedAt P (f ∷ fs) = IsNamedAt P f × AreNamedAt P fs

functions-named : (P : Token → Type 0) (v : Scopes) (es : Nodes) → Keeps P (row_line es) → AreNamedAt P (functions_in v es)
functions-named P v no_more h = tt
functions-named P v (more e es) h = by (defined_in v e) refl (functions-named P (after v Plain (flat e)) es h.1)
  where
    by : (o : Option Defined) → defined_in v e ≡ o → AreNamedAt P (functions_in (after v Plain (flat e)) es)
        → AreNamedAt P (if_there o (functions_in (after v Plain (flat e)) es) (λ f. f ∷ functions_in (after v Plain (flat e)) es))
    by None n a = a
    by (Some f) n a = (function-named P v e f h.0 n, a)

pub each-also : (P Q : Token → Type 0) → ((t : Token) → P t → Q t) → (ts : List Token) → Each P ts → Each Q ts
each-also P Q f [] h = tt
each-also P Q f (t ∷ ts) h = (f t h.0, each-also P Q f ts h.1)

here : (t : Token) (ts : List Token) → Contains (t ∷ ts) t
here t ts = (0, omega arith, refl)

pub each-among : (ts : List Token) → Each (Contains ts) ts
each-among [] = tt
each-among (t ∷ ts) = (here t ts, each-also (Contains ts) (Contains (t ∷ ts)) (λ u h. Contains-append_right (t ∷ []) ts u h) ts (each-among ts))

-- what holds of each token holds of those where the names of functions stand
pub functions_named : (P : Token → Type 0) (es : Nodes) (high : ℕ) (ts : List Token) → Stands (row_line es) 0 high ts [] → Each P ts → AreNamedAt P (functions_of es)
functions_named P es high ts s h = functions-named P at_start es (keeps P (row_line es) 0 high ts [] s h).0
