-- The functions of a unit have the number of its file, so that the units of a program have the numbers of all its functions.
use Rattle.std.proofs.Common.{◌≡◌, ℕ, zero, suc, ◌+◌, ◌<◌, List, [], ◌∷◌, ◌++◌, length, Option, None, Some, slice_get, Bor, refl, subst, arith}
use Rattle.std.proofs.Math.Logic.{∥∥₁_elim, ∥∥₁_map}
use Rattle.std.specs.Prelude.{⊤}
use Rattle.std.specs.Option.{option_map}
use Rattle.c_grammar.specs.CPlaces.Lines.{Line, nothing, kept, all_kept, fixed, at, numbered, names, ◌⨾◌, line_of, declarator_line, row_line}
use Rattle.c_grammar.specs.CPlaces.Stands.{Stands, OfNothing, OfKept, OfAll, OfFixed, OfPlace, OfNumber, OfName, OfBoth}
use Rattle.c_tree.specs.declared.token.Token.{Token}
use Rattle.c_tree.specs.Node.{Node, node, Primary, Operation, Initializer, Specifier, Declarator, Part, Outer, Statement, Iteration, Jump, DeclaratorShape, Named, Nested, Unnamed, Declaration, Function, Empty, Nodes, no_more, more}
use Rattle.c_tree.specs.TokenPlaces.{AreOfFile}
use Rattle.c_tree.specs.Views.{nodes_of}
use Rattle.type_rules.specs.Declarators.{name_of, name_of_shape}
use Rattle.type_rules.specs.Definition.{after}
use Rattle.type_rules.specs.Functions.{Defined, defined, defined_in, functions_in, functions_of}
use Rattle.type_rules.specs.Options.{if_there}
use Rattle.type_rules.specs.Parts.{flat}
use Rattle.type_rules.specs.Roles.{Plain}
use Rattle.type_rules.specs.Scopes.{Scopes, at_start}
use Rattle.call_graph.specs.OfPrograms.Definitions.{AreNumbered, definitions, trees_in}
use Rattle.typed_unit.specs.declared.typed_unit.TypedUnit.{TypedUnit}

-- the tokens that a line keeps one by one are of this file
abbrev Keeps : ℕ → Line → Type 0
Keeps file nothing = ⊤
Keeps file (kept t) = t.place.file ≡ file
Keeps file (all_kept ts) = ⊤
Keeps file (fixed s) = ⊤
Keeps file (at place) = ⊤
Keeps file (numbered id) = ⊤
Keeps file (names token n) = ⊤
Keeps file (l ⨾ m) = Keeps file l × Keeps file m

of-rest : (file : ℕ) (us ts : List Token) → AreOfFile file (us ++ ts) → AreOfFile file ts
of-rest file [] ts h = h
of-rest file (u ∷ us) ts h = of-rest file us ts h.1

keeps : (file : ℕ) (l : Line) (low high : ℕ) (ts rest : List Token) → Stands l low high ts rest → AreOfFile file ts → Keeps file l × AreOfFile file rest
keeps file nothing low high ts rest OfNothing h = (tt, h)
keeps file (kept t) low high ts rest OfKept h = (h.0, h.1)
keeps file (all_kept us) low high ts rest OfAll h = (tt, of-rest file us rest h)
keeps file (fixed s) low high ts rest (OfFixed e) h = (tt, h.1)
keeps file (at p) low high ts rest OfPlace h = (tt, h)
keeps file (numbered i) low high ts rest OfNumber h = (tt, h)
keeps file (names t n) low high ts rest OfName h = (tt, h)
keeps file (l ⨾ m) low high ts rest (OfBoth {middle = middle} {us = us} s t) h =
    let x = keeps file l low middle ts us s h in
    let y = keeps file m middle high us rest t x.1 in
    ((x.0, y.0), y.1)

-- the name of a declarator
mutual
  named-in : (file : ℕ) (d : Node) (name : Token) → Keeps file (line_of d) → name_of d ≡ Some name → name.place.file ≡ file
  named-in file (node i p (Declarator k)) name h e = named-by file k name h.0.1 e
  named-in file (node i p (Primary k)) name h e = cc
  named-in file (node i p (Operation k)) name h e = cc
  named-in file (node i p (Initializer k)) name h e = cc
  named-in file (node i p (Specifier k)) name h e = cc
  named-in file (node i p (Part k)) name h e = cc
  named-in file (node i p (Outer k)) name h e = cc
  named-in file (node i p (Statement k)) name h e = cc
  named-in file (node i p (Iteration k)) name h e = cc
  named-in file (node i p (Jump k)) name h e = cc

  named-by : (file : ℕ) (k : DeclaratorShape) (name : Token) → Keeps file (declarator_line k) → name_of_shape k ≡ Some name → name.place.file ≡ file
  named-by file (Named pointers token suffixes) name h e = let s : token ≡ name = cc in subst (λ (t : Token). t.place.file ≡ file) s h.0.1
  named-by file (Nested pointers inner suffixes) name h e = named-in file inner name h.0.0.1 e
  named-by file (Unnamed pointers suffixes) name h e = cc

function-in : (file : ℕ) (v : Scopes) (e : Node) (f : Defined) → Keeps file (line_of e) → defined_in v e ≡ Some f → f.file ≡ file
function-in file v (node i p (Outer (Function specs declarator block))) f h e = by (name_of declarator) refl e
  where
    by : (o : Option Token) → name_of declarator ≡ o → option_map (defined v specs declarator block) o ≡ Some f → f.file ≡ file
    by None n e = cc
    by (Some name) n e =
        let s : defined v specs declarator block name ≡ f = cc in
        subst (λ (g : Defined). g.file ≡ file) s (named-in file declarator name h.0.1.0.1 n)
function-in file v (node i p (Outer (Declaration specs declarators))) f h e = cc
function-in file v (node i p (Outer Empty)) f h e = cc
function-in file v (node i p (Primary k)) f h e = cc
function-in file v (node i p (Operation k)) f h e = cc
function-in file v (node i p (Initializer k)) f h e = cc
function-in file v (node i p (Specifier k)) f h e = cc
function-in file v (node i p (Declarator k)) f h e = cc
function-in file v (node i p (Part k)) f h e = cc
function-in file v (node i p (Statement k)) f h e = cc
function-in file v (node i p (Iteration k)) f h e = cc
function-in file v (node i p (Jump k)) f h e = cc

abbrev AllOf : ℕ → List Defined → Type 0
AllOf file [] = ⊤
AllOf file (f ∷ fs) = (f.file ≡ file) × AllOf file fs

functions-of : (file : ℕ) (v : Scopes) (es : Nodes) → Keeps file (row_line es) → AllOf file (functions_in v es)
functions-of file v no_more h = tt
functions-of file v (more e es) h = by (defined_in v e) refl (functions-of file (after v Plain (flat e)) es h.1)
  where
    by : (o : Option Defined) → defined_in v e ≡ o → AllOf file (functions_in (after v Plain (flat e)) es)
        → AllOf file (if_there o (functions_in (after v Plain (flat e)) es) (λ f. f ∷ functions_in (after v Plain (flat e)) es))
    by None n a = a
    by (Some f) n a = (function-in file v e f h.0 n, a)

unit-files : (u : TypedUnit) → ∥ AllOf u.unit.file (functions_of (nodes_of u.unit.chunks)) ∥₁
unit-files u =
    ∥∥₁_elim u.placed squash₁
    (λ p. ∥∥₁_map u.standing (λ s. functions-of u.unit.file at_start (nodes_of u.unit.chunks) (keeps u.unit.file (row_line (nodes_of u.unit.chunks)) 0 s.0 u.unit.tokens.now [] s.1 p.of_file).0))

abbrev AllBelow : ℕ → List Defined → Type 0
AllBelow n [] = ⊤
AllBelow n (f ∷ fs) = (f.file < n) × AllBelow n fs

both-below : (file n : ℕ) (fs gs : List Defined) → file < n → AllOf file fs → AllBelow n gs → AllBelow n (fs ++ gs)
both-below file n [] gs l h g = g
both-below file n (f ∷ fs) gs l h g = let e = h.0 in (grind (arith, e, l), both-below file n fs gs l h.1 g)

-- the units of which these are the first k are numbered on
abbrev AreNumberedFrom : ℕ → List (Bor TypedUnit) → Type 0
AreNumberedFrom k units = (i : ℕ) (u : Bor TypedUnit) → slice_get units i ≡ Some u → u.now.unit.file ≡ k + i

all-below : (k n : ℕ) (units : List (Bor TypedUnit)) → AreNumberedFrom k units → n ≡ k + length units → ∥ AllBelow n (definitions (trees_in units)) ∥₁
all-below k n [] h e = ∣ tt ∣₁
all-below k n (u ∷ us) h e =
    ∥∥₁_elim (unit-files u.now) squash₁
    (λ fs. ∥∥₁_map (all-below (suc k) n us (λ i w s. let x = h (suc i) w s in omega (arith, x)) (omega (arith, e))) (λ gs. both-below u.now.unit.file n (functions_of (nodes_of u.now.unit.chunks)) (definitions (trees_in us)) below fs gs))
  where
    below : u.now.unit.file < n
    below = let x = h 0 u refl in omega (arith, x, e)

below-at : (n : ℕ) (fs : List Defined) (k : ℕ) (f : Defined) → AllBelow n fs → slice_get fs k ≡ Some f → f.file < n
below-at n [] k f h e = cc
below-at n (g ∷ fs) zero f h e = let s : g ≡ f = cc in subst (λ (x : Defined). x.file < n) s h.0
below-at n (g ∷ fs) (suc k) f h e = below-at n fs k f h.1 e

-- the unit of each function is there
pub file-below : (units : List (Bor TypedUnit)) (k : ℕ) (f : Defined) → AreNumbered units → slice_get (definitions (trees_in units)) k ≡ Some f → ∥ f.file < length units ∥₁
file-below units k f h e =
    ∥∥₁_map (all-below 0 (length units) units (λ i u s. let x = h i u s in omega (arith, x)) (omega arith))
    (λ a. below-at (length units) (definitions (trees_in units)) k f a e)
