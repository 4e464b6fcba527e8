-- The names of functions stand at places that rise, file after file and in each from its beginning to its end. So no two functions stand at
-- one place.
use Rattle.std.proofs.Common.{◌≡◌, ℕ, suc, ◌+◌, ◌≤◌, ◌<◌, List, [], ◌∷◌, ◌++◌, Option, None, Some, slice_get, Bor, Bool, true, false, ◌&&◌, nat_eq, ◌⊎◌, inl, inr, refl, sym, subst, arith, All}
use Rattle.std.proofs.Math.Logic.{∥∥₁_elim, ∥∥₁_map}
use Rattle.std.proofs.Props.{props}
use Rattle.std.proofs.lemmas.Bool.{eqb-true}
use Rattle.std.proofs.lemmas.List.Elements.{All-nil, All-cons}
use Rattle.std.proofs.lemmas.List.Kept.{AllPairs-cons}
use Rattle.std.specs.Prelude.{⊤}
use Rattle.std.specs.Option.{option_map}
use Rattle.c_grammar.specs.CPlaces.Lines.{Line, nothing, kept, all_kept, fixed, at, numbered, names, ◌⨾◌, line_of, declarator_line, row_line}
use Rattle.c_grammar.specs.CPlaces.Stands.{Stands, OfNothing, OfKept, OfAll, OfFixed, OfPlace, OfNumber, OfName, OfBoth}
use Rattle.c_tree.specs.declared.place.Place.{Place}
use Rattle.c_tree.specs.declared.token.Token.{Token}
use Rattle.c_tree.specs.Node.{Node, node, Primary, Operation, Initializer, Specifier, Declarator, Part, Outer, Statement, Iteration, Jump, DeclaratorShape, Named, Nested, Unnamed, Declaration, Function, Empty, Nodes, no_more, more}
use Rattle.c_tree.specs.TokenPlaces.{AreOfFile, Rises}
use Rattle.c_tree.specs.Views.{nodes_of}
use Rattle.type_rules.specs.Declarators.{name_of, name_of_shape}
use Rattle.type_rules.specs.Definition.{after}
use Rattle.type_rules.specs.Functions.{Defined, defined, defined_in, functions_in, functions_of}
use Rattle.type_rules.specs.Options.{if_there}
use Rattle.type_rules.specs.Parts.{flat}
use Rattle.type_rules.specs.Roles.{Plain}
use Rattle.type_rules.specs.Scopes.{Scopes, at_start}
use Rattle.path_model.specs.CheckerGraphs.Graphs.{AreApartPlaces}
use Rattle.path_model.specs.CheckerPrograms.Texts.{same_place}
use Rattle.call_graph.specs.OfPrograms.Definitions.{AreNumbered, definitions, trees_in}
use Rattle.typed_unit.specs.declared.typed_unit.TypedUnit.{TypedUnit}

-- this holds of the places of the tokens that a line keeps one by one
abbrev Keeps : (Place → Type 0) → Line → Type 0
Keeps P nothing = ⊤
Keeps P (kept t) = P t.place
Keeps P (all_kept ts) = ⊤
Keeps P (fixed s) = ⊤
Keeps P (at place) = ⊤
Keeps P (numbered id) = ⊤
Keeps P (names token n) = ⊤
Keeps P (l ⨾ m) = Keeps P l × Keeps P m

keeps-also : (P Q : Place → Type 0) → ((p : Place) → P p → Q p) → (l : Line) → Keeps P l → Keeps Q l
keeps-also P Q f nothing h = tt
keeps-also P Q f (kept t) h = f t.place h
keeps-also P Q f (all_kept ts) h = tt
keeps-also P Q f (fixed s) h = tt
keeps-also P Q f (at place) h = tt
keeps-also P Q f (numbered id) h = tt
keeps-also P Q f (names token n) h = tt
keeps-also P Q f (l ⨾ m) h = (keeps-also P Q f l h.0, keeps-also P Q f m h.1)

-- a place in this file, from one token on and before another
abbrev IsBetween : ℕ → ℕ → ℕ → Place → Type 0
IsBetween file low high p = (p.file ≡ file) × (low ≤ p.token) × (p.token < high)

-- the tokens behind a line rise from here on
record Behind (file low : ℕ) (l : Line) (rest : List Token) (high : ℕ) : Type 0 where
  middle : ℕ
  up : low ≤ middle
  keeps : Keeps (IsBetween file low middle) l
  of_file : AreOfFile file rest
  rises : Rises middle rest high

behind-all : (file low : ℕ) (us ts : List Token) (high : ℕ) → AreOfFile file (us ++ ts) → Rises low (us ++ ts) high
    → (middle : ℕ) × (low ≤ middle) × AreOfFile file ts × Rises middle ts high
behind-all file low [] ts high f r = (low, omega arith, f, r)
behind-all file low (u ∷ us) ts high f r =
    let x = behind-all file (u.place.token + 1) us ts high f.1 r.1 in
    let a = r.0 in
    let b = x.1 in
    (x.0, omega (arith, a, b), x.2, x.3)

behind : (file : ℕ) (l : Line) (a b : ℕ) (ts rest : List Token) → Stands l a b ts rest → (low high : ℕ) → AreOfFile file ts → Rises low ts high → Behind file low l rest high
behind file nothing a b ts rest OfNothing low high f r = record { middle = low; up = omega arith; keeps = tt; of_file = f; rises = r }
behind file (kept t) a b ts rest OfKept low high f r =
    let e = r.0 in
    record { middle = t.place.token + 1; up = omega (arith, e); keeps = (f.0, r.0, omega arith); of_file = f.1; rises = r.1 }
behind file (all_kept us) a b ts rest OfAll low high f r =
    let x = behind-all file low us rest high f r in
    record { middle = x.0; up = x.1; keeps = tt; of_file = x.2; rises = x.3 }
behind file (fixed s) a b ts rest (OfFixed {t = t} e) low high f r =
    let h = r.0 in
    record { middle = t.place.token + 1; up = omega (arith, h); keeps = tt; of_file = f.1; rises = r.1 }
behind file (at p) a b ts rest OfPlace low high f r = record { middle = low; up = omega arith; keeps = tt; of_file = f; rises = r }
behind file (numbered i) a b ts rest OfNumber low high f r = record { middle = low; up = omega arith; keeps = tt; of_file = f; rises = r }
behind file (names t n) a b ts rest OfName low high f r = record { middle = low; up = omega arith; keeps = tt; of_file = f; rises = r }
behind file (l ⨾ m) a b ts rest (OfBoth {middle = c} {us = us} s t) low high f r =
    let x = behind file l a c ts us s low high f r in
    let y = behind file m c b us rest t x.middle high x.of_file x.rises in
    let u = x.up in
    let v = y.up in
    record {
      middle = y.middle;
      up = omega (arith, u, v);
      keeps = (
        keeps-also (IsBetween file low x.middle) (IsBetween file low y.middle) (λ p h. let e = h.2 in (h.0, h.1, omega (arith, e, v))) l x.keeps,
        keeps-also (IsBetween file x.middle y.middle) (IsBetween file low y.middle) (λ p h. let e = h.1 in (h.0, omega (arith, e, u), h.2)) m y.keeps,
      );
      of_file = y.of_file;
      rises = y.rises;
    }

-- the name of a declarator
mutual
  named-in : (P : Place → Type 0) (d : Node) (name : Token) → Keeps P (line_of d) → name_of d ≡ Some name → P name.place
  named-in P (node i p (Declarator k)) name h e = named-by P k name h.0.1 e
  named-in P (node i p (Primary k)) name h e = cc
  named-in P (node i p (Operation k)) name h e = cc
  named-in P (node i p (Initializer k)) name h e = cc
  named-in P (node i p (Specifier k)) name h e = cc
  named-in P (node i p (Part k)) name h e = cc
  named-in P (node i p (Outer k)) name h e = cc
  named-in P (node i p (Statement k)) name h e = cc
  named-in P (node i p (Iteration k)) name h e = cc
  named-in P (node i p (Jump k)) name h e = cc

  named-by : (P : Place → Type 0) (k : DeclaratorShape) (name : Token) → Keeps P (declarator_line k) → name_of_shape k ≡ Some name → P name.place
  named-by P (Named pointers token suffixes) name h e = let s : token ≡ name = cc in subst (λ (t : Token). P t.place) s h.0.1
  named-by P (Nested pointers inner suffixes) name h e = named-in P inner name h.0.0.1 e
  named-by P (Unnamed pointers suffixes) name h e = cc

-- the name of a function
function-in : (P : Place → Type 0) (v : Scopes) (e : Node) (f : Defined) → Keeps P (line_of e) → defined_in v e ≡ Some f → P f.place
function-in P v (node i p (Outer (Function specs declarator block))) f h e = by (name_of declarator) refl e
  where
    by : (o : Option Token) → name_of declarator ≡ o → option_map (defined v specs declarator block) o ≡ Some f → P f.place
    by None n e = cc
    by (Some name) n e =
        let s : defined v specs declarator block name ≡ f = cc in
        subst (λ (g : Defined). P g.place) s (named-in P declarator name h.0.1.0.1 n)
function-in P v (node i p (Outer (Declaration specs declarators))) f h e = cc
function-in P v (node i p (Outer Empty)) f h e = cc
function-in P v (node i p (Primary k)) f h e = cc
function-in P v (node i p (Operation k)) f h e = cc
function-in P v (node i p (Initializer k)) f h e = cc
function-in P v (node i p (Specifier k)) f h e = cc
function-in P v (node i p (Declarator k)) f h e = cc
function-in P v (node i p (Part k)) f h e = cc
function-in P v (node i p (Statement k)) f h e = cc
function-in P v (node i p (Iteration k)) f h e = cc
function-in P v (node i p (Jump k)) f h e = cc

-- in a later file, or in this one from this token on
abbrev IsFrom : ℕ → ℕ → Place → Type 0
IsFrom file low p = (file < p.file) ⊎ ((p.file ≡ file) × (low ≤ p.token))

-- each stands behind the one before it
abbrev AreRising : ℕ → ℕ → List Defined → Type 0
AreRising file low [] = ⊤
AreRising file low (f ∷ fs) = IsFrom file low f.place × AreRising f.place.file (f.place.token + 1) fs

-- those of one file
abbrev AreInFile : ℕ → ℕ → List Defined → Type 0
AreInFile file low [] = ⊤
AreInFile file low (f ∷ fs) = (f.place.file ≡ file) × (low ≤ f.place.token) × AreInFile file (f.place.token + 1) fs

in-file-from : (file low middle : ℕ) (fs : List Defined) → low ≤ middle → AreInFile file middle fs → AreInFile file low fs
in-file-from file low middle [] l h = tt
in-file-from file low middle (f ∷ fs) l h = let e = h.1 in (h.0, omega (arith, l, e), h.2)

functions-rise : (file : ℕ) (v : Scopes) (es : Nodes) (a b : ℕ) (ts : List Token) → Stands (row_line es) a b ts [] → (low high : ℕ) → AreOfFile file ts → Rises low ts high
    → AreInFile file low (functions_in v es)
functions-rise file v no_more a b ts s low high f r = tt
functions-rise file v (more e es) a b ts (OfBoth {middle = c} {us = us} s t) low high f r =
    let x = behind file (line_of e) a c ts us s low high f r in
    by x (defined_in v e) refl (functions-rise file (after v Plain (flat e)) es c b us t x.middle high x.of_file x.rises)
  where
    by : (x : Behind file low (line_of e) us high) (o : Option Defined) → defined_in v e ≡ o → AreInFile file x.middle (functions_in (after v Plain (flat e)) es)
        → AreInFile file low (if_there o (functions_in (after v Plain (flat e)) es) (λ f. f ∷ functions_in (after v Plain (flat e)) es))
    by x None n g = in-file-from file low x.middle (functions_in (after v Plain (flat e)) es) x.up g
    by x (Some d) n g =
        let p = function-in (IsBetween file low x.middle) v e d x.keeps n in
        let l = p.2 in
        (p.0, p.1, in-file-from file (d.place.token + 1) x.middle (functions_in (after v Plain (flat e)) es) (omega (arith, l)) g)

unit-rises : (u : TypedUnit) → ∥ AreInFile u.unit.file 0 (functions_of (nodes_of u.unit.chunks)) ∥₁
unit-rises u =
    ∥∥₁_elim u.placed squash₁
    (λ p. ∥∥₁_map u.standing (λ s. functions-rise u.unit.file at_start (nodes_of u.unit.chunks) 0 s.0 u.unit.tokens.now s.1 0 p.high p.of_file p.rises))

-- those of a file, and then those of later ones
later-from : (file middle low : ℕ) (gs : List Defined) → file < middle → AreRising middle 0 gs → AreRising file low gs
later-from file middle low [] l h = tt
later-from file middle low (g ∷ gs) l h = (by h.0, h.1)
  where
    by : IsFrom middle 0 g.place → IsFrom file low g.place
    by (inl k) = inl (omega (arith, l, k))
    by (inr k) = let e = k.0 in inl (omega (arith, l, e))

both-rise : (file low : ℕ) (fs gs : List Defined) → AreInFile file low fs → AreRising (suc file) 0 gs → AreRising file low (fs ++ gs)
both-rise file low [] gs h k = later-from file (suc file) low gs (omega arith) k
both-rise file low (f ∷ fs) gs h k =
    (inr (h.0, h.1), subst (λ n. AreRising n (f.place.token + 1) (fs ++ gs)) (sym h.0) (both-rise file (f.place.token + 1) fs gs h.2 k))

-- the units of which these are the first k are numbered on
abbrev AreNumberedFrom : ℕ → List (Bor TypedUnit) → Type 0
AreNumberedFrom k units = (i : ℕ) (u : Bor TypedUnit) → slice_get units i ≡ Some u → u.now.unit.file ≡ k + i

all-rise : (k : ℕ) (units : List (Bor TypedUnit)) → AreNumberedFrom k units → ∥ AreRising k 0 (definitions (trees_in units)) ∥₁
all-rise k [] h = ∣ tt ∣₁
all-rise k (u ∷ us) h =
    ∥∥₁_elim (unit-rises u.now) squash₁
    (λ fs. ∥∥₁_map (all-rise (suc k) us (λ i w s. let x = h (suc i) w s in omega (arith, x)))
    (λ gs. both-rise k 0 (functions_of (nodes_of u.now.unit.chunks)) (definitions (trees_in us)) (subst (λ n. AreInFile n 0 (functions_of (nodes_of u.now.unit.chunks))) here fs) gs))
  where
    here : u.now.unit.file ≡ k
    here = let x = h 0 u refl in omega (arith, x)

-- a place that is further on is another
both-true : (a b : Bool) → a && b ≡ true → (a ≡ true) × (b ≡ true)
both-true true true h = (refl, refl)
both-true true false h = cc
both-true false b h = cc

not-there : (p q : Place) → IsFrom p.file (p.token + 1) q → same_place p q ≡ false
not-there p q h = by (same_place p q) refl h
  where
    by : (b : Bool) → same_place p q ≡ b → IsFrom p.file (p.token + 1) q → b ≡ false
    by false e h = refl
    by true e (inl k) =
        let x = both-true (nat_eq p.file q.file) (nat_eq p.token q.token) e in
        let y = eqb-true p.file q.file x.0 in
        absurd (omega (arith, y, k))
    by true e (inr k) =
        let x = both-true (nat_eq p.file q.file) (nat_eq p.token q.token) e in
        let y = eqb-true p.token q.token x.1 in
        let z = k.1 in
        absurd (omega (arith, y, z))

from-further : (file low : ℕ) (p q : Place) → IsFrom file low p → IsFrom p.file (p.token + 1) q → IsFrom file low q
from-further file low p q (inl h) (inl k) = inl (omega (arith, h, k))
from-further file low p q (inl h) (inr k) = let e = k.0 in inl (omega (arith, h, e))
from-further file low p q (inr h) (inl k) = let e = h.0 in inl (omega (arith, e, k))
from-further file low p q (inr h) (inr k) =
    let a = h.0 in
    let b = h.1 in
    let c = k.0 in
    let d = k.1 in
    inr (omega (arith, a, c), omega (arith, b, d))

all-from : (file low : ℕ) (fs : List Defined) → AreRising file low fs → All (λ f. IsFrom file low f.place) fs
all-from file low [] h = All-nil (λ f. IsFrom file low f.place)
all-from file low (f ∷ fs) h =
    All-cons (λ f. IsFrom file low f.place) f fs h.0
    (λ k d l. from-further file low f.place _ h.0 (all-from f.place.file (f.place.token + 1) fs h.1 k d l))

rising-apart : (file low : ℕ) (fs : List Defined) → AreRising file low fs → AreApartPlaces fs
rising-apart file low [] h = λ i j d l m. absurd (omega (arith, m))
rising-apart file low (f ∷ fs) h =
    AllPairs-cons (λ d e. same_place d.place e.place ≡ false) f fs
    (λ k d l. not-there f.place _ (all-from f.place.file (f.place.token + 1) fs h.1 k d l))
    (rising-apart f.place.file (f.place.token + 1) fs h.1)

apart-prop : (fs : List Defined) → IsProp (AreApartPlaces fs)
apart-prop fs = Prim.hlevel props

-- no two functions of numbered units stand at one place
pub apart-places : (units : List (Bor TypedUnit)) → AreNumbered units → AreApartPlaces (definitions (trees_in units))
apart-places units h =
    ∥∥₁_elim (all-rise 0 units (λ i u s. let x = h i u s in omega (arith, x))) (apart-prop (definitions (trees_in units)))
    (rising-apart 0 0 (definitions (trees_in units)))
