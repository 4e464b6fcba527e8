-- The bodies of a program's functions stand over tokens of their texts.
use Rattle.std.proofs.Common.{◌≡◌, ℕ, zero, suc, ◌+◌, List, [], ◌∷◌, ◌++◌, map, slice_get, Option, None, Some, refl, subst, ◌∙◌, arith}
use Rattle.std.specs.Prelude.{⊤}
use Rattle.std.specs.Option.{option_map}
use Rattle.c_grammar.specs.CPlaces.Lines.{line_of, declarator_line, row_line}
use Rattle.c_tree.specs.declared.place.Place.{Place}
use Rattle.c_tree.specs.declared.token.Token.{Token}
use Rattle.c_tree.specs.Node.{Node, node, Primary, Operation, Initializer, Specifier, Declarator, Part, Outer, Statement, Iteration, Jump, DeclaratorShape, Named, Nested, Unnamed, Declaration, Function, Empty, Nodes, no_more, more}
use Rattle.type_rules.specs.Declarators.{name_of, name_of_shape}
use Rattle.type_rules.specs.Definition.{after}
use Rattle.type_rules.specs.Functions.{Defined, defined, defined_in, functions_in, functions_of}
use Rattle.type_rules.specs.Options.{if_there}
use Rattle.type_rules.specs.Parts.{flat}
use Rattle.type_rules.specs.Roles.{Plain}
use Rattle.type_rules.specs.Scopes.{Scopes, at_start}
use Rattle.call_graph.specs.OfPrograms.Definitions.{definitions}
use Rattle.typed_unit.specs.Texts.{Text}
use Rattle.event_places.specs.Standing.{StandsIn, StandInFiles}
use Rattle.event_places.proofs.Lines.{Places, places, places-map}
use Rattle.event_places.proofs.Tokens.{HaveTokenAt, of-file}

module _ (P : Place → Type 0) where
  -- the name of a declarator
  mutual
    named-at : (d : Node) (name : Token) → Places P (line_of d) → name_of d ≡ Some name → P name.place
    named-at (node i p (Declarator k)) name h e = named-by k name h.0.1 e
    named-at (node i p (Primary k)) name h e = cc
    named-at (node i p (Operation k)) name h e = cc
    named-at (node i p (Initializer k)) name h e = cc
    named-at (node i p (Specifier k)) name h e = cc
    named-at (node i p (Part k)) name h e = cc
    named-at (node i p (Outer k)) name h e = cc
    named-at (node i p (Statement k)) name h e = cc
    named-at (node i p (Iteration k)) name h e = cc
    named-at (node i p (Jump k)) name h e = cc

    pub named-by : (k : DeclaratorShape) (name : Token) → Places P (declarator_line k) → name_of_shape k ≡ Some name → P name.place
    named-by (Named pointers token suffixes) name h e = let s : token ≡ name = cc in subst (λ (t : Token). P t.place) s h.0.1
    named-by (Nested pointers inner suffixes) name h e = named-at inner name h.0.0.1 e
    named-by (Unnamed pointers suffixes) name h e = cc

  -- a function stands at its name, in the file of that, and its body stands there
  pub record IsPlaced (f : Defined) : Type 0 where
    pub name : P f.place
    pub file : f.file ≡ f.place.file
    pub body : Places P (line_of f.body)

  function-placed : (v : Scopes) (e : Node) (f : Defined) → Places P (line_of e) → defined_in v e ≡ Some f → IsPlaced f
  function-placed v (node i p (Outer (Function specs declarator block))) f h e = by (name_of declarator) refl e
    where
      by : (o : Option Token) → name_of declarator ≡ o → option_map (defined v specs declarator block) o ≡ Some f → IsPlaced f
      by None n e = cc
      by (Some name) n e =
          let s : defined v specs declarator block name ≡ f = cc in
          subst IsPlaced s (record { name = named-at declarator name h.0.1.0.1 n; file = refl; body = h.0.1.1 })
  function-placed v (node i p (Outer (Declaration specs declarators))) f h e = cc
  function-placed v (node i p (Outer Empty)) f h e = cc
  function-placed v (node i p (Primary k)) f h e = cc
  function-placed v (node i p (Operation k)) f h e = cc
  function-placed v (node i p (Initializer k)) f h e = cc
  function-placed v (node i p (Specifier k)) f h e = cc
  function-placed v (node i p (Declarator k)) f h e = cc
  function-placed v (node i p (Part k)) f h e = cc
  function-placed v (node i p (Statement k)) f h e = cc
  function-placed v (node i p (Iteration k)) f h e = cc
  function-placed v (node i p (Jump k)) f h e = cc

-- each of these definitions has the property
abbrev pub Each : (Defined → Type 0) → List Defined → Type 0
Each R [] = ⊤
Each R (f ∷ fs) = R f × Each R fs

pub each-both : (R : Defined → Type 0) (fs gs : List Defined) → Each R fs → Each R gs → Each R (fs ++ gs)
each-both R [] gs h k = k
each-both R (f ∷ fs) gs h k = (h.0, each-both R fs gs h.1 k)

pub each-at : (R : Defined → Type 0) (fs : List Defined) (n : ℕ) (f : Defined) → Each R fs → slice_get fs n ≡ Some f → R f
each-at R [] n f h e = cc
each-at R (g ∷ fs) zero f h e = let s : g ≡ f = cc in subst R s h.0
each-at R (g ∷ fs) (suc n) f h e = each-at R fs n f h.1 e

pub each-map : (R S : Defined → Type 0) → ((f : Defined) → R f → S f) → (fs : List Defined) → Each R fs → Each S fs
each-map R S g [] h = tt
each-map R S g (f ∷ fs) h = (g f h.0, each-map R S g fs h.1)

-- one definition more, where there is one
pub each-more : (R : Defined → Type 0) (o : Option Defined) (fs : List Defined) → ((f : Defined) → o ≡ Some f → R f) → Each R fs → Each R (if_there o fs (λ f. f ∷ fs))
each-more R None fs h k = k
each-more R (Some f) fs h k = (h f refl, k)

functions-placed : (P : Place → Type 0) (v : Scopes) (es : Nodes) → Places P (row_line es) → Each (IsPlaced P) (functions_in v es)
functions-placed P v no_more h = tt
functions-placed P v (more e es) h =
    each-more (IsPlaced P) (defined_in v e) (functions_in (after v Plain (flat e)) es) (λ f n. function-placed P v e f h.0 n) (functions-placed P (after v Plain (flat e)) es h.1)

-- a token of this file stands there
abbrev pub IsThere : ℕ → List Token → Place → Type 0
IsThere file tokens p = (p.file ≡ file) × HaveTokenAt tokens p

-- the function is one of this text, in the file with this number
pub record IsFunctionOf (file : ℕ) (t : Text) (f : Defined) : Type 0 where
  pub file_is : f.file ≡ file
  pub place_is : f.place.file ≡ file
  pub body : Places (HaveTokenAt t.tokens) (line_of f.body)

-- the function is one of these texts, of which the first has this number, and there it has the property
pub record IsIn (R : ℕ → Text → Defined → Type 0) (first : ℕ) (ts : List Text) (f : Defined) : Type 0 where
  pub position : ℕ
  pub text : Text
  pub here : slice_get ts position ≡ Some text
  pub is_of : R (first + position) text f

abbrev trees_in : List Text → List Nodes
trees_in ts = map (λ (t : Text). t.trees) ts

module _ (R : ℕ → Text → Defined → Type 0) where
  all-functions : (first : ℕ) (ts : List Text) → ((i : ℕ) (t : Text) → slice_get ts i ≡ Some t → Each (R (first + i) t) (functions_of t.trees)) → Each (IsIn R first ts) (definitions (trees_in ts))
  all-functions first [] h = tt
  all-functions first (t ∷ ts) h =
      each-both (IsIn R first (t ∷ ts)) (functions_of t.trees) (definitions (trees_in ts))
      (each-map (R (first + 0) t) (IsIn R first (t ∷ ts)) (λ f k. record { position = 0; text = t; here = refl; is_of = k }) (functions_of t.trees) (h 0 t refl))
      (each-map (IsIn R (suc first) ts) (IsIn R first (t ∷ ts)) later (definitions (trees_in ts))
      (all-functions (suc first) ts (λ i u e. let s : first + suc i ≡ suc first + i = omega arith in subst (λ n. Each (R n u) (functions_of u.trees)) s (h (suc i) u e))))
    where
      later : (f : Defined) → IsIn R (suc first) ts f → IsIn R first (t ∷ ts) f
      later f k =
          let s : suc first + k.position ≡ first + suc k.position = omega arith in
          record { position = suc k.position; text = k.text; here = k.here; is_of = subst (λ n. R n k.text f) s k.is_of }

  -- what holds of the functions of each text holds of the function with this number
  pub function-at : (ts : List Text) → ((i : ℕ) (t : Text) → slice_get ts i ≡ Some t → Each (R i t) (functions_of t.trees)) → (n : ℕ) (f : Defined) → slice_get (definitions (trees_in ts)) n ≡ Some f → IsIn R 0 ts f
  function-at ts h n f e =
      each-at (IsIn R 0 ts) (definitions (trees_in ts)) n f
      (all-functions 0 ts (λ i t k. let s : i ≡ 0 + i = omega arith in subst (λ m. Each (R m t) (functions_of t.trees)) s (h i t k))) e

pub text-functions : (file : ℕ) (t : Text) → StandsIn file t → Each (IsFunctionOf file t) (functions_of t.trees)
text-functions file t h =
    each-map (IsPlaced (IsThere file t.tokens)) (IsFunctionOf file t)
    (λ f p. record { file_is = p.file ∙ p.name.0; place_is = p.name.0; body = places-map (IsThere file t.tokens) (HaveTokenAt t.tokens) (λ q k. k.1) (line_of f.body) p.body })
    (functions_of t.trees)
    (functions-placed (IsThere file t.tokens) at_start t.trees
    (places (IsThere file t.tokens) (row_line t.trees) 0 h.standing.0 t.tokens [] h.standing.1 (λ u i. (of-file file t.tokens h.placed.of_file u i, record { token = u; among = i; place = refl }))))

-- the function with this number
pub function-stands : (ts : List Text) → StandInFiles ts → (n : ℕ) (f : Defined) → slice_get (definitions (trees_in ts)) n ≡ Some f → IsIn IsFunctionOf 0 ts f
function-stands ts h n f e = function-at IsFunctionOf ts (λ i t k. text-functions i t (h i t k)) n f e
