-- In the texts of files each variable of a block for which an identifier in the body of a function stands is declared in that body.
use Rattle.std.proofs.Common.{◌≡◌, ℕ, List, [], ◌∷◌, true, Option, None, Some, Result, Ok, Err, inl, inr, refl, sym, ap, subst, ◌∙◌, arith}
use Rattle.std.specs.Option.{option_map}
use Rattle.c_grammar.specs.CPlaces.Stands.{number_of}
use Rattle.c_grammar.specs.Names.{Names}
use Rattle.c_grammar.specs.UnitGrammar.Grammar.{IsChunk}
use Rattle.c_grammar.specs.UnitGrammar.Names as known
use Rattle.c_tree.specs.declared.place.Place.{Place}
use Rattle.c_tree.specs.declared.token.Token.{Token}
use Rattle.c_tree.specs.Forget.{syntax_of, syntaxes_of}
use Rattle.c_tree.specs.Node.{Node, node, Shape, Primary, Declarator, Outer, Ident, Function, Nodes, no_more, more}
use Rattle.call_graph.specs.FunctionGraphs.Variables.{automatic}
use Rattle.c_objects.specs.Facts.{Facts, var_in}
use Rattle.flow_graph.specs.CPaths.Events.{Variable}
use Rattle.hole_matching.specs.Callouts.{is_local}
use Rattle.path_model.specs.CheckerModel.Happenings as happenings
use Rattle.path_model.specs.CheckerModel.Moves.{local_of}
use Rattle.path_model.specs.CheckerPrograms.Texts as texts
use Rattle.path_model.specs.CheckerPrograms.Texts.{definition_of, empty, objects_in, with_close, type_table}
use Rattle.type_rules.specs.Declarators.{name_of}
use Rattle.type_rules.specs.Definition.{after, behind_parts, Cell, Table, at, type_of, var_at, first_fault}
use Rattle.type_rules.specs.Faults.{Fault}
use Rattle.type_rules.specs.Functions.{Defined, defined, defined_in, functions_in, functions_of}
use Rattle.type_rules.specs.Moves.{opened}
use Rattle.type_rules.specs.Options.{err, if_there, ◌>?◌}
use Rattle.type_rules.specs.Order.{visited_all}
use Rattle.type_rules.specs.Parts.{Slot, plain, Visit, visit, Parts, none, part, flat, outer_parts, each}
use Rattle.type_rules.specs.Roles.{Role, Plain, Body, given}
use Rattle.type_rules.specs.Scopes.{Scopes, Entry, at_start}
use Rattle.type_rules.specs.Types.{CType}
use Rattle.type_rules.specs.Unit.{IsTyping, places_of, plainly, table_by, visits_of}
use Rattle.type_rules.specs.Vars.{CVar, Extern, FileStatic, LocalStatic, Param, Local, Result as ResultVar, Called}
use Rattle.type_rules.proofs.First.{first-fault}
use Rattle.type_rules.proofs.Numbers.{numbered-apart}
use Rattle.type_rules.proofs.Units.{right-at, typed}
use Rattle.typed_unit.specs.Places.{is_identifier}
use Rattle.typed_unit.specs.Texts.{Text}
use Rattle.typed_unit.specs.UnitPlaces.Standing.{IsVisited, AreVisited}
use Rattle.typed_unit.proofs.UnitPlaces.Visited.{parts-visited, trees-visited}
use Rattle.event_places.specs.Bodies.{AreChunksOf, AreOfGrammar}
use Rattle.event_places.specs.Naming.{IsNodeOf, IsNodeOfSome, IsDeclared, IsNamedIn, IsDeclaredIn}
use Rattle.event_places.specs.Standing.{StandsIn, StandInFiles, HaveTheirTables, AreTyped}
use Rattle.event_places.proofs.Closing.{each-two}
use Rattle.event_places.proofs.EachNode.{everywhere}
use Rattle.event_places.proofs.Functions.{Each, each-more, each-map, IsFunctionOf, text-functions, function-at}
use Rattle.event_places.proofs.Scoping.{Nowhere, IsFileScope, chunk-scope, front-scope, in_front}
use Rattle.event_places.proofs.Variables.{variable_named, DeclaringAt, Entering, EnteringAll, OfEntries, OfScopes, Placed, after-scopes, declares-each, opened-scopes, var-placed}
use Rattle.event_places.proofs.Walks.{IsDefined}

-- a property of what is in force that follows
module _ (P S : Variable → Type 0) (g : (x : Variable) → P x → S x) where
  entries-map : (ks : List Entry) → OfEntries P ks → OfEntries S ks
  entries-map [] h = tt
  entries-map (k ∷ ks) h = (λ x e. g x (h.0 x e), entries-map ks h.1)

  scopes-map : (v : Scopes) → OfScopes P v → OfScopes S v
  scopes-map v h = (entries-map v.names h.0, entries-map v.formal_names h.1)

-- DOWN A TREE of a unit: each node is visited under scopes in which variables have the property, if those that the tree declares do
module _ (unit : Nodes) (P : Variable → Type 0) where
  -- where a node is visited, with some parts
  record IsVisitedThere (i : ℕ) (p : Place) (s : Shape) : Type 0 where
    scopes : Scopes
    role : Role
    parts : Parts
    visited : IsVisited unit scopes role (visit i p s parts)
    entries : OfScopes P scopes

  abbrev VisitedThere : Node → Type 0
  VisitedThere (node i p s) = IsVisitedThere i p s

  mutual
    down : (v : Scopes) (r : Role) (e : Visit) → IsVisited unit v r e → Entering P v r e → OfScopes P v → (n : Node) → IsNodeOf n e → VisitedThere n
    down v r (visit i p s es) w d h n (inl same) = subst VisitedThere (sym same) (record { scopes = v; role = r; parts = es; visited = w; entries = h })
    down v r (visit i p s es) w d h n (inr k) = all-down (given v r) (opened v r s) es (parts-visited unit v r i p s es w) d.1 (opened-scopes P v r s h) n k

    all-down : (roles : Slot → Role) (v : Scopes) (es : Parts) → AreVisited unit roles v es → EnteringAll P roles v es → OfScopes P v → (n : Node) → IsNodeOfSome n es → VisitedThere n
    all-down roles v none w d h n k = absurd k
    all-down roles v (part slot e es) w d h n (inl k) = down v (roles slot) e w.0 d.0 h n k
    all-down roles v (part slot e es) w d h n (inr k) = all-down roles (after v (roles slot) e) es w.1 d.1 (after-scopes P v (roles slot) e d.0 h) n k

-- the variable in a cell that has this type, if there is one
cell-var : (o : Option CType) (cell : Option Cell) (var : Option CVar) (x : CVar) → cell ≡ option_map (λ t. record { ty = t; var = var }) o → (cell >? λ c. c.var) ≡ Some x → var ≡ Some x
cell-var None cell var x h e = absurd (by cell h e)
  where
    by : (c : Option Cell) → c ≡ None → (c >? λ d. d.var) ≡ Some x → ⊥
    by None k m = cc
    by (Some d) k m = cc
cell-var (Some t) cell var x h e = sym (ap (λ (c : Option Cell). c >? λ d. d.var) h) ∙ e

cell-of : (n : Node) (u : Facts) (table : Table) (x : CVar) → u.table ≡ table → var_in u n ≡ Some x → (at (number_of n) table >? λ c. c.var) ≡ Some x
cell-of (node i p s) u table x e h = subst (λ (t : Table). (at i t >? λ c. c.var) ≡ Some x) e h

-- a variable of a block is that of a declared name
local-is : (x : CVar) → is_local x ≡ true → (y : Variable) × (automatic x ≡ Some y) × (x ≡ local_of y)
local-is (Local f t n) h = (record { place = record { file = f; token = t }; name = n }, refl, refl)
local-is (Extern n) h = cc
local-is (FileStatic f n) h = cc
local-is (LocalStatic f t n) h = cc
local-is (Param f t n) h = cc
local-is ResultVar h = cc
local-is (Called f t n) h = cc

-- THE BODY OF A FUNCTION
module _ (unit : Nodes) (table : Table) (typing : IsTyping unit table) (block : Node) where
  -- the variable is that of a name that the body declares
  record IsOfBody (x : Variable) : Type 0 where
    declarator : Node
    inside : IsNodeOf declarator (flat block)
    name : Token
    named : name_of declarator ≡ Some name
    same : variable_named name ≡ x

  body-declaring : (n : Node) → IsNodeOf n (flat block) → DeclaringAt IsOfBody n
  body-declaring (node i p (Declarator k)) h = λ name e. record { declarator = node i p (Declarator k); inside = h; name = name; named = e; same = refl }
  body-declaring (node i p s) h = tt

  -- the names for which identifiers of the body stand
  abbrev DeclaresNamed : Type 0
  DeclaresNamed = (name : Node) (x : CVar) → is_identifier name ≡ true → IsNodeOf name (flat block) → (at (number_of name) table >? λ c. c.var) ≡ Some x → is_local x ≡ true → IsDeclared block x

  found-declared : (x : CVar) → is_local x ≡ true → Placed IsOfBody (Some x) → IsDeclared block x
  found-declared x l h =
      let y = local-is x l in
      let d = h y.0 y.1 in
      record { declarator = d.declarator; inside = d.inside; name = d.name; named = d.named; variable = y.2 ∙ ap local_of (sym d.same) }

  -- at an identifier
  at-identifier : (i : ℕ) (p : Place) (token : Token) (x : CVar) → IsVisitedThere unit IsOfBody i p (Primary (Ident token)) → (at i table >? λ c. c.var) ≡ Some x → is_local x ≡ true → IsDeclared block x
  at-identifier i p token x w e l =
      let here = visit i p (Primary (Ident token)) w.parts in
      let var = cell-var (type_of w.scopes w.role here) (at i table) (var_at w.scopes w.role here) x (right-at unit table w.scopes w.role here typing w.visited refl) e in
      found-declared x l (subst (Placed IsOfBody) var (var-placed IsOfBody w.scopes (behind_parts w.scopes w.role (Primary (Ident token)) w.parts) w.role (Primary (Ident token)) tt w.entries))

  body-declares : (v : Scopes) → IsVisited unit v Body (flat block) → OfScopes Nowhere v → DeclaresNamed
  body-declares v w h name x i k e l = by name i (down unit IsOfBody v Body (flat block) w (declares-each IsOfBody v Body (flat block) (everywhere (DeclaringAt IsOfBody) (flat block) body-declaring)) (scopes-map Nowhere IsOfBody (λ y n. absurd n) v h) name k) e
    where
      by : (n : Node) → is_identifier n ≡ true → VisitedThere unit IsOfBody n → (at (number_of n) table >? λ c. c.var) ≡ Some x → IsDeclared block x
      by (node j p (Primary (Ident token))) t there q = at-identifier j p token x there q l
      by (node j p (Primary k)) t there q = cc
      by n t there q = cc

-- THE FUNCTIONS OF A UNIT of the grammar
module _ (unit : Nodes) (table : Table) (typing : IsTyping unit table) where
  abbrev Declares : Defined → Type 0
  Declares f = DeclaresNamed unit table typing f.body

  function-declares : (names : Names) (v : Scopes) (e : Node) (f : Defined) → IsChunk names (syntax_of e) → IsFileScope v → IsVisited unit v Plain (flat e) → defined_in v e ≡ Some f → Declares f
  function-declares names v (node i p (Outer (Function specs declarator block))) f h s w e = by (name_of declarator) e
    where
      there : DeclaresNamed unit table typing block
      there =
          let parts = parts-visited unit v Plain i p (Outer (Function specs declarator block)) (outer_parts (Function specs declarator block)) w in
          let front = front-scope names v specs declarator block s h in
          body-declares unit table typing block (in_front v specs declarator) parts.1.1.0 front.entries

      by : (o : Option Token) → option_map (defined v specs declarator block) o ≡ Some f → Declares f
      by None e = cc
      by (Some name) e = let same : defined v specs declarator block name ≡ f = cc in subst Declares same there
  function-declares names v n f h s w e = cc

  functions-declare : (names : Names) (v : Scopes) (es : Nodes) → AreChunksOf names (syntaxes_of es) → IsFileScope v → AreVisited unit plainly v (each plain es none) → Each Declares (functions_in v es)
  functions-declare names v no_more h s w = tt
  functions-declare names v (more e es) h s w =
      each-more Declares (defined_in v e) (functions_in (after v Plain (flat e)) es) (λ f n. function-declares names v e f h.0 s w.0 n)
      (functions-declare (known.declared (syntax_of e) names) (after v Plain (flat e)) es h.1 (chunk-scope names v e h.0 s) w.1)

-- a text without a fault is typed by its table
text-typed : (file : ℕ) (t : Text) → StandsIn file t → first_fault (places_of t.trees) ≡ None → IsTyping t.trees (table_by t.trees)
text-typed file t h fine = by (visited_all plainly at_start (visits_of t.trees)) refl (sym (first-fault plainly at_start (visits_of t.trees)) ∙ fine)
  where
    by : (r : Result (List CType) Fault) → visited_all plainly at_start (visits_of t.trees) ≡ r → err (visited_all plainly at_start (visits_of t.trees)) ≡ None → IsTyping t.trees (table_by t.trees)
    by (Ok types) e n = typed t.trees types (numbered-apart t.trees 0 h.standing.0 t.tokens [] h.standing.1) e
    by (Err fault) e n = let k : err {A = List CType} (Err fault) ≡ None = ap err (sym e) ∙ n in cc

-- THE FUNCTIONS OF TEXTS
record DeclaresAll (t : Text) (f : Defined) : Type 0 where
  typing : IsTyping t.trees (table_by t.trees)
  declares : Declares t.trees (table_by t.trees) typing f

text-declares : (file : ℕ) (t : Text) → StandsIn file t → AreChunksOf [] (syntaxes_of t.trees) → first_fault (places_of t.trees) ≡ None → Each (DeclaresAll t) (functions_of t.trees)
text-declares file t h g fine =
    let typing = text-typed file t h fine in
    each-map (Declares t.trees (table_by t.trees) typing) (DeclaresAll t) (λ f d. record { typing = typing; declares = d }) (functions_of t.trees)
    (functions-declare t.trees (table_by t.trees) typing [] at_start t.trees g (record { entries = (tt, tt); file = refl }) (trees-visited t.trees))

abbrev DeclaresIn : ℕ → Text → Defined → Type 0
DeclaresIn file t f = IsFunctionOf file t f × DeclaresAll t f

-- WHAT A FUNCTION OF FILES NAMES, if it is a variable of a block, its body declares
pub named-declared : (ts : List Text) → StandInFiles ts → AreOfGrammar ts → HaveTheirTables ts → AreTyped ts → (f : happenings.Function) → IsDefined (texts.functions_in ts) f → (x : CVar) → is_local x ≡ true → IsNamedIn ts f x → IsDeclaredIn ts f x
named-declared ts stand grammar tables fine f w x l n =
    let k = function-at DeclaresIn ts (λ i t e. each-two (IsFunctionOf i t) (DeclaresAll t) (functions_of t.trees) (text-functions i t (stand i t e)) (text-declares i t (stand i t e) (grammar i t e) (fine i t e))) w.number w.defined w.numbered in
    let is = k.is_of in
    let own : f.place.file ≡ k.position = let a = is.0.place_is in let b : w.defined.place.file ≡ f.place.file = ap (λ (g : happenings.Function). g.place.file) w.same in omega (arith, a, b) in
    let table : type_table ts f.place.file ≡ table_by k.text.trees =
    ap (type_table ts) own ∙ ap (λ (o : Option Text). if_there o [] (λ t. t.table)) k.here ∙ tables k.position k.text k.here in
    let same : (definition_of ts f).body ≡ w.defined.body = ap (λ (o : Option Defined). (if_there o (empty f.place) (with_close ts)).body) w.first in
    subst (λ (b : Node). IsDeclared b x) (sym same)
    (is.1.declares n.name x n.identifier (subst (λ (b : Node). IsNodeOf n.name (flat b)) same n.inside)
    (cell-of n.name (objects_in ts f.place.file) (table_by k.text.trees) x table n.variable) l)
