-- Each variable of a block that the table of a unit has stands at its declared name: in a cell there is what a declarator declares, or what is in
-- force of that.
use Rattle.std.proofs.Common.{◌≡◌, ℕ, zero, suc, List, [], ◌∷◌, ◌++◌, drop, length, nat_eq, Bool, true, false, cond, Option, None, Some, Result, Ok, Err, refl, sym, ap, subst, ◌∙◌}
use Rattle.std.specs.Prelude.{⊤}
use Rattle.std.specs.Option.{option_map}
use Rattle.c_grammar.specs.CPlaces.Lines.{line_of, row_line}
use Rattle.c_tree.specs.declared.place.Place.{Place}
use Rattle.c_tree.specs.declared.token.Token.{Token}
use Rattle.c_tree.specs.Node.{Node, node, Shape, Primary, Specifier, Declarator, Part, Statement, Iteration, SpecifierShape, DeclaratorShape, Ident, StructTag, StructBody, EnumTag, EnumBody, StructDeclaration, Params, Enumerator, Block, ForDeclaration, Nodes, no_more, more}
use Rattle.call_graph.specs.FunctionGraphs.Variables.{automatic, variable_of}
use Rattle.flow_graph.specs.CPaths.Events.{Variable}
use Rattle.type_rules.specs.Declarators.{name_of_shape, around_shape, static_of, linked, at_file, variable, declared, formal, enumerator}
use Rattle.type_rules.specs.Definition.{after, after_all, behind_parts, Cell, Table, at, number_of}
use Rattle.type_rules.specs.Faults.{Fault}
use Rattle.type_rules.specs.Moves.{declares, declares_member, mention, opened, opened_block, closed, left_params, behind_members, behind_specifier}
use Rattle.type_rules.specs.Options.{or_else, if_there, ◌>?◌}
use Rattle.type_rules.specs.Order.{visited, put, put_kept, fill, fill_all}
use Rattle.type_rules.specs.Parts.{Slot, plain, Visit, visit, Parts, none, part, flat}
use Rattle.type_rules.specs.Roles.{Role, Declares, Defines, Formal, Formals, Body, given}
use Rattle.type_rules.specs.Rows.{keeps, is_object, var_of}
use Rattle.type_rules.specs.Scopes.{Scopes, Entry, Tag, Sort, Enums, latest, at_start, with_name, with_member}
use Rattle.type_rules.specs.Scopes as held
use Rattle.type_rules.specs.Specified.{Storage}
use Rattle.type_rules.specs.Specified as stored
use Rattle.type_rules.specs.Tags.{Mention, WithBody, sort_of, is_enum, has_body, meant, mentioned, a_tag, with_tag, with_struct, body_opened}
use Rattle.type_rules.specs.Types.{CType, is_function}
use Rattle.type_rules.specs.Unit.{visits_of, plainly, table_by}
use Rattle.type_rules.specs.Vars.{CVar}
use Rattle.type_rules.specs.Vars as vars
use Rattle.typed_unit.specs.Tables.{var_in}
use Rattle.typed_unit.specs.Texts.{Text}
use Rattle.event_places.specs.Standing.{StandsIn}
use Rattle.event_places.proofs.Functions.{named-by}
use Rattle.event_places.proofs.EachNode.{Everywhere, InParts, parts-map, of-row}
use Rattle.event_places.proofs.Lines.{Places, places, places-down}
use Rattle.event_places.proofs.Tokens.{HaveTokenAt}

-- the variable of a block that is declared by this name
abbrev pub variable_named : Token → Variable
variable_named name = record { place = name.place; name = name.name }

-- DECLARED NAMES: the variable of a block that the name of a declarator in a visit would declare has the property
abbrev Declaring : (Variable → Type 0) → Shape → Type 0
Declaring P (Declarator k) = (name : Token) → name_of_shape k ≡ Some name → P (variable_named name)
Declaring P _ = ⊤

abbrev pub DeclaringAt : (Variable → Type 0) → Node → Type 0
DeclaringAt P (node i p s) = Declaring P s

abbrev EachDeclaring : (Variable → Type 0) → Visit → Type 0
EachDeclaring P e = Everywhere (DeclaringAt P) e

abbrev AllDeclaring : (Variable → Type 0) → Parts → Type 0
AllDeclaring P es = InParts (DeclaringAt P) es

-- a node in this role is no whole declarator of a declaration, nor of the definition of a function
abbrev pub IsBare : Role → Type 0
IsBare (Declares s t) = ⊥
IsBare (Defines s t) = ⊥
IsBare _ = ⊤

-- where the places of lines have it
module _ (S : Place → Type 0) where
  abbrev AtPlace : Variable → Type 0
  AtPlace x = S x.place

  declaring-at : (n : Node) → Places S (line_of n) → DeclaringAt AtPlace n
  declaring-at (node i p (Declarator k)) h = λ name e. named-by S k name h.0.1 e
  declaring-at (node i p s) h = tt

  of-unit : (unit : Nodes) → Places S (row_line unit) → AllDeclaring AtPlace (visits_of unit)
  of-unit unit h = parts-map (λ n. Places S (line_of n)) (DeclaringAt AtPlace) declaring-at (visits_of unit) (of-row (Places S) (places-down S) plain unit none h tt)

module _ (P : Variable → Type 0) where
  -- WHAT IS IN FORCE: each variable of a block that a name stands for has the property
  abbrev pub Placed : Option CVar → Type 0
  Placed o = (x : Variable) → (o >? automatic) ≡ Some x → P x

  placed-none : Placed None
  placed-none x e = cc

  abbrev OfEntry : Option Entry → Type 0
  OfEntry None = ⊤
  OfEntry (Some k) = Placed k.var

  abbrev pub OfEntries : List Entry → Type 0
  OfEntries [] = ⊤
  OfEntries (k ∷ ks) = Placed k.var × OfEntries ks

  abbrev pub OfScopes : Scopes → Type 0
  OfScopes v = OfEntries v.names × OfEntries v.formal_names

  entries-joined : (ks ls : List Entry) → OfEntries ks → OfEntries ls → OfEntries (ks ++ ls)
  entries-joined [] ls h g = g
  entries-joined (k ∷ ks) ls h g = (h.0, entries-joined ks ls h.1 g)

  entries-left : (n : ℕ) (ks : List Entry) → OfEntries ks → OfEntries (drop n ks)
  entries-left zero ks h = h
  entries-left (suc n) [] h = h
  entries-left (suc n) (k ∷ ks) h = entries-left n ks h.1

  either-entry : (a b : Option Entry) → OfEntry a → OfEntry b → OfEntry (or_else a b)
  either-entry None b h g = g
  either-entry (Some k) b h g = h

  entry-if : (b : Bool) (k : Entry) → Placed k.var → OfEntry (cond b (Some k) None)
  entry-if true k h = h
  entry-if false k h = tt

  latest-entry : (n : ℕ) (ks : List Entry) → OfEntries ks → OfEntry (latest n ks)
  latest-entry n [] h = tt
  latest-entry n (k ∷ ks) h = either-entry (latest n ks) (cond (nat_eq k.name n) (Some k) None) (latest-entry n ks h.1) (entry-if (nat_eq k.name n) k h.0)

  placed-if : (b : Bool) (o : Option CVar) → Placed o → Placed (cond b o None)
  placed-if true o h = h
  placed-if false o h = placed-none

  of-object : (o : Option Entry) → OfEntry o → Placed (o >? λ k. cond (is_object k) k.var None)
  of-object None h = placed-none
  of-object (Some k) h = placed-if (is_object k) k.var h

  -- a variable that is external, of a file or a parameter is of no block
  extern-placed : (name : ℕ) → Placed (Some (vars.Extern name))
  extern-placed name x e = cc

  param-placed : (file token name : ℕ) → Placed (Some (vars.Param file token name))
  param-placed file token name x e = cc

  static-placed : (o : Option CVar) (name : ℕ) → Placed (Some (if_there (o >? static_of) (vars.Extern name) (λ s. s)))
  static-placed None name x e = cc
  static-placed (Some (vars.Extern n)) name x e = cc
  static-placed (Some (vars.FileStatic f n)) name x e = cc
  static-placed (Some (vars.LocalStatic f t n)) name x e = cc
  static-placed (Some (vars.Param f t n)) name x e = cc
  static-placed (Some (vars.Local f t n)) name x e = cc
  static-placed (Some vars.Result) name x e = cc
  static-placed (Some (vars.Called f t n)) name x e = cc

  linked-placed : (o : Option Entry) (name : ℕ) → Placed (Some (if_there (o >? λ k. k.var >? static_of) (vars.Extern name) (λ s. s)))
  linked-placed None name = extern-placed name
  linked-placed (Some k) name = static-placed k.var name

  static-storage : (b : Bool) (name : Token) → Placed (Some (cond b (vars.FileStatic name.place.file name.name) (vars.LocalStatic name.place.file name.place.token name.name)))
  static-storage true name x e = cc
  static-storage false name x e = cc

  -- one of a block is that of its name
  local-placed : (name : Token) → P (variable_named name) → Placed (Some (vars.Local name.place.file name.place.token name.name))
  local-placed name h x e =
      let s : ◌≡◌ {A = Variable} (record { place = record { file = name.place.file; token = name.place.token }; name = name.name }) x = cc in
      subst P s h

  unmarked : (b c : Bool) (v : Scopes) (name : Token) → P (variable_named name) → Placed (Some (cond b (vars.Extern name.name) (cond c (linked v name.name) (vars.Local name.place.file name.place.token name.name))))
  unmarked true c v name h = extern-placed name.name
  unmarked false true v name h = linked-placed (latest name.name v.names) name.name
  unmarked false false v name h = local-placed name h

  variable-placed : (v : Scopes) (s : Storage) (t : CType) (name : Token) → P (variable_named name) → Placed (variable v s t name)
  variable-placed v stored.Typedef t name h = placed-none
  variable-placed v stored.Extern t name h = linked-placed (latest name.name v.names) name.name
  variable-placed v stored.Static t name h = static-storage (at_file v) name
  variable-placed v stored.Unmarked t name h = unmarked (at_file v) (is_function t) v name h

  -- at file scope none is of a block
  unmarked-file : (b c : Bool) (v : Scopes) (name : Token) → b ≡ true → Placed (Some (cond b (vars.Extern name.name) (cond c (linked v name.name) (vars.Local name.place.file name.place.token name.name))))
  unmarked-file true c v name e = extern-placed name.name
  unmarked-file false c v name e = cc

  file-placed : (v : Scopes) (s : Storage) (t : CType) (name : Token) → at_file v ≡ true → Placed (variable v s t name)
  file-placed v stored.Typedef t name e = placed-none
  file-placed v stored.Extern t name e = linked-placed (latest name.name v.names) name.name
  file-placed v stored.Static t name e = static-storage (at_file v) name
  file-placed v stored.Unmarked t name e = unmarked-file (at_file v) (is_function t) v name e

  -- what a declarator declares
  entry-map : (f : Token → Entry) (o : Option Token) → ((name : Token) → o ≡ Some name → Placed (f name).var) → OfEntry (option_map f o)
  entry-map f None g = tt
  entry-map f (Some name) g = g name refl

  formal-entry : (w : Scopes) (t : CType) (d : DeclaratorShape) → OfEntry (declares w (Formal t) d)
  formal-entry w t d = entry-map (λ name. formal w (around_shape d t) name) (name_of_shape d) (λ name e. param-placed name.place.file name.place.token name.name)

  declares-entry : (w : Scopes) (r : Role) (d : DeclaratorShape) → Declaring P (Declarator d) → OfEntry (declares w r d)
  declares-entry w (Declares s t) d h = entry-map (λ name. declared w s (around_shape d t) name) (name_of_shape d) (λ name e. variable-placed w s (around_shape d t) name (h name e))
  declares-entry w (Defines s t) d h = entry-map (λ name. declared w s (around_shape d t) name) (name_of_shape d) (λ name e. variable-placed w s (around_shape d t) name (h name e))
  declares-entry w (Formal t) d h = formal-entry w t d
  declares-entry w _ d h = tt

  -- one at file scope, or one that is none of a declaration, declares none of a block
  pub file-entry : (w : Scopes) (r : Role) (d : DeclaratorShape) → at_file w ≡ true → OfEntry (declares w r d)
  file-entry w (Declares s t) d h = entry-map (λ name. declared w s (around_shape d t) name) (name_of_shape d) (λ name e. file-placed w s (around_shape d t) name h)
  file-entry w (Defines s t) d h = entry-map (λ name. declared w s (around_shape d t) name) (name_of_shape d) (λ name e. file-placed w s (around_shape d t) name h)
  file-entry w (Formal t) d h = formal-entry w t d
  file-entry w _ d h = tt

  pub bare-entry : (w : Scopes) (r : Role) (d : DeclaratorShape) → IsBare r → OfEntry (declares w r d)
  bare-entry w (Declares s t) d h = absurd h
  bare-entry w (Defines s t) d h = absurd h
  bare-entry w (Formal t) d h = formal-entry w t d
  bare-entry w _ d h = tt

-- WHAT A VISIT DECLARES: the name of each declarator in it, in its role and under the scopes behind its parts, has the property
abbrev pub Enters : (Variable → Type 0) → Scopes → Role → Shape → Type 0
Enters P w r (Declarator k) = OfEntry P (declares w r k)
Enters P w r _ = ⊤

abbrev mutual
  pub Entering : (Variable → Type 0) → Scopes → Role → Visit → Type 0
  Entering P v r (visit i p s es) = Enters P (behind_parts v r s es) r s × EnteringAll P (given v r) (opened v r s) es

  pub EnteringAll : (Variable → Type 0) → (Slot → Role) → Scopes → Parts → Type 0
  EnteringAll P roles v none = ⊤
  EnteringAll P roles v (part slot e es) = Entering P v (roles slot) e × EnteringAll P roles (after v (roles slot) e) es

module _ (P : Variable → Type 0) where
  -- where the names of all declarators have it
  enters : (w : Scopes) (r : Role) (s : Shape) → Declaring P s → Enters P w r s
  enters w r (Declarator k) d = declares-entry P w r k d
  enters w r s d = tt

  mutual
    pub declares-each : (v : Scopes) (r : Role) (e : Visit) → EachDeclaring P e → Entering P v r e
    declares-each v r (visit i p s es) d = (enters (behind_parts v r s es) r s d.0, declares-all (given v r) (opened v r s) es d.1)

    declares-all : (roles : Slot → Role) (v : Scopes) (es : Parts) → AllDeclaring P es → EnteringAll P roles v es
    declares-all roles v none d = tt
    declares-all roles v (part slot e es) d = (declares-each v (roles slot) e d.0, declares-all roles (after v (roles slot) e) es d.1)

  -- scopes open and close
  struct-scopes : (b : Bool) (v : Scopes) (tag : Option ℕ) → OfScopes P v → OfScopes P (cond b v (record v { structs = v.structs ++ (tag ∷ []) }))
  struct-scopes true v tag h = h
  struct-scopes false v tag h = h

  body-scopes : (b : Bool) (v : Scopes) (g : Tag) → OfScopes P v → OfScopes P (cond b (with_tag v g) v)
  body-scopes true v g h = h
  body-scopes false v g h = h

  mention-scopes : (o : Option Tag) (b : Bool) (v new : Scopes) (f : Tag → Tag) → OfScopes P v → OfScopes P new → OfScopes P (if_there o new (λ g. cond b (with_tag v (f g)) v))
  mention-scopes None b v new f h k = k
  mention-scopes (Some g) b v new f h k = body-scopes b v (f g) h

  mentioned-scopes : (v : Scopes) (how : Mention) (s : Sort) (name : ℕ) → OfScopes P v → OfScopes P (mentioned v how s name)
  mentioned-scopes v how s name h =
      let g = a_tag v how s name (length v.structs) in
      mention-scopes (meant v how s name) (has_body how) v (with_struct (with_tag v g) s (Some name)) (λ g. a_tag v how s name g.number) h (struct-scopes (is_enum s) (with_tag v g) (Some name) h)

  body-opened : (v : Scopes) (s : Sort) (tag : Option Token) → OfScopes P v → OfScopes P (body_opened v s tag)
  body-opened v s None h = struct-scopes (is_enum s) v None h
  body-opened v s (Some tag) h = mentioned-scopes v WithBody s tag.name h

  opened-block : (v : Scopes) (r : Role) → OfScopes P v → OfScopes P (opened_block v r)
  opened-block v Body h = (entries-joined P v.names v.formal_names h.0 h.1, tt)
  opened-block v _ h = h

  pub opened-scopes : (v : Scopes) (r : Role) (s : Shape) → OfScopes P v → OfScopes P (opened v r s)
  opened-scopes v r (Specifier (StructBody which tag members)) h = body-opened v (sort_of which) tag h
  opened-scopes v r (Specifier (EnumBody tag enumerators comma)) h = body-opened v Enums tag h
  opened-scopes v r (Part (Params params variadic)) h = h
  opened-scopes v r (Statement (Block items)) h = opened-block v r h
  opened-scopes v r (Iteration (ForDeclaration declaration condition step inner)) h = h
  opened-scopes v r _ h = h

  left-scopes : (r : Role) (v w : Scopes) → OfScopes P v → OfScopes P w → OfScopes P (left_params r v w)
  left-scopes Formals v w h k = (h.0, entries-left P (length v.names) w.names k.0)
  left-scopes _ v w h k = (h.0, k.1)

  named-scopes : (w : Scopes) (o : Option Entry) (m : Option held.Member) → OfEntry P o → OfScopes P w → OfScopes P (if_there o (if_there m w (with_member w)) (with_name w))
  named-scopes w (Some k) m g h = (entries-joined P w.names (k ∷ []) h.0 (g, tt), h.1)
  named-scopes w None (Some m) g h = h
  named-scopes w None None g h = h

  members-scopes : (v : Scopes) (r : Role) (specs : Node) (es : Nodes) (w : Scopes) → OfScopes P w → OfScopes P (behind_members v r specs es w)
  members-scopes v r specs no_more w h = h
  members-scopes v r specs (more e es) w h = h

  specifier-scopes : (v : Scopes) (r : Role) (k : SpecifierShape) (w : Scopes) → OfScopes P w → OfScopes P (behind_specifier v r k w)
  specifier-scopes v r (StructTag which tag) w h = mentioned-scopes w (mention r) (sort_of which) tag.name h
  specifier-scopes v r (EnumTag tag) w h = mentioned-scopes w (mention r) Enums tag.name h
  specifier-scopes v r (StructBody which tag members) w h = h
  specifier-scopes v r (StructDeclaration specs declarators) w h = members-scopes v r specs declarators w h
  specifier-scopes v r _ w h = h

  closed-scopes : (v : Scopes) (r : Role) (s : Shape) (w : Scopes) → Enters P w r s → OfScopes P v → OfScopes P w → OfScopes P (closed v r s w)
  closed-scopes v r (Specifier k) w d h g = specifier-scopes v r k w g
  closed-scopes v r (Declarator k) w d h g = named-scopes w (declares w r k) (declares_member r k) d g
  closed-scopes v r (Part (Params params variadic)) w d h g = left-scopes r v w h g
  closed-scopes v r (Part (Enumerator name value)) w d h g = (entries-joined P w.names (enumerator w name ∷ []) g.0 (placed-none P, tt), g.1)
  closed-scopes v r (Statement (Block items)) w d h g = (h.0, g.1)
  closed-scopes v r (Iteration (ForDeclaration declaration condition step inner)) w d h g = (h.0, g.1)
  closed-scopes v r _ w d h g = g

  mutual
    pub after-scopes : (v : Scopes) (r : Role) (e : Visit) → Entering P v r e → OfScopes P v → OfScopes P (after v r e)
    after-scopes v r (visit i p s es) d h = closed-scopes v r s (behind_parts v r s es) d.0 h (after_all-scopes (given v r) (opened v r s) es d.1 (opened-scopes v r s h))

    after_all-scopes : (roles : Slot → Role) (v : Scopes) (es : Parts) → EnteringAll P roles v es → OfScopes P v → OfScopes P (after_all roles v es)
    after_all-scopes roles v none d h = h
    after_all-scopes roles v (part slot e es) d h = after_all-scopes roles (after v (roles slot) e) es d.1 (after-scopes v (roles slot) e d.0 h)

  -- THE TABLE: the variable in each cell has the property
  abbrev OfCells : Table → Type 0
  OfCells [] = ⊤
  OfCells (c ∷ cs) = Placed P (var_in c) × OfCells cs

  cell-at : (i : ℕ) (cs : Table) → OfCells cs → Placed P (var_in (at i cs))
  cell-at i [] h = placed-none P
  cell-at zero (c ∷ cs) h = h.0
  cell-at (suc i) (c ∷ cs) h = cell-at i cs h.1

  put-cell : (i : ℕ) (x : Cell) (cs : Table) → Placed P x.var → OfCells cs → OfCells (put i x cs)
  put-cell zero x [] g h = (g, tt)
  put-cell zero x (c ∷ cs) g h = (g, h.1)
  put-cell (suc i) x [] g h = (placed-none P, put-cell i x [] g tt)
  put-cell (suc i) x (c ∷ cs) g h = (h.0, put-cell i x cs g h.1)

  kept-cell : (b : Bool) (i : ℕ) (o : Option CVar) (r : Result CType Fault) (cs : Table) → Placed P o → OfCells cs → OfCells (put_kept b i o r cs)
  kept-cell true i o (Ok t) cs g h = put-cell i (record { ty = t; var = o }) cs g h
  kept-cell true i o (Err e) cs g h = h
  kept-cell false i o r cs g h = h

  pub var-placed : (v w : Scopes) (r : Role) (s : Shape) → Enters P w r s → OfScopes P v → Placed P (var_of v w r s)
  var-placed v w r (Primary (Ident name)) d h = of-object P (latest name.name v.names) (latest-entry P name.name v.names h.0)
  var-placed v w r (Declarator k) d h = of-object P (declares w r k) d
  var-placed v w r _ d h = placed-none P

  mutual
    filled-cells : (v : Scopes) (r : Role) (e : Visit) (cs : Table) → Entering P v r e → OfScopes P v → OfCells cs → OfCells (fill v r e cs)
    filled-cells v r (visit i p s es) cs d h c =
        kept-cell (keeps (behind_parts v r s es) r s) i (var_of v (behind_parts v r s es) r s) (visited v r (visit i p s es)) (fill_all (given v r) (opened v r s) es cs)
        (var-placed v (behind_parts v r s es) r s d.0 h) (filled_all-cells (given v r) (opened v r s) es cs d.1 (opened-scopes v r s h) c)

    filled_all-cells : (roles : Slot → Role) (v : Scopes) (es : Parts) (cs : Table) → EnteringAll P roles v es → OfScopes P v → OfCells cs → OfCells (fill_all roles v es cs)
    filled_all-cells roles v none cs d h c = c
    filled_all-cells roles v (part slot e es) cs d h c =
        filled_all-cells roles (after v (roles slot) e) es (fill v (roles slot) e cs) d.1 (after-scopes v (roles slot) e d.0 h) (filled-cells v (roles slot) e cs d.0 h c)

  -- a variable of a unit
  cells-filled : (unit : Nodes) → AllDeclaring P (visits_of unit) → (d : Node) → Placed P (var_in (at (number_of (flat d)) (table_by unit)))
  cells-filled unit h d = cell-at (number_of (flat d)) (table_by unit) (filled_all-cells plainly at_start (visits_of unit) [] (declares-all plainly at_start (visits_of unit) h) (tt, tt) tt)

-- A VARIABLE OF A UNIT stands where the places of its line have the property
pub variables-placed : (S : Place → Type 0) (unit : Nodes) → Places S (row_line unit) → (d : Node) (x : Variable) → variable_of (table_by unit) d ≡ Some x → S x.place
variables-placed S unit h d x e = cells-filled (AtPlace S) unit (of-unit S unit h) d x e

-- so it stands at a token of its text, where the table is that of the trees
pub text-variables : (file : ℕ) (t : Text) → StandsIn file t → t.table ≡ table_by t.trees → (d : Node) (x : Variable) → variable_of t.table d ≡ Some x → HaveTokenAt t.tokens x.place
text-variables file t h same_table d x e =
    variables-placed (HaveTokenAt t.tokens) t.trees
    (places (HaveTokenAt t.tokens) (row_line t.trees) 0 h.standing.0 t.tokens [] h.standing.1 (λ u i. record { token = u; among = i; place = refl })) d x
    (ap (λ (cells : Table). variable_of cells d) (sym same_table) ∙ e)
