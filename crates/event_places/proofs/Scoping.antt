-- What is in force: at file scope no variable of a block, so in the body of a function only such as the body declares.
use Rattle.std.proofs.Common.{◌≡◌, ℕ, nat_eq, [], ◌∷◌, ◌++◌, length, Bool, true, false, cond, Option, None, Some, refl, sym, ap, subst, ◌∙◌}
use Rattle.std.specs.Prelude.{⊤}
use Rattle.c_grammar.specs.Grammar.{IsDeclarator}
use Rattle.c_grammar.specs.Names.{Names, with_params}
use Rattle.c_grammar.specs.Nonterminal.{Form, WithName}
use Rattle.c_grammar.specs.Specifiers as specifiers
use Rattle.c_grammar.specs.UnitGrammar.Declarations.{IsInitDeclarator, AreInitDeclarators, IsDeclaration}
use Rattle.c_grammar.specs.UnitGrammar.Grammar.{IsBlock, IsBody, IsChunk, IsFunction}
use Rattle.c_tree.specs.declared.place.Place.{Place}
use Rattle.c_tree.specs.declared.token.Token.{Token}
use Rattle.c_tree.specs.Forget.{syntax_of, syntaxes_of}
use Rattle.c_tree.specs.Syntax.{Syntaxes}
use Rattle.c_tree.specs.Node.{Node, node, Shape, Initializer, Specifier, Declarator, Part, Outer, Statement, Iteration, SpecifierShape, DeclaratorShape, Init, StructTag, StructBody, EnumTag, EnumBody, StructDeclaration, Named, Nested, Unnamed, Params, Enumerator, Declaration, Function, Empty, Block, ForDeclaration, Nodes, no_more, more}
use Rattle.flow_graph.specs.CPaths.Events.{Variable}
use Rattle.type_rules.specs.Declarators.{is_bare, at_file}
use Rattle.type_rules.specs.Definition.{after, after_all, behind_parts}
use Rattle.type_rules.specs.Moves.{declares, declares_member, mention, opened, opened_block, closed, left_params, behind_specifier}
use Rattle.type_rules.specs.Options.{if_there}
use Rattle.type_rules.specs.Parts.{Slot, plain, callee, same, specs_of, item_of, declared_by, defined_by, formal_by, member_by, beside_name, toward, beside, inside, body, Visit, visit, Parts, none, part, flat, declarator_parts, each, first_in}
use Rattle.type_rules.specs.Roles.{Role, Plain, Defines, Formals, Body, given, inner_role, specs_role, item_role}
use Rattle.type_rules.specs.Scopes.{Scopes, Entry, Tag, Sort, Enums, body_of, leave, with_name, with_member}
use Rattle.type_rules.specs.Scopes as held
use Rattle.type_rules.specs.Specified.{specified_type, storage_of}
use Rattle.type_rules.specs.Tags.{Mention, WithBody, sort_of, is_enum, has_body, meant, mentioned, a_tag, with_tag, with_struct, body_opened}
use Rattle.type_rules.proofs.Stay.{after-stays, after_all-stays}
use Rattle.event_places.proofs.Slots.{IsInner, IsWithin, Slots, SlotsOf, AllSlots, inner-declarator, inner-full, inner-init-declarator, within-block}
use Rattle.event_places.proofs.Variables.{IsBare, OfEntries, OfScopes, Enters, Entering, EnteringAll, after-scopes, bare-entry, file-entry}

-- ROLES that a part is given
either-role : (P : Role → Type 0) (b : Bool) (q r : Role) → P q → P r → P (cond b q r)
either-role P true q r h k = h
either-role P false q r h k = k

inner-bare : (r : Role) → IsBare (inner_role r)
inner-bare (Defines s t) = tt
inner-bare Formals = tt
inner-bare r = tt

specs-bare : (ns : Nodes) → IsBare (specs_role ns)
specs-bare no_more = tt
specs-bare (more n ns) = tt

item-bare : (r : Role) (ns : Nodes) → IsBare r → IsBare (item_role r ns)
item-bare r no_more h = tt
item-bare r (more n no_more) h = h
item-bare r (more n (more m ns)) h = tt

given-bare : (v : Scopes) (r : Role) (slot : Slot) → IsBare r → IsInner slot → IsBare (given v r slot)
given-bare v r plain b h = tt
given-bare v r callee b h = tt
given-bare v r same b h = b
given-bare v r (specs_of declarators) b h = specs-bare declarators
given-bare v r (item_of items) b h = item-bare r items b
given-bare v r (declared_by specs) b h = absurd h
given-bare v r (defined_by specs) b h = absurd h
given-bare v r (formal_by specs) b h = tt
given-bare v r (member_by specs) b h = tt
given-bare v r beside_name b h = inner-bare r
given-bare v r (toward d) b h = either-role IsBare (is_bare d) Plain (inner_role r) tt (inner-bare r)
given-bare v r (beside d) b h = either-role IsBare (is_bare d) (inner_role r) Plain (inner-bare r) tt
given-bare v r (inside which tag) b h = tt
given-bare v r body b h = absurd h

-- a role that no definition gives
abbrev IsUsual : Role → Type 0
IsUsual (Defines s t) = ⊥
IsUsual Formals = ⊥
IsUsual Body = ⊥
IsUsual _ = ⊤

inner-usual : (r : Role) → IsUsual r → IsUsual (inner_role r)
inner-usual (Defines s t) h = absurd h
inner-usual Formals h = absurd h
inner-usual r h = tt

specs-usual : (ns : Nodes) → IsUsual (specs_role ns)
specs-usual no_more = tt
specs-usual (more n ns) = tt

item-usual : (r : Role) (ns : Nodes) → IsUsual r → IsUsual (item_role r ns)
item-usual r no_more h = tt
item-usual r (more n no_more) h = h
item-usual r (more n (more m ns)) h = tt

given-usual : (v : Scopes) (r : Role) (slot : Slot) → IsUsual r → IsWithin slot → IsUsual (given v r slot)
given-usual v r plain b h = tt
given-usual v r callee b h = tt
given-usual v r same b h = b
given-usual v r (specs_of declarators) b h = specs-usual declarators
given-usual v r (item_of items) b h = item-usual r items b
given-usual v r (declared_by specs) b h = tt
given-usual v r (defined_by specs) b h = absurd h
given-usual v r (formal_by specs) b h = tt
given-usual v r (member_by specs) b h = tt
given-usual v r beside_name b h = inner-usual r b
given-usual v r (toward d) b h = either-role IsUsual (is_bare d) Plain (inner_role r) tt (inner-usual r b)
given-usual v r (beside d) b h = either-role IsUsual (is_bare d) (inner_role r) Plain (inner-usual r b) tt
given-usual v r (inside which tag) b h = tt
given-usual v r body b h = absurd h

-- WHAT TREES DECLARE of which no slot is that of a declared name: nothing of a block
module _ (P : Variable → Type 0) where
  enters-bare : (w : Scopes) (r : Role) (s : Shape) → IsBare r → Enters P w r s
  enters-bare w r (Declarator k) b = bare-entry P w r k b
  enters-bare w r s b = tt

  mutual
    entering-bare : (v : Scopes) (r : Role) (e : Visit) → Slots IsInner e → IsBare r → Entering P v r e
    entering-bare v r (visit i p s es) h b = (enters-bare (behind_parts v r s es) r s b, entering-all (given v r) (opened v r s) es h (λ slot k. given-bare v r slot b k))

    entering-all : (roles : Slot → Role) (v : Scopes) (es : Parts) → SlotsOf IsInner es → ((slot : Slot) → IsInner slot → IsBare (roles slot)) → EnteringAll P roles v es
    entering-all roles v none h k = tt
    entering-all roles v (part slot e es) h k = (entering-bare v (roles slot) e h.1 (k slot h.0), entering-all roles (after v (roles slot) e) es h.2 k)

  entering-each : (roles : Slot → Role) (v : Scopes) (slot : Slot) (ns : Nodes) → IsBare (roles slot) → SlotsOf IsInner (each slot ns none) → EnteringAll P roles v (each slot ns none)
  entering-each roles v slot no_more b h = tt
  entering-each roles v slot (more n ns) b h = (entering-bare v (roles slot) (flat n) h.1 b, entering-each roles (after v (roles slot) (flat n)) slot ns b h.2)

  entering-first : (roles : Slot → Role) (v : Scopes) (slot : Slot) (ns : Nodes) → IsBare (roles slot) → IsBare (roles plain) → SlotsOf IsInner (first_in slot ns) → EnteringAll P roles v (first_in slot ns)
  entering-first roles v slot no_more b c h = tt
  entering-first roles v slot (more n ns) b c h = (entering-bare v (roles slot) (flat n) h.1 b, entering-each roles (after v (roles slot) (flat n)) plain ns c h.2)

  -- the parts of a declarator, whatever that declares
  declarator-parts : (v : Scopes) (r : Role) (k : DeclaratorShape) → SlotsOf IsInner (declarator_parts k) → EnteringAll P (given v r) v (declarator_parts k)
  declarator-parts v r (Named pointers name suffixes) h = entering-first (given v r) v beside_name suffixes (inner-bare r) tt h
  declarator-parts v r (Nested pointers inner suffixes) h =
      let role = given v r (toward inner) in (
        entering-bare v role (flat inner) h.1 (either-role IsBare (is_bare inner) Plain (inner_role r) tt (inner-bare r)),
        entering-first (given v r) (after v role (flat inner)) (beside inner) suffixes (either-role IsBare (is_bare inner) (inner_role r) Plain (inner-bare r) tt) tt h.2,
      )
  declarator-parts v r (Unnamed pointers suffixes) h = entering-each (given v r) v plain suffixes tt h

  same-depth : (v w : Scopes) → w.depth ≡ v.depth → at_file v ≡ true → at_file w ≡ true
  same-depth v w e h = ap (λ n. nat_eq n 0) e ∙ h

  -- a declarator at file scope
  entering-declarator : (v : Scopes) (r : Role) (i : ℕ) (p : Place) (k : DeclaratorShape) → at_file v ≡ true → SlotsOf IsInner (declarator_parts k) → Entering P v r (flat (node i p (Declarator k)))
  entering-declarator v r i p k f h =
      let w = after_all (given v r) v (declarator_parts k) in
      let stays = after_all-stays (given v r) v (declarator_parts k) in
      (file-entry P w r k (same-depth v w stays.depth f), declarator-parts v r k h)

  entering-named : (form : Form) (names : Names) (v : Scopes) (r : Role) (d : Node) → at_file v ≡ true → IsDeclarator form names (syntax_of d) → Entering P v r (flat d)
  entering-named form names v r (node i p (Declarator k)) f h = entering-declarator v r i p k f (inner-declarator form names (node i p (Declarator k)) h)
  entering-named form names v r _ f h = absurd h

  -- with or without an initial value
  entering-init : (type : Bool) (names : Names) (v : Scopes) (r : Role) (n : Node) → at_file v ≡ true → IsInitDeclarator type names (syntax_of n) → Entering P v r (flat n)
  entering-init type names v r (node i p (Declarator k)) f h = entering-named WithName names v r (node i p (Declarator k)) f h
  entering-init type names v r (node i p (Initializer (Init name declarator initial))) f h =
      let inside_slots = inner-init-declarator type names (node i p (Initializer (Init name declarator initial))) h in
      let w = after v r (flat declarator) in (
        tt,
        (
          entering-named WithName names v r declarator f h.1,
          (entering-bare w Plain (flat name) inside_slots.2.1 tt, (entering-bare (after w Plain (flat name)) Plain (flat initial) inside_slots.2.2.1 tt, tt)),
        ),
      )
  entering-init type names v r _ f h = absurd h

  entering-inits : (type : Bool) (names : Names) (roles : Slot → Role) (slot : Slot) (v : Scopes) (ns : Nodes) → at_file v ≡ true → AreInitDeclarators type names (syntaxes_of ns) → EnteringAll P roles v (each slot ns none)
  entering-inits type names roles slot v no_more f h = tt
  entering-inits type names roles slot v (more n ns) f h =
      let w = after v (roles slot) (flat n) in
      let stays = after-stays v (roles slot) (flat n) in
      (entering-init type names v (roles slot) n f h.0, entering-inits type _ roles slot w ns (same-depth v w stays.depth f) h.1)

  -- A DECLARATION at file scope
  entering-declaration : (names : Names) (v : Scopes) (i : ℕ) (p : Place) (specs : Node) (declarators : Nodes) → at_file v ≡ true → IsDeclaration names (syntax_of (node i p (Outer (Declaration specs declarators))))
      → Entering P v Plain (flat (node i p (Outer (Declaration specs declarators))))
  entering-declaration names v i p specs declarators f h =
      let role = specs_role declarators in
      let w = after v role (flat specs) in
      let stays = after-stays v role (flat specs) in
      (tt, (entering-bare v role (flat specs) (inner-full specifiers.InDeclaration names specs h.0) (specs-bare declarators), entering-inits _ _ (given v Plain) (declared_by specs) w declarators (same-depth v w stays.depth f) h.1))

-- THE PARAMETERS that are kept for a body stay where no definition begins
struct-formals : (b : Bool) (v : Scopes) (t : Option ℕ) → (cond b v (record v { structs = v.structs ++ (t ∷ []) })).formal_names ≡ v.formal_names
struct-formals true v t = refl
struct-formals false v t = refl

body-formals : (b : Bool) (v : Scopes) (g : Tag) → (cond b (with_tag v g) v).formal_names ≡ v.formal_names
body-formals true v g = refl
body-formals false v g = refl

mention-formals : (o : Option Tag) (b : Bool) (v new : Scopes) (f : Tag → Tag) → new.formal_names ≡ v.formal_names → (if_there o new (λ g. cond b (with_tag v (f g)) v)).formal_names ≡ v.formal_names
mention-formals None b v new f h = h
mention-formals (Some g) b v new f h = body-formals b v (f g)

mentioned-formals : (v : Scopes) (how : Mention) (s : Sort) (name : ℕ) → (mentioned v how s name).formal_names ≡ v.formal_names
mentioned-formals v how s name =
    let g = a_tag v how s name (length v.structs) in
    mention-formals (meant v how s name) (has_body how) v (with_struct (with_tag v g) s (Some name)) (λ g. a_tag v how s name g.number) (struct-formals (is_enum s) (with_tag v g) (Some name))

opened-formals : (v : Scopes) (s : Sort) (tag : Option Token) → (body_opened v s tag).formal_names ≡ v.formal_names
opened-formals v s None = struct-formals (is_enum s) v None
opened-formals v s (Some tag) = mentioned-formals v WithBody s tag.name

block-opened : (v : Scopes) (r : Role) → IsUsual r → (opened_block v r).formal_names ≡ v.formal_names
block-opened v Body u = absurd u
block-opened v _ u = refl

before-formals : (v : Scopes) (r : Role) (s : Shape) → IsUsual r → (opened v r s).formal_names ≡ v.formal_names
before-formals v r (Specifier (StructBody which tag members)) u = opened-formals v (sort_of which) tag
before-formals v r (Specifier (EnumBody tag enumerators comma)) u = opened-formals v Enums tag
before-formals v r (Part (Params params variadic)) u = refl
before-formals v r (Statement (Block items)) u = block-opened v r u
before-formals v r (Iteration (ForDeclaration declaration condition step inner)) u = refl
before-formals v r s u = refl

named-formals : (w : Scopes) (o : Option Entry) (m : Option held.Member) → (if_there o (if_there m w (with_member w)) (with_name w)).formal_names ≡ w.formal_names
named-formals w (Some k) m = refl
named-formals w None (Some m) = refl
named-formals w None None = refl

specifier-formals : (v : Scopes) (r : Role) (k : SpecifierShape) (w : Scopes) → (behind_specifier v r k w).formal_names ≡ w.formal_names
specifier-formals v r (StructTag which tag) w = mentioned-formals w (mention r) (sort_of which) tag.name
specifier-formals v r (EnumTag tag) w = mentioned-formals w (mention r) Enums tag.name
specifier-formals v r (StructDeclaration specs no_more) w = refl
specifier-formals v r (StructDeclaration specs (more n ns)) w = refl
specifier-formals v r k w = refl

params-left : (r : Role) (v w : Scopes) → IsUsual r → (left_params r v w).formal_names ≡ w.formal_names
params-left Formals v w u = absurd u
params-left _ v w u = refl

behind-formals : (v : Scopes) (r : Role) (s : Shape) (w : Scopes) → IsUsual r → (closed v r s w).formal_names ≡ w.formal_names
behind-formals v r (Specifier k) w u = specifier-formals v r k w
behind-formals v r (Declarator d) w u = named-formals w (declares w r d) (declares_member r d)
behind-formals v r (Part (Params params variadic)) w u = params-left r v w u
behind-formals v r (Part (Enumerator name value)) w u = refl
behind-formals v r (Statement (Block items)) w u = refl
behind-formals v r (Iteration (ForDeclaration declaration condition step inner)) w u = refl
behind-formals v r s w u = refl

mutual
  formals-stay : (v : Scopes) (r : Role) (e : Visit) → Slots IsWithin e → IsUsual r → (after v r e).formal_names ≡ v.formal_names
  formals-stay v r (visit i p s es) h u =
      behind-formals v r s (after_all (given v r) (opened v r s) es) u
      ∙ all-formals-stay (given v r) (opened v r s) es h (λ slot k. given-usual v r slot u k)
      ∙ before-formals v r s u

  all-formals-stay : (roles : Slot → Role) (v : Scopes) (es : Parts) → SlotsOf IsWithin es → ((slot : Slot) → IsWithin slot → IsUsual (roles slot)) → (after_all roles v es).formal_names ≡ v.formal_names
  all-formals-stay roles v none h k = refl
  all-formals-stay roles v (part slot e es) h k = all-formals-stay roles (after v (roles slot) e) es h.2 k ∙ formals-stay v (roles slot) e h.1 (k slot h.0)

each-formals-stay : (roles : Slot → Role) (v : Scopes) (slot : Slot) (ns : Nodes) → IsUsual (roles slot) → AllSlots IsWithin ns → (after_all roles v (each slot ns none)).formal_names ≡ v.formal_names
each-formals-stay roles v slot no_more u h = refl
each-formals-stay roles v slot (more n ns) u h = each-formals-stay roles (after v (roles slot) (flat n)) slot ns u h.1 ∙ formals-stay v (roles slot) (flat n) h.0 u

-- FILE SCOPE: no variable of a block is in force
abbrev pub Nowhere : Variable → Type 0
Nowhere x = ⊥

pub record IsFileScope (v : Scopes) : Type 0 where
  pub entries : OfScopes Nowhere v
  pub file : at_file v ≡ true

-- in front of the body of a function of the grammar
abbrev pub in_front : Scopes → Node → Node → Scopes
in_front v specs declarator = after (after v Plain (flat specs)) (Defines (storage_of specs) (specified_type v specs)) (flat declarator)

pub front-scope : (names : Names) (v : Scopes) (specs declarator block : Node) → IsFileScope v → IsFunction names (syntax_of specs) (syntax_of declarator) (syntax_of block) → IsFileScope (in_front v specs declarator)
front-scope names v specs declarator block s h =
    let w = after v Plain (flat specs) in
    let role = Defines (storage_of specs) (specified_type v specs) in
    let first = after-stays v Plain (flat specs) in
    let file : at_file w ≡ true = same-depth Nowhere v w first.depth s.file in
    let second = after-stays w role (flat declarator) in
    record {
      entries =
          after-scopes Nowhere w role (flat declarator) (entering-named Nowhere WithName _ w role declarator file h.2)
          (after-scopes Nowhere v Plain (flat specs) (entering-bare Nowhere v Plain (flat specs) (inner-full specifiers.InDeclaration names specs h.0) tt) s.entries);
      file = same-depth Nowhere w (after w role (flat declarator)) second.depth file;
    }

-- a block keeps no parameters
block-formals : (names : Names) (v : Scopes) (n : Node) → IsBlock names (syntax_of n) → OfEntries Nowhere (after v Body (flat n)).formal_names
block-formals names v (node i p (Statement (Block items))) h =
    let e : (after_all (given v Body) (body_of v) (each plain items none)).formal_names ≡ [] = each-formals-stay (given v Body) (body_of v) plain items tt (within-block names items h) in
    subst (OfEntries Nowhere) (sym e) tt
block-formals names v _ h = absurd h

block-names : (names : Names) (v : Scopes) (n : Node) → IsBlock names (syntax_of n) → (after v Body (flat n)).names ≡ v.names
block-names names v (node i p (Statement (Block items))) h = refl
block-names names v _ h = absurd h

-- a body of the grammar is a block
pub body-block : (names : Names) (o : Option Syntaxes) (n : Node) → IsBody names o (syntax_of n) → (known : Names) × IsBlock known (syntax_of n)
body-block names None n h = absurd h
body-block names (Some params) n h = (with_params params names, h.0)

-- A CHUNK OF THE GRAMMAR leaves no variable of a block in force
pub chunk-scope : (names : Names) (v : Scopes) (e : Node) → IsChunk names (syntax_of e) → IsFileScope v → IsFileScope (after v Plain (flat e))
chunk-scope names v e h s = record { entries = by e h; file = let stays = after-stays v Plain (flat e) in same-depth Nowhere v (after v Plain (flat e)) stays.depth s.file }
  where
    by : (e : Node) → IsChunk names (syntax_of e) → OfScopes Nowhere (after v Plain (flat e))
    by (node i p (Outer Empty)) h = s.entries
    by (node i p (Outer (Declaration specs declarators))) h =
        after-scopes Nowhere v Plain (flat (node i p (Outer (Declaration specs declarators)))) (entering-declaration Nowhere names v i p specs declarators s.file h) s.entries
    by (node i p (Outer (Function specs declarator block))) h =
        let w = in_front v specs declarator in
        let f = front-scope names v specs declarator block s h in
        let b = body-block _ _ block h.3 in
        (subst (OfEntries Nowhere) (sym (block-names b.0 w block b.1)) f.entries.0, block-formals b.0 w block b.1)
    by _ h = absurd h
