-- The places that stand in a line of the grammar, where the line stands over tokens; and what passes from a line to its parts.
use Rattle.std.proofs.Common.{◌≡◌, ℕ, List, [], ◌∷◌, ◌++◌, Option, None, Some, inl, inr, refl, sym, subst}
use Rattle.std.specs.Prelude.{⊤}
use Rattle.c_grammar.specs.CPlaces.Lines.{Line, nothing, kept, all_kept, fixed, at, numbered, names, ◌⨾◌, unary_line, line_of, declarator_line, declared_token, declarator_token}
use Rattle.c_grammar.specs.CPlaces.Stands.{Stands, OfNothing, OfKept, OfAll, OfFixed, OfPlace, OfNumber, OfName, OfBoth}
use Rattle.c_tree.specs.PathSubjects.Subjects.{first_of, tree_place}
use Rattle.c_tree.specs.declared.operator.UnaryOp.{UnaryOp}
use Rattle.c_tree.specs.declared.operator.UnaryOp.TheVariants as unary
use Rattle.c_tree.specs.declared.place.Place.{Place}
use Rattle.c_tree.specs.declared.token.Token.{Token}
use Rattle.c_tree.specs.Node.{Node, node, Primary, Operation, Initializer, Specifier, Declarator, Part, Outer, Statement, Iteration, Jump, Ident, Init, DeclaratorShape, Named, Nested, Unnamed}
use Rattle.flow_graph.specs.CPaths.Membership.{Among}

-- the node is the identifier of a declared token
abbrev pub IsIdentifierOf : Token → Node → Type 0
IsIdentifierOf t n = (number : ℕ) × (n ≡ node number t.place (Primary (Ident t)))

-- each place of a node, and that of each token that is kept by itself, has the property; a declared name is the identifier of its token
abbrev pub Places : (Place → Type 0) → Line → Type 0
Places P nothing = ⊤
Places P (kept t) = P t.place
Places P (all_kept us) = ⊤
Places P (fixed s) = ⊤
Places P (at p) = P p
Places P (numbered id) = ⊤
Places P (names None n) = ⊥
Places P (names (Some t) n) = IsIdentifierOf t n
Places P (l ⨾ m) = Places P l × Places P m

-- what is left behind a line are some of its tokens
in-rest : (t : Token) (us ts : List Token) → Among t ts → Among t (us ++ ts)
in-rest t [] ts h = h
in-rest t (u ∷ us) ts h = inr (in-rest t us ts h)

pub behind : (l : Line) (low high : ℕ) (ts rest : List Token) → Stands l low high ts rest → (t : Token) → Among t rest → Among t ts
behind nothing low high ts rest OfNothing t h = h
behind (kept u) low high ts rest OfKept t h = inr h
behind (all_kept us) low high ts rest OfAll t h = in-rest t us rest h
behind (fixed s) low high ts rest (OfFixed e) t h = inr h
behind (at p) low high ts rest OfPlace t h = h
behind (numbered id) low high ts rest OfNumber t h = h
behind (names u n) low high ts rest OfName t h = h
behind (l ⨾ m) low high ts rest (OfBoth {middle = middle} {us = us} a b) t h = behind l low middle ts us a t (behind m middle high us rest b t h)

-- a line that stands over tokens whose places have the property
pub places : (P : Place → Type 0) (l : Line) (low high : ℕ) (ts rest : List Token) → Stands l low high ts rest → ((t : Token) → Among t ts → P t.place) → Places P l
places P nothing low high ts rest OfNothing h = tt
places P (kept u) low high ts rest OfKept h = h u (inl refl)
places P (all_kept us) low high ts rest OfAll h = tt
places P (fixed s) low high ts rest (OfFixed e) h = tt
places P (at p) low high ts rest (OfPlace {t = t}) h = h t (inl refl)
places P (numbered id) low high ts rest OfNumber h = tt
places P (names u n) low high ts rest OfName h = (low, refl)
places P (l ⨾ m) low high ts rest (OfBoth {middle = middle} {us = us} a b) h =
    (places P l low middle ts us a h, places P m middle high us rest b (λ t i. h t (behind l low middle ts us a t i)))

-- a property that follows
pub places-map : (P Q : Place → Type 0) → ((p : Place) → P p → Q p) → (l : Line) → Places P l → Places Q l
places-map P Q g nothing h = tt
places-map P Q g (kept t) h = g t.place h
places-map P Q g (all_kept us) h = tt
places-map P Q g (fixed s) h = tt
places-map P Q g (at p) h = g p h
places-map P Q g (numbered id) h = tt
places-map P Q g (names None n) h = h
places-map P Q g (names (Some t) n) h = h
places-map P Q g (l ⨾ m) h = (places-map P Q g l h.0, places-map P Q g m h.1)

-- A PROPERTY OF LINES PASSES DOWN: the parts of a line have it, and so has the identifier of the name that a declarator declares
pub record PassesDown (R : Line → Type 0) : Type 0 where
  pub front : {l m : Line} → R (l ⨾ m) → R l
  pub back : {l m : Line} → R (l ⨾ m) → R m
  pub identifier : (declarator name : Node) → R (line_of declarator ⨾ names (declared_token declarator) name) → R (line_of name)

-- the operand of an operator before or behind it
pub operand-of : (R : Line → Type 0) → PassesDown R → (op : UnaryOp) (l : Line) → R (unary_line op l) → R l
operand-of R d unary.PostInc l h = d.front h
operand-of R d unary.PostDec l h = d.front h
operand-of R d unary.PreInc l h = d.back h
operand-of R d unary.PreDec l h = d.back h
operand-of R d unary.AddressOf l h = d.back h
operand-of R d unary.Deref l h = d.back h
operand-of R d unary.Plus l h = d.back h
operand-of R d unary.Minus l h = d.back h
operand-of R d unary.BitNot l h = d.back h
operand-of R d unary.Not l h = d.back h
operand-of R d unary.Sizeof l h = d.back h

-- the token that a declarator declares
mutual
  pub declared-at : (P : Place → Type 0) (d : Node) (t : Token) → Places P (line_of d) → declared_token d ≡ Some t → P t.place
  declared-at P (node i p (Declarator k)) t h e = declared-by P k t h.0.1 e
  declared-at P (node i p (Primary k)) t h e = cc
  declared-at P (node i p (Operation k)) t h e = cc
  declared-at P (node i p (Initializer k)) t h e = cc
  declared-at P (node i p (Specifier k)) t h e = cc
  declared-at P (node i p (Part k)) t h e = cc
  declared-at P (node i p (Outer k)) t h e = cc
  declared-at P (node i p (Statement k)) t h e = cc
  declared-at P (node i p (Iteration k)) t h e = cc
  declared-at P (node i p (Jump k)) t h e = cc

  declared-by : (P : Place → Type 0) (k : DeclaratorShape) (t : Token) → Places P (declarator_line k) → declarator_token k ≡ Some t → P t.place
  declared-by P (Named pointers name suffixes) t h e = let s : name ≡ t = cc in subst (λ (x : Token). P x.place) s h.0.1
  declared-by P (Nested pointers inner suffixes) t h e = declared-at P inner t h.0.0.1 e
  declared-by P (Unnamed pointers suffixes) t h e = cc

-- and the identifier that stands for it
identifier-at : (P : Place → Type 0) (o : Option Token) (name : Node) → ((t : Token) → o ≡ Some t → P t.place) → Places P (names o name) → Places P (line_of name)
identifier-at P None name g h = absurd h
identifier-at P (Some t) name g h = subst (λ (n : Node). Places P (line_of n)) (sym h.1) ((g t refl, g t refl), tt)

declared-identifier : (P : Place → Type 0) (declarator name : Node) → Places P (line_of declarator) → Places P (names (declared_token declarator) name) → Places P (line_of name)
declared-identifier P declarator name h g = identifier-at P (declared_token declarator) name (λ t e. declared-at P declarator t h e) g

-- the places of a line pass down
pub places-down : (P : Place → Type 0) → PassesDown (Places P)
places-down P = record { front = λ h. h.0; back = λ h. h.1; identifier = λ declarator name h. declared-identifier P declarator name h.0 h.1 }

-- a node begins at one of them, and so does its event
pub first-at : (P : Place → Type 0) (n : Node) → Places P (line_of n) → P (first_of n)
first-at P (node i p s) h = h.0.0

pub tree-at : (P : Place → Type 0) (n : Node) → Places P (line_of n) → P (tree_place n)
tree-at P (node i p (Initializer (Init name declarator initial))) h = first-at P name (declared-identifier P declarator name h.0.1.0.0.0 h.0.1.0.0.1)
tree-at P (node i p s) h = h.0.0
