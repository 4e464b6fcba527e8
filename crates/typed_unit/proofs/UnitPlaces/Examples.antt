-- Going down `void f(int x){ x; }`, by the theorems as another crate has them. Names: f 0, x 1, y 2. Each node has a number.
use Rattle.std.proofs.Common.{◌≡◌, ℕ, Bool, true, false, not, ◌&&◌, ◌||◌, nat_eq, nat_lt, List, [], ◌∷◌, inl, inr, Some, ap, refl, ◌∙◌, arith}
use Rattle.std.specs.List.{list_all}
use Rattle.c_grammar.specs.Specifiers.{occurrences, as_often}
use Rattle.c_tree.specs.declared.keyword.Keyword.{Keyword}
use Rattle.c_tree.specs.declared.keyword.Keyword.TheVariants as words
use Rattle.c_tree.specs.declared.operator.BinaryOp.{BinaryOp}
use Rattle.c_tree.specs.declared.place.Place.{Place}
use Rattle.c_tree.specs.declared.token.TokenKind.TheVariants as kinds
use Rattle.c_tree.specs.Node.{Node, node, Shape, Primary, Operation, Initializer, Specifier, Declarator, Part, Outer, Statement, Iteration, Jump, Ident, Binary, Call, Init, Specs, Param, Named, SpecWord, Params, Declaration, Function, Block, ExprStmt, If, ForDeclaration, Return, absent, present, Nodes}
use Rattle.type_rules.specs.Definition.{Meeting, In, Out, IsAmong, Table, at, number_of, type_of, var_at}
use Rattle.type_rules.specs.Parts.{flat}
use Rattle.type_rules.specs.Roles.{Role, Plain, Callee, Declares, Defines, Formal, Member, Body}
use Rattle.type_rules.specs.Scopes.{Scopes, at_start, deeper, body_of}
use Rattle.type_rules.specs.Ways.ScopesByCase.{scoped}
use Rattle.type_rules.specs.Specified.{Unmarked, specified_type, storage_of}
use Rattle.type_rules.specs.Theorems.{CellsAreRight}
use Rattle.type_rules.specs.Types.{Void, int}
use Rattle.type_rules.specs.Unit.{IsTyping, places_of}
use Rattle.type_rules.specs.Vars as vars
use Rattle.type_rules.proofs.Building.{at as place, word, token, list}
use Rattle.typed_unit.specs.Places.{StandsAt, IsTypedAt}
use Rattle.typed_unit.specs.UnitPlaces.Typed.{is_typed, declares_name}
use Rattle.typed_unit.specs.UnitPlaces.Theorems.{TreesStand, NodesStand, PartsStandByCase, BodiesStand, ExpressionsAreTyped, DeclaratorsAreTyped, FactsAgree}

-- the specifiers of one keyword, with the numbers of both nodes
abbrev specs : ℕ → ℕ → Keyword → Node
specs i j k = node i (place 0) (Specifier (Specs (list (node j (place 0) (Part (SpecWord (token (kinds.Keyword k) 0 0))) ∷ []))))

abbrev voids : Node
voids = specs 1 0 words.Void

abbrev ints : Node
ints = specs 3 2 words.Int

-- x, declared
abbrev formal : Node
formal = node 4 (place 3) (Declarator (Named [] (word 1 3) (list [])))

abbrev param : Node
param = node 5 (place 2) (Specifier (Param ints (present formal)))

abbrev params : Node
params = node 6 (place 2) (Part (Params (list (param ∷ [])) false))

abbrev declarator : Node
declarator = node 7 (place 1) (Declarator (Named [] (word 0 1) (list (params ∷ []))))

-- x, used
abbrev use_of_x : Node
use_of_x = node 8 (place 5) (Primary (Ident (word 1 5)))

abbrev statement : Node
statement = node 9 (place 5) (Statement (ExprStmt (present use_of_x)))

abbrev block : Node
block = node 10 (place 4) (Statement (Block (list (statement ∷ []))))

abbrev definition : Node
definition = node 11 (place 0) (Outer (Function voids declarator block))

abbrev small : Nodes
small = list (definition ∷ [])

-- under these scopes the body stands, and its statements under those
abbrev before_block : Scopes
before_block = scoped (scoped at_start Plain voids) (Defines Unmarked Void) declarator

abbrev in_block : Scopes
in_block = body_of before_block

-- the one tree of the unit
definition_stands : TreesStand → StandsAt small at_start Plain definition
definition_stands trees = (trees small).0

-- from it to its body, to the statement there, and to the name, in any unit in which it stands
block_in : (unit : Nodes) → PartsStandByCase → StandsAt unit at_start Plain definition → StandsAt unit before_block Body block
unfolding occurrences as_often
block_in unit parts h = (parts _ _ _ _ _ _ h).2

name_in : (unit : Nodes) → PartsStandByCase → StandsAt unit at_start Plain definition → StandsAt unit in_block Plain use_of_x
name_in unit parts h =
    let items = parts _ _ _ _ _ _ (block_in unit parts h) in
    parts _ _ _ _ _ _ items.0

name_stands : TreesStand → PartsStandByCase → StandsAt small in_block Plain use_of_x
name_stands trees parts = name_in small parts (definition_stands trees)

-- from the body of a function that the unit defines
body_stands : BodiesStand → (v : Scopes) × StandsAt small v Body block
body_stands bodies = bodies small 0 (record { name = 0; own = false; file = 0; formals = []; body = block; place = place 0 }) (omega arith)

-- down to the declarator of the parameter, which declares x
abbrev in_params : Scopes
in_params = deeper at_start

formal_in : (unit : Nodes) → PartsStandByCase → StandsAt unit at_start Plain definition → StandsAt unit in_params (Formal int) formal
unfolding occurrences as_often
formal_in unit parts h =
    let whole = parts _ _ _ _ _ _ h in
    let suffixes = parts _ _ _ _ _ _ whole.1 in
    let all = parts _ _ _ _ _ _ suffixes.0 in
    (parts _ _ _ _ _ _ all.0).1

formal_stands : TreesStand → PartsStandByCase → StandsAt small in_params (Formal int) formal
formal_stands trees parts = formal_in small parts (definition_stands trees)

-- from an operator to its second operand, which stands behind the first
right_stands : (unit : Nodes) (v : Scopes) (r : Role) (i : ℕ) (p : Place) (op : BinaryOp) (left right : Node) → PartsStandByCase → StandsAt unit v r (node i p (Operation (Binary op left right))) → StandsAt unit (scoped v Plain left) Plain right
right_stands unit v r i p op left right parts h = (parts _ _ _ _ _ _ h).1

-- from a call to its second argument
argument_stands : (unit : Nodes) (v : Scopes) (r : Role) (i : ℕ) (p open_place : Place) (called first second : Node) → PartsStandByCase
    → StandsAt unit v r (node i p (Operation (Call called open_place (list (first ∷ second ∷ []))))) → StandsAt unit (scoped (scoped v Callee called) Plain first) Plain second
argument_stands unit v r i p open_place called first second parts h = (parts _ _ _ _ _ _ h).1.1.0

-- from `for (declaration condition; ) inner` to the condition and to the inner statement, which stand in a scope of their own
for_stands : (unit : Nodes) (v : Scopes) (r : Role) (i : ℕ) (p : Place) (declaration condition inner : Node) → PartsStandByCase
    → StandsAt unit v r (node i p (Iteration (ForDeclaration declaration (present condition) absent inner)))
    → StandsAt unit (scoped (deeper v) Plain declaration) Plain condition × StandsAt unit (scoped (scoped (deeper v) Plain declaration) Plain condition) Plain inner
for_stands unit v r i p declaration condition inner parts h = let all = parts _ _ _ _ _ _ h in (all.1, all.3)

-- from `if (condition) return value; else return value;` to the second value
value_stands : (unit : Nodes) (v : Scopes) (r : Role) (i j : ℕ) (p q : Place) (condition then value : Node) → PartsStandByCase
    → StandsAt unit v r (node i p (Statement (If condition then (present (node j q (Jump (Return (present value)))))))) → StandsAt unit (scoped (scoped v Plain condition) Plain then) Plain value
value_stands unit v r i j p q condition then value parts h = parts _ _ _ _ _ _ (parts _ _ _ _ _ _ h).2

-- from a declaration to the declarator of its first name, and to that of its second, which has an initial
declared_stand : (unit : Nodes) (v : Scopes) (r : Role) (i j : ℕ) (p q : Place) (specifiers first name second initial : Node) → PartsStandByCase
    → StandsAt unit v r (node i p (Outer (Declaration specifiers (list (first ∷ node j q (Initializer (Init name second initial)) ∷ [])))))
    → (let d = Declares (storage_of specifiers) (specified_type v specifiers) in let w = scoped v Plain specifiers in
    StandsAt unit w d first × StandsAt unit (scoped w d first) d second × StandsAt unit (scoped (scoped w d first) d second) Plain name)
declared_stand unit v r i j p q specifiers first name second initial parts h =
    let whole = parts _ _ _ _ _ _ h in
    let initialized = parts _ _ _ _ _ _ whole.1.1.0 in
    (whole.1.0, initialized.0, initialized.1)

-- both have a type there
name_typed : TreesStand → PartsStandByCase → ExpressionsAreTyped → IsTypedAt small in_block Plain use_of_x
name_typed trees parts typed = typed small in_block Plain use_of_x (name_stands trees parts) refl

formal_typed : TreesStand → PartsStandByCase → DeclaratorsAreTyped → IsTypedAt small in_params (Formal int) formal
formal_typed trees parts typed = typed small in_params (Formal int) formal (formal_stands trees parts) refl

-- which is int, and the variable is the parameter
type_there : type_of in_block Plain (flat use_of_x) ≡ Some int
unfolding occurrences as_often
type_there = refl

var_there : var_at in_block Plain (flat use_of_x) ≡ Some (vars.Param 0 3 1)
unfolding occurrences as_often
var_there = refl

declared_there : var_at in_params (Formal int) (flat formal) ≡ Some (vars.Param 0 3 1)
declared_there = refl

-- what any table says of the name that types the unit
cell_there : TreesStand → PartsStandByCase → CellsAreRight → (table : Table) → IsTyping small table → at 8 table ≡ Some (record { ty = int; var = Some (vars.Param 0 3 1) })
unfolding occurrences as_often
cell_there trees parts cells table t = cells small table in_block Plain (flat use_of_x) t (name_stands trees parts) refl

-- all tables agree on it
same_there : TreesStand → PartsStandByCase → ExpressionsAreTyped → FactsAgree → (one other : Table) → IsTyping small one → IsTyping small other → at 8 one ≡ at 8 other
same_there trees parts typed agree one other h k = agree small one other in_block Plain use_of_x h k (name_typed trees parts typed)

-- in `f; x;` each tree is found behind those before it
second_stands : TreesStand → NodesStand → (d e : Node) → StandsAt (list (d ∷ e ∷ [])) (scoped at_start Plain d) Plain e
second_stands trees nodes d e = (nodes (list (d ∷ e ∷ [])) at_start Plain (list (d ∷ [])) e (list []) (trees (list (d ∷ e ∷ [])))).0

-- What a test says of all places of the unit it says of each node that stands there.
first-holds : (a b : Bool) → (a && b) ≡ true → a ≡ true
first-holds true b h = refl
first-holds false b h = cc

second-holds : (a b : Bool) → (a && b) ≡ true → b ≡ true
second-holds true b h = h
second-holds false b h = cc

told : (test : Meeting → Bool) (x : Meeting) (xs : List Meeting) → list_all test xs ≡ true → IsAmong x xs → test x ≡ true
told test x [] h m = absurd m
told test x (y ∷ ys) h m = elim m [ inl e ↦ ap test e ∙ first-holds (test y) (list_all test ys) h | inr n ↦ told test x ys (second-holds (test y) (list_all test ys) h) n ]

-- nothing stands in the unit but its twelve nodes
abbrev is_of_twelve : Meeting → Bool
is_of_twelve (In v r e) = true
is_of_twelve (Out v r e) = nat_lt (number_of e) 12

twelve : list_all is_of_twelve (places_of small) ≡ true
unfolding occurrences as_often
twelve = refl

other_missing : (v : Scopes) (r : Role) (p : Place) (s : Shape) → StandsAt small v r (node 12 p s) → ⊥
other_missing v r p s h =
    let e : false ≡ true = told is_of_twelve (Out v r (flat (node 12 p s))) (places_of small) twelve h in cc

-- the name stands in the body alone, and not at file scope
abbrev is_inside : Meeting → Bool
is_inside (In v r e) = true
is_inside (Out v r e) = not (nat_eq (number_of e) 8) || nat_eq v.depth 1

all_inside : list_all is_inside (places_of small) ≡ true
unfolding occurrences as_often
all_inside = refl

not_at_start : (r : Role) → StandsAt small at_start r use_of_x → ⊥
not_at_start r h = let e : false ≡ true = told is_inside (Out at_start r (flat use_of_x)) (places_of small) all_inside h in cc

-- a statement has no type
statement_untyped : is_typed statement ≡ false
statement_untyped = refl

-- the declarator of a member declares no name that is in force
member_untyped : declares_name (Member 0 int) formal ≡ false
member_untyped = refl
