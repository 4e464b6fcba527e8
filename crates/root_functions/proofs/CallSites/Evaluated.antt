-- The calls of a tree are those that are evaluated in it.
use Rattle.std.proofs.Common.{◌≡◌, ◌↔◌, ◌⊎◌, inl, inr, ⊎_elim, Bool, true, false, List, [], ◌∷◌, ◌++◌, Option, None, Some, Contains, refl, sym, ap, subst, arith}
use Rattle.c_tree.specs.declared.operator.BinaryOp.{BinaryOp}
use Rattle.c_tree.specs.declared.operator.BinaryOp.TheVariants as binary
use Rattle.c_tree.specs.declared.operator.UnaryOp.{UnaryOp}
use Rattle.c_tree.specs.declared.operator.UnaryOp.TheVariants as unary
use Rattle.c_tree.specs.declared.place.Place.{Place}
use Rattle.c_tree.specs.Node.{Node, node, Primary, Operation, Initializer, Specifier, Declarator, Part, Outer, Statement, Iteration, Jump, PrimaryShape, OperationShape, InitializerShape, OuterShape, StatementShape, IterationShape, JumpShape, Ident, Constant, StrConst, Paren, VaArg, Offsetof, Hole, Index, Call, Member, Arrow, CompoundLit, Unary, SizeofType, Cast, Binary, Cond, Assign, Init, Braces, Designated, Declaration, Function, Empty, Block, ExprStmt, If, Switch, Case, Default, Label, While, Do, For, ForDeclaration, Goto, Continue, Break, Return, MaybeNode, absent, present, Nodes, no_more, more}
use Rattle.path_theory.specs.Marks.{EventMark}
use Rattle.flow_graph.specs.CPaths.Events.{Event, Variable, called, dereferenced}
use Rattle.flow_graph.specs.CPaths.Facts.{Facts}
use Rattle.flow_graph.specs.CPaths.Forms.{Form, Plain, Inverts, Chooses, Row, done, operand, item}
use Rattle.flow_graph.specs.CPaths.Occurrences.{InForm, InRow, InMaybe, InFlow, InFlows}
use Rattle.flow_graph.specs.CPaths.TreeForms.{is_zero, itself, call_itself, unary_form, binary_form, form_of, primary_form, operation_form, initializer_form, operands}
use Rattle.flow_graph.specs.CPaths.TreeFlow.{maybe_row, maybe_form, declared_then, initialized_then, declarator_then, declarators_row, outer_row, declaration_row, flow_of, statement_flow, iteration_flow, jump_flow, maybe_flow, flows_of}
use Rattle.root_functions.specs.CallSites.Calls.{with_expression, with_primary, unless_sizeof, with_operation, with_initializer, with_all, with_maybe, with_initial, with_declarator, with_declarators, with_outer, with_declaration, with_jump, with_statement, with_plain, with_iteration, with_else, with_items, calls_of}
use Rattle.root_functions.proofs.CallSites.Gains.{Gains, nothing, in_turn, by_same, pushed}

no_event : {P : Type 0} (n : Node) (e : Event) → (called n ≡ EventMark e) ⊎ P → P
no_event n e (inl h) = cc
no_event n e (inr p) = p

same_call : (n m : Node) → called n ≡ called m → n ≡ m
same_call n m h = cc

-- the integer constant zero holds no call
none_in_zero : (n : Node) (calls : List Node) → is_zero n ≡ true → calls ≡ with_expression calls n
none_in_zero (node i p (Primary (Paren inner))) calls h = none_in_zero inner calls h
none_in_zero (node i p (Primary (Constant token))) calls h = refl
none_in_zero (node i p (Primary (Ident name))) calls h = refl
none_in_zero (node i p (Primary (StrConst literals))) calls h = refl
none_in_zero (node i p (Primary (VaArg list of))) calls h = cc
none_in_zero (node i p (Primary (Offsetof of member path))) calls h = refl
none_in_zero (node i p (Primary (Hole number))) calls h = refl
none_in_zero (node i p (Operation (Cast to inner))) calls h = none_in_zero inner calls h
none_in_zero (node i p (Operation (Index array index))) calls h = cc
none_in_zero (node i p (Operation (Call callee parenthesis arguments))) calls h = cc
none_in_zero (node i p (Operation (Member x member))) calls h = cc
none_in_zero (node i p (Operation (Arrow x member))) calls h = cc
none_in_zero (node i p (Operation (CompoundLit of braces))) calls h = cc
none_in_zero (node i p (Operation (Unary op x))) calls h = cc
none_in_zero (node i p (Operation (SizeofType of))) calls h = refl
none_in_zero (node i p (Operation (Binary op x y))) calls h = cc
none_in_zero (node i p (Operation (Cond x y z))) calls h = cc
none_in_zero (node i p (Operation (Assign op x y))) calls h = cc
none_in_zero (node i p (Initializer k)) calls h = cc
none_in_zero (node i p (Specifier k)) calls h = refl
none_in_zero (node i p (Declarator k)) calls h = refl
none_in_zero (node i p (Part k)) calls h = refl
none_in_zero (node i p (Outer k)) calls h = refl
none_in_zero (node i p (Statement k)) calls h = refl
none_in_zero (node i p (Iteration k)) calls h = refl
none_in_zero (node i p (Jump k)) calls h = refl

-- of a call whose callee has a body
module _ (F : Facts) (n : Node) (known : F.has_body n ≡ true) where
  abbrev Adds : List Node → List Node → Type 0 → Type 0
  Adds before behind P = Gains n before behind P

  abbrev In : Bool → Form → Type 0
  In c e = InForm (called n) c e

  abbrev Within : Row → Type 0
  Within r = InRow (called n) r

  not_itself : (m : Node) → Within (itself m) → ⊥
  not_itself m h = no_event n _ h

  behind_itself : {xs ys : List Node} {P : Type 0} (m : Node) → Adds xs ys P → Adds xs ys (P ⊎ Within (itself m))
  behind_itself m g = in_turn g (nothing (not_itself m))

  no_branch : (m : Node) (r : Row) → In true (Plain m r) → Within r
  no_branch m r (inl (t, h)) = cc
  no_branch m r (inr h) = h

  plain : {xs ys : List Node} (m : Node) (r : Row) (c : Bool) → Adds xs ys (Within r) → Adds xs ys (In c (Plain m r))
  plain m r false g = g
  plain m r true g = by_same g inr (no_branch m r)

  -- with its one operand, or with two
  one : {xs ys : List Node} (m : Node) (x : Form) (c : Bool) → Adds xs ys (In false x) → Adds xs ys (In c (Plain m (operand x (itself m))))
  one m x c g = plain m (operand x (itself m)) c (behind_itself m g)

  two : {xs ys zs : List Node} (m : Node) (x y : Form) (c : Bool) → Adds xs ys (In false x) → Adds ys zs (In false y) → Adds xs zs (In c (Plain m (operand x (operand y (itself m)))))
  two m x y c g h = plain m (operand x (operand y (itself m))) c (in_turn g (behind_itself m h))

  leaf : {xs : List Node} (m : Node) (c : Bool) → Adds xs xs (In c (Plain m (itself m)))
  leaf m c = plain m (itself m) c (nothing (not_itself m))

  empty : {xs : List Node} (m : Node) (c : Bool) → Adds xs xs (In c (Plain m done))
  empty m c = plain m done c (nothing (λ h. h))

  not_read : (m x : Node) → Within (item (dereferenced x) (itself m)) → ⊥
  not_read m x h = not_itself m (no_event n _ h)

  -- with its one operand, out of which it reads
  reading : {xs ys : List Node} (m x : Node) (e : Form) (c : Bool) → Adds xs ys (In false e) → Adds xs ys (In c (Plain m (operand e (item (dereferenced x) (itself m)))))
  reading m x e c g = plain m (operand e (item (dereferenced x) (itself m))) c (in_turn g (nothing (not_read m x)))

  of_itself : (b : Bool) (m : Node) → Within (call_itself b m) → n ≡ m
  of_itself true m h = same_call n m (⊎_elim (λ e. e) (λ f. absurd f) (no_event n _ h))
  of_itself false m h = absurd (not_itself m h)

  at_itself : (b : Bool) (m : Node) → b ≡ true → n ≡ m → Within (call_itself b m)
  at_itself true m h e = inr (inl (ap (λ x. called x) e))
  at_itself false m h e = cc

  call_added : (m : Node) (xs : List Node) → Adds xs (xs ++ (m ∷ [])) (Within (call_itself (F.has_body m) m))
  call_added m xs = by_same (pushed xs m) (λ e. at_itself (F.has_body m) m (subst (λ x. F.has_body x ≡ true) e known) e) (of_itself (F.has_body m) m)

  negated : {xs ys : List Node} (m : Node) (x : Form) (c : Bool) → ((d : Bool) → Adds xs ys (In d x)) → Adds xs ys (In c (Inverts x (itself m)))
  negated m x false g = behind_itself m (g false)
  negated m x true g = g true

  in_unary : (m : Node) (op : UnaryOp) (x : Node) (xs : List Node) (c : Bool) → ((d : Bool) → Adds xs (with_expression xs x) (In d (form_of F x))) → Adds xs (unless_sizeof op xs (with_expression xs x)) (In c (unary_form m op (form_of F x)))
  in_unary m unary.Not x xs c g = negated m (form_of F x) c g
  in_unary m unary.Sizeof x xs c g = leaf m c
  in_unary m _ x xs c g = one m (form_of F x) c (g false)

  in_binary : {xs ys zs : List Node} (m : Node) (op : BinaryOp) (zero : Bool) (x y : Form) (c : Bool)
      → ((d : Bool) → Adds xs ys (In d x)) → ((d : Bool) → Adds ys zs (In d y)) → (zero ≡ true → ys ≡ zs) → Adds xs zs (In c (binary_form m op zero x y))
  in_binary m binary.LogAnd zero x y false g h none = in_turn (g true) (behind_itself m (h true))
  in_binary m binary.LogAnd zero x y true g h none = in_turn (g true) (h true)
  in_binary m binary.LogOr zero x y false g h none = in_turn (g true) (behind_itself m (h true))
  in_binary m binary.LogOr zero x y true g h none = in_turn (g true) (h true)
  in_binary m binary.Comma zero x y false g h none = in_turn (g false) (behind_itself m (h false))
  in_binary m binary.Comma zero x y true g h none = in_turn (g false) (h true)
  in_binary m binary.Equal true x y false g h none = in_turn (g false) (behind_itself m (h false))
  in_binary {xs} m binary.Equal true x y true g h none = subst (λ zs. Adds xs zs (In true x)) (none refl) (g true)
  in_binary m binary.Equal false x y c g h none = two m x y c (g false) (h false)
  in_binary m binary.NotEqual true x y false g h none = in_turn (g false) (behind_itself m (h false))
  in_binary {xs} m binary.NotEqual true x y true g h none = subst (λ zs. Adds xs zs (In true x)) (none refl) (g true)
  in_binary m binary.NotEqual false x y c g h none = two m x y c (g false) (h false)
  in_binary m _ zero x y c g h none = two m x y c (g false) (h false)

  in_choice : {xs ys zs ws : List Node} (m : Node) (x y z : Form) (c : Bool)
      → ((d : Bool) → Adds xs ys (In d x)) → ((d : Bool) → Adds ys zs (In d y)) → ((d : Bool) → Adds zs ws (In d z)) → Adds xs ws (In c (Chooses x y z (itself m)))
  in_choice m x y z false g h k = in_turn (g true) (in_turn (h false) (behind_itself m (k false)))
  in_choice m x y z true g h k = in_turn (g true) (in_turn (h true) (k true))

  mutual
    in_expression : (m : Node) (xs : List Node) (c : Bool) → Adds xs (with_expression xs m) (In c (form_of F m))
    in_expression (node i p (Primary k)) xs c = in_primary (node i p (Primary k)) k xs c
    in_expression (node i p (Operation k)) xs c = in_operation (node i p (Operation k)) k xs c
    in_expression (node i p (Initializer k)) xs c = in_initializer (node i p (Initializer k)) k xs c
    in_expression (node i p (Specifier k)) xs c = empty _ c
    in_expression (node i p (Declarator k)) xs c = empty _ c
    in_expression (node i p (Part k)) xs c = empty _ c
    in_expression (node i p (Outer k)) xs c = empty _ c
    in_expression (node i p (Statement k)) xs c = empty _ c
    in_expression (node i p (Iteration k)) xs c = empty _ c
    in_expression (node i p (Jump k)) xs c = empty _ c

    in_primary : (m : Node) (k : PrimaryShape) (xs : List Node) (c : Bool) → Adds xs (with_primary xs k) (In c (primary_form F m k))
    in_primary m (Ident name) xs c = leaf m c
    in_primary m (Constant token) xs c = leaf m c
    in_primary m (StrConst literals) xs c = leaf m c
    in_primary m (Paren inner) xs c = in_expression inner xs c
    in_primary m (VaArg list of) xs c = one m (form_of F list) c (in_expression list xs false)
    in_primary m (Offsetof of member path) xs c = leaf m c
    in_primary m (Hole number) xs c = leaf m c

    in_operation : (m : Node) (k : OperationShape) (xs : List Node) (c : Bool) → Adds xs (with_operation xs m k) (In c (operation_form F m k))
    in_operation m (Index array index) xs c = two m (form_of F array) (form_of F index) c (in_expression array xs false) (in_expression index (with_expression xs array) false)
    in_operation m (Call callee parenthesis arguments) xs c =
        let ys = with_expression xs callee in
        let r = call_itself (F.has_body m) m in
        plain m (operand (form_of F callee) (operands F arguments r)) c (in_turn (in_expression callee xs false) (in_operands arguments r ys _ (call_added m (with_all ys arguments))))
    in_operation m (Member x member) xs c = one m (form_of F x) c (in_expression x xs false)
    in_operation m (Arrow x member) xs c = reading m x (form_of F x) c (in_expression x xs false)
    in_operation m (CompoundLit of braces) xs c = one m (form_of F braces) c (in_expression braces xs false)
    in_operation m (Unary op x) xs c = in_unary m op x xs c (in_expression x xs)
    in_operation m (SizeofType of) xs c = leaf m c
    in_operation m (Cast to x) xs c = one m (form_of F x) c (in_expression x xs false)
    in_operation m (Binary op x y) xs c = in_binary m op (is_zero y) (form_of F x) (form_of F y) c (in_expression x xs) (in_expression y (with_expression xs x)) (none_in_zero y (with_expression xs x))
    in_operation m (Cond x y z) xs c =
        let ys = with_expression xs x in
        in_choice m (form_of F x) (form_of F y) (form_of F z) c (in_expression x xs) (in_expression y ys) (in_expression z (with_expression ys y))
    in_operation m (Assign op x y) xs c = two m (form_of F x) (form_of F y) c (in_expression x xs false) (in_expression y (with_expression xs x) false)

    in_initializer : (m : Node) (k : InitializerShape) (xs : List Node) (c : Bool) → Adds xs (with_initializer xs k) (In c (initializer_form F m k))
    in_initializer m (Init name declarator initial) xs c = one m (form_of F initial) c (in_expression initial xs false)
    in_initializer m (Braces elements comma) xs c = plain m (operands F elements done) c (in_operands elements done xs _ (nothing (λ h. h)))
    in_initializer m (Designated designators initial) xs c = in_expression initial xs c

    -- of trees in order, and then of a row
    in_operands : (ms : Nodes) (r : Row) (xs zs : List Node) → Adds (with_all xs ms) zs (Within r) → Adds xs zs (Within (operands F ms r))
    in_operands no_more r xs zs g = g
    in_operands (more m ms) r xs zs g = in_turn (in_expression m xs false) (in_operands ms r (with_expression xs m) zs g)

  only_left : {P : Type 0} → P ⊎ ⊥ → P
  only_left (inl p) = p
  only_left (inr f) = absurd f

  swapped : {P Q : Type 0} → P ⊎ Q → Q ⊎ P
  swapped (inl p) = inr p
  swapped (inr q) = inl q

  in_value : (m : Node) (xs : List Node) → Adds xs (with_expression xs m) (Within (operand (form_of F m) done))
  in_value m xs = by_same (in_expression m xs false) inl only_left

  in_maybe_row : (e : MaybeNode) (xs : List Node) → Adds xs (with_maybe xs e) (Within (maybe_row F e))
  in_maybe_row absent xs = nothing (λ h. h)
  in_maybe_row (present e) xs = in_value e xs

  in_maybe_form : (e : MaybeNode) (xs : List Node) → Adds xs (with_maybe xs e) (InMaybe (called n) (maybe_form F e))
  in_maybe_form absent xs = nothing (λ h. h)
  in_maybe_form (present e) xs = in_expression e xs true

  -- of a declarator and then of a row
  in_declared : (v : Option Variable) (r : Row) (xs ys : List Node) → Adds xs ys (Within r) → Adds xs ys (Within (declared_then v r))
  in_declared None r xs ys g = g
  in_declared (Some x) r xs ys g = by_same g inr (no_event n _)

  in_initialized : (v : Option Variable) (m initial : Node) (r : Row) (xs ys : List Node) → Adds xs (with_expression xs initial) (In false (form_of F m)) → Adds (with_initial v xs initial) ys (Within r) → Adds xs ys (Within (initialized_then v (form_of F m) r))
  in_initialized None m initial r xs ys h g = g
  in_initialized (Some x) m initial r xs ys h g = by_same (in_turn h g) inr (no_event n _)

  in_declarator : (m : Node) (r : Row) (xs ys : List Node) → Adds (with_declarator F xs m) ys (Within r) → Adds xs ys (Within (declarator_then F m r))
  in_declarator (node i p (Initializer (Init name declarator initial))) r xs ys g =
      let m = node i p (Initializer (Init name declarator initial)) in
      in_initialized (F.variable_of declarator) m initial r xs ys (in_expression m xs false) g
  in_declarator (node i p (Initializer (Braces elements comma))) r xs ys g = g
  in_declarator (node i p (Initializer (Designated designators initial))) r xs ys g = g
  in_declarator (node i p (Declarator k)) r xs ys g = in_declared (F.variable_of (node i p (Declarator k))) r xs ys g
  in_declarator (node i p (Primary k)) r xs ys g = g
  in_declarator (node i p (Operation k)) r xs ys g = g
  in_declarator (node i p (Specifier k)) r xs ys g = g
  in_declarator (node i p (Part k)) r xs ys g = g
  in_declarator (node i p (Outer k)) r xs ys g = g
  in_declarator (node i p (Statement k)) r xs ys g = g
  in_declarator (node i p (Iteration k)) r xs ys g = g
  in_declarator (node i p (Jump k)) r xs ys g = g

  in_declarators : (ms : Nodes) (xs : List Node) → Adds xs (with_declarators F xs ms) (Within (declarators_row F ms))
  in_declarators no_more xs = nothing (λ h. h)
  in_declarators (more m ms) xs = in_declarator m (declarators_row F ms) xs _ (in_declarators ms (with_declarator F xs m))

  in_outer : (k : OuterShape) (xs : List Node) → Adds xs (with_outer F xs k) (Within (outer_row F k))
  in_outer (Declaration specs declarators) xs = in_declarators declarators xs
  in_outer (Function specs declarator body) xs = nothing (λ h. h)
  in_outer Empty xs = nothing (λ h. h)

  in_declaration : (m : Node) (xs : List Node) → Adds xs (with_declaration F xs m) (Within (declaration_row F m))
  in_declaration (node i p (Outer k)) xs = in_outer k xs
  in_declaration (node i p (Initializer k)) xs = nothing (λ h. h)
  in_declaration (node i p (Declarator k)) xs = nothing (λ h. h)
  in_declaration (node i p (Primary k)) xs = nothing (λ h. h)
  in_declaration (node i p (Operation k)) xs = nothing (λ h. h)
  in_declaration (node i p (Specifier k)) xs = nothing (λ h. h)
  in_declaration (node i p (Part k)) xs = nothing (λ h. h)
  in_declaration (node i p (Statement k)) xs = nothing (λ h. h)
  in_declaration (node i p (Iteration k)) xs = nothing (λ h. h)
  in_declaration (node i p (Jump k)) xs = nothing (λ h. h)

  in_jump : (f p : Place) (k : JumpShape) (xs : List Node) → Adds xs (with_jump xs k) (InFlow (called n) (jump_flow F f p k))
  in_jump f p (Goto label) xs = nothing (λ h. h)
  in_jump f p Continue xs = nothing (λ h. h)
  in_jump f p Break xs = nothing (λ h. h)
  in_jump f p (Return value) xs = by_same (in_maybe_row value xs) inr (no_event n _)

  mutual
    in_statement : (f : Place) (m : Node) (xs : List Node) → Adds xs (with_statement F xs m) (InFlow (called n) (flow_of F f m))
    in_statement f (node i p (Outer k)) xs = in_outer k xs
    in_statement f (node i p (Statement k)) xs = in_plain f k xs
    in_statement f (node i p (Iteration k)) xs = in_iteration f k xs
    in_statement f (node i p (Jump k)) xs = in_jump f p k xs
    in_statement f (node i p (Primary k)) xs = nothing (λ h. h)
    in_statement f (node i p (Operation k)) xs = nothing (λ h. h)
    in_statement f (node i p (Initializer k)) xs = nothing (λ h. h)
    in_statement f (node i p (Specifier k)) xs = nothing (λ h. h)
    in_statement f (node i p (Declarator k)) xs = nothing (λ h. h)
    in_statement f (node i p (Part k)) xs = nothing (λ h. h)

    in_plain : (f : Place) (k : StatementShape) (xs : List Node) → Adds xs (with_plain F xs k) (InFlow (called n) (statement_flow F f k))
    in_plain f (Block items) xs = in_items f items xs
    in_plain f (ExprStmt value) xs = in_maybe_row value xs
    in_plain f (If condition then otherwise) xs =
        let ys = with_expression xs condition in
        in_turn (in_expression condition xs true) (in_turn (in_statement f then ys) (in_else f otherwise (with_statement F ys then)))
    in_plain f (Switch value body) xs = in_turn (in_value value xs) (in_statement f body (with_expression xs value))
    in_plain f (Case value body) xs = in_statement f body xs
    in_plain f (Default body) xs = in_statement f body xs
    in_plain f (Label label body) xs = in_statement f body xs

    in_iteration : (f : Place) (k : IterationShape) (xs : List Node) → Adds xs (with_iteration F xs k) (InFlow (called n) (iteration_flow F f k))
    in_iteration f (While condition body) xs = in_turn (in_expression condition xs true) (in_statement f body (with_expression xs condition))
    in_iteration f (Do body condition) xs = by_same (in_turn (in_statement f body xs) (in_expression condition (with_statement F xs body) true)) swapped swapped
    in_iteration f (For first condition step body) xs =
        let ys = with_maybe xs first in
        let zs = with_maybe ys condition in
        in_turn (in_maybe_row first xs) (in_turn (in_maybe_form condition ys) (in_turn (in_maybe_row step zs) (in_statement f body (with_maybe zs step))))
    in_iteration f (ForDeclaration declaration condition step body) xs =
        let ys = with_declaration F xs declaration in
        let zs = with_maybe ys condition in
        in_turn (in_declaration declaration xs) (in_turn (in_maybe_form condition ys) (in_turn (in_maybe_row step zs) (in_statement f body (with_maybe zs step))))

    in_else : (f : Place) (m : MaybeNode) (xs : List Node) → Adds xs (with_else F xs m) (InFlow (called n) (maybe_flow F f m))
    in_else f absent xs = nothing (λ h. h)
    in_else f (present m) xs = in_statement f m xs

    in_items : (f : Place) (ms : Nodes) (xs : List Node) → Adds xs (with_items F xs ms) (InFlows (called n) (flows_of F f ms))
    in_items f no_more xs = nothing (λ h. h)
    in_items f (more m ms) xs = in_turn (in_statement f m xs) (in_items f ms (with_statement F xs m))

none_in_empty : {P : Type 0} (n : Node) → Contains [] n ⊎ P → P
none_in_empty n (inl h) = absurd (omega (arith, h.1))
none_in_empty n (inr p) = p

-- THE CALLS of a body that are evaluated somewhere in it
pub found_in_body : (F : Facts) (body : Node) (calls : List Node) → calls ≡ calls_of F body → (f : Place) (n : Node) → F.has_body n ≡ true → Contains calls n ↔ InFlow (called n) (flow_of F f body)
found_in_body F body calls e f n known =
    let g = in_statement F n known f body [] in
    (λ h. none_in_empty n (g.cases (subst (λ xs. Contains xs n) e h)), λ h. subst (λ xs. Contains xs n) (sym e) (g.new h))
