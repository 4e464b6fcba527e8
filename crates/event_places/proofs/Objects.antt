-- The variable of an object that a tree has is that of an identifier in the tree; and what an event copies, and where to, are objects of its trees.
use Rattle.std.proofs.Common.{◌≡◌, ◌⊎◌, ℕ, List, [], ◌∷◌, Bool, true, false, cond, Option, None, Some, inl, inr, refl, sym, subst}
use Rattle.std.specs.Prelude.{⊤}
use Rattle.std.specs.Option.{option_map}
use Rattle.c_objects.specs.Facts.{Facts, numbered_var, var_in}
use Rattle.c_objects.specs.ObjectOf.{index_of, onward, onward_at, object_of, primary_object, operation_object, address_object}
use Rattle.c_objects.specs.Objects.{Selector, Deref, Field, Object, path, if_object}
use Rattle.c_objects.specs.Paths.{append, addressed, rebase}
use Rattle.c_objects.proofs.Plain.{object-if}
use Rattle.c_tree.specs.declared.operator.AssignOp.{AssignOp}
use Rattle.c_tree.specs.declared.operator.AssignOp.TheVariants as assign
use Rattle.c_tree.specs.declared.operator.UnaryOp.{UnaryOp}
use Rattle.c_tree.specs.declared.operator.UnaryOp.TheVariants as unary
use Rattle.c_tree.specs.declared.place.Place.{Place}
use Rattle.c_tree.specs.PathSubjects.Subjects.{Subject, Tree, DerefOf}
use Rattle.c_tree.specs.Node.{Node, node, Primary, Operation, Initializer, PrimaryShape, OperationShape, Ident, Paren, Index, Call, Member, Arrow, Unary, Cast, Assign, Init, Nodes, no_more, more}
use Rattle.flow_graph.specs.CPaths.Events.{Event, Evaluated, Declared, Branched, Exited}
use Rattle.hole_matching.specs.Subjects.{is_braced, subject_object}
use Rattle.path_model.specs.CheckerModel.Calls.{objects_of, actuals_of}
use Rattle.path_model.specs.CheckerModel.Moves.{Move, moving, assigned, stepped, initialized, tree_move, local_of, move_of, under, indexes, copied, source_of, source}
use Rattle.path_model.proofs.CheckerModel.Sources.{given, untested}
use Rattle.type_rules.specs.Options.{if_there, ◌>?◌}
use Rattle.type_rules.specs.Parts.{Slot, plain, none, flat, primary_parts, operation_parts, each}
use Rattle.type_rules.specs.Vars.{CVar}
use Rattle.typed_unit.specs.Places.{is_identifier}
use Rattle.event_places.proofs.Bases.{same-base, append-base, addressed-base, rebase-base}
use Rattle.event_places.proofs.EachNode.{Everywhere, InParts, OfSubject}

module _ (Q : Node → Type 0) (u : Facts) where
  -- an identifier with the property stands for the variable
  pub record IsOfName (v : CVar) : Type 0 where
    pub name : Node
    pub identifier : is_identifier name ≡ true
    pub has : Q name
    pub variable : var_in u name ≡ Some v

  -- none, or an object of such a variable
  abbrev OfName : Option Object → Type 0
  OfName None = ⊤
  OfName (Some o) = IsOfName o.base

  pub its-name : (k : Option Object) (o : Object) → OfName k → k ≡ Some o → IsOfName o.base
  its-name None o h e = cc
  its-name (Some q) o h e = let s : q ≡ o = cc in subst (λ (z : Object). IsOfName z.base) s h

  append-named : (depth : ℕ) (o : Object) (r : List Selector) (k : Option Object) → append depth o r ≡ k → IsOfName o.base → OfName k
  append-named depth o r None e h = tt
  append-named depth o r (Some q) e h = subst IsOfName (sym (append-base depth o q r e)) h

  onward-named : (depth : ℕ) (r : List Selector) (o : Option Object) → OfName o → OfName (onward depth r o)
  onward-named depth r None h = tt
  onward-named depth r (Some o) h = append-named depth o r (append depth o r) refl h

  onward_at-named : (depth : ℕ) (step : Option Selector) (o : Option Object) → OfName o → OfName (onward_at depth step o)
  onward_at-named depth None o h = tt
  onward_at-named depth (Some s) o h = onward-named depth (s ∷ []) o h

  address-of-named : (o : Object) (k : Option Object) → addressed o ≡ k → IsOfName o.base → OfName k
  address-of-named o None e h = tt
  address-of-named o (Some q) e h = subst IsOfName (sym (addressed-base o q e)) h

  addressed-named : (o : Option Object) → OfName o → OfName (o >? addressed)
  addressed-named None h = tt
  addressed-named (Some o) h = address-of-named o (addressed o) refl h

  variable-named : (name : Node) (v : Option CVar) → is_identifier name ≡ true → Q name → var_in u name ≡ v → OfName (option_map (λ x. path x []) v)
  variable-named name None i h e = tt
  variable-named name (Some v) i h e = record { name = name; identifier = i; has = h; variable = e }

  -- THE OBJECT OF A TREE
  mutual
    pub object-named : (depth : ℕ) (e : Node) → Everywhere Q (flat e) → OfName (object_of u depth e)
    object-named depth (node i p (Primary k)) h = primary-named depth i p k h.0 h.1
    object-named depth (node i p (Operation k)) h = operation-named depth k h.1
    object-named depth (node i p s) h = tt

    primary-named : (depth i : ℕ) (p : Place) (k : PrimaryShape) → Q (node i p (Primary k)) → InParts Q (primary_parts k) → OfName (primary_object u depth i k)
    primary-named depth i p (Ident name) o h = variable-named (node i p (Primary (Ident name))) (numbered_var u i) refl o refl
    primary-named depth i p (Paren inner) o h = object-named depth inner h.0
    primary-named depth i p k o h = tt

    operation-named : (depth : ℕ) (k : OperationShape) → InParts Q (operation_parts k) → OfName (operation_object u depth k)
    operation-named depth (Index array index) h = onward_at-named depth (index_of u index) (object_of u depth array) (object-named depth array h.0)
    operation-named depth (Member operand member) h = onward-named depth (Field member.name ∷ []) (object_of u depth operand) (object-named depth operand h.0)
    operation-named depth (Arrow operand member) h = onward-named depth (Deref ∷ Field member.name ∷ []) (object_of u depth operand) (object-named depth operand h.0)
    operation-named depth (Unary unary.Deref operand) h = onward-named depth (Deref ∷ []) (object_of u depth operand) (object-named depth operand h.0)
    operation-named depth (Unary unary.AddressOf operand) h = address-named depth operand h.0
    operation-named depth (Cast to operand) h = object-named depth operand h.1.0
    operation-named depth k h = tt

    address-named : (depth : ℕ) (e : Node) → Everywhere Q (flat e) → OfName (address_object u depth e)
    address-named depth (node i p (Primary (Paren inner))) h = address-named depth inner h.1.0
    address-named depth (node i p (Primary k)) h = addressed-named (primary_object u depth i k) (primary-named depth i p k h.0 h.1)
    address-named depth (node i p (Operation (Unary unary.Deref operand))) h = object-named depth operand h.1.0
    address-named depth (node i p (Operation k)) h = addressed-named (operation_object u depth k) (operation-named depth k h.1)
    address-named depth (node i p s) h = tt

  pub tree-name : (depth : ℕ) (e : Node) (o : Object) → Everywhere Q (flat e) → object_of u depth e ≡ Some o → IsOfName o.base
  tree-name depth e o h k = its-name (object_of u depth e) o (object-named depth e h) k

  -- of a subject
  pub subject-name : (depth : ℕ) (s : Subject) (o : Object) → OfSubject Q s → subject_object u depth s ≡ Some o → IsOfName o.base
  subject-name depth (Tree e) o h k = tree-name depth e o h k
  subject-name depth (DerefOf x) o h k = its-name (onward depth (Deref ∷ []) (object_of u depth x)) o (onward-named depth (Deref ∷ []) (object_of u depth x) (object-named depth x h)) k

  -- of the actuals of a call
  abbrev pub AreNamed : List (Option Object) → Type 0
  AreNamed [] = ⊤
  AreNamed (o ∷ os) = OfName o × AreNamed os

  objects-named : (depth : ℕ) (slot : Slot) (es : Nodes) → InParts Q (each slot es none) → AreNamed (objects_of u depth es)
  objects-named depth slot no_more h = tt
  objects-named depth slot (more e es) h = (object-named depth e h.0, objects-named depth slot es h.1)

  pub actuals-named : (depth : ℕ) (e : Node) → Everywhere Q (flat e) → AreNamed (actuals_of u depth e)
  actuals-named depth (node i p (Operation (Call function paren arguments))) h = objects-named depth plain arguments h.1.1
  actuals-named depth e h = tt

  -- WHAT IS COPIED, and where to: objects of such variables
  abbrev pub Copies : Move → Type 0
  Copies m = (a : Object) → m.from ≡ Some a → IsOfName m.to.base × IsOfName a.base

  no-object : {A : Type 0} (a : Object) → None ≡ Some a → A
  no-object a e = cc

  no-move : {A : Type 0} (m : Move) → None ≡ Some m → A
  no-move m e = cc

  moving-copies : (to from : Option Object) (m : Move) → ((l a : Object) → to ≡ Some l → from ≡ Some a → IsOfName l.base × IsOfName a.base) → moving to from ≡ Some m → Copies m
  moving-copies None from m g h = no-move m h
  moving-copies (Some l) from m g h = by l.address h
    where
      by : (b : Bool) → cond b None (Some (record { to = l; from = from })) ≡ Some m → Copies m
      by true k = no-move m k
      by false k = let same : record { to = l; from = from } ≡ m = cc in subst Copies same (λ a e. g l a refl e)

  nothing-copied : (to : Option Object) (m : Move) → moving to None ≡ Some m → Copies m
  nothing-copied to m h = moving-copies to None m (λ l a k e. no-object a e) h

  trees-copied : (depth : ℕ) (l r : Node) (m : Move) → Everywhere Q (flat l) → Everywhere Q (flat r) → moving (object_of u depth l) (object_of u depth r) ≡ Some m → Copies m
  trees-copied depth l r m hl hr h = moving-copies (object_of u depth l) (object_of u depth r) m (λ x a k e. (tree-name depth l x hl k, tree-name depth r a hr e)) h

  assigned-copies : (depth : ℕ) (op : AssignOp) (l r : Node) (m : Move) → Everywhere Q (flat l) → Everywhere Q (flat r) → assigned u depth op l r ≡ Some m → Copies m
  assigned-copies depth assign.Plain l r m hl hr h = trees-copied depth l r m hl hr h
  assigned-copies depth op l r m hl hr h = nothing-copied (object_of u depth l) m h

  stepped-copies : (depth : ℕ) (op : UnaryOp) (x : Node) (m : Move) → stepped u depth op x ≡ Some m → Copies m
  stepped-copies depth unary.PostInc x m h = nothing-copied (object_of u depth x) m h
  stepped-copies depth unary.PostDec x m h = nothing-copied (object_of u depth x) m h
  stepped-copies depth unary.PreInc x m h = nothing-copied (object_of u depth x) m h
  stepped-copies depth unary.PreDec x m h = nothing-copied (object_of u depth x) m h
  stepped-copies depth op x m h = no-move m h

  initialized-copies : (depth : ℕ) (name initial : Node) (m : Move) → Everywhere Q (flat name) → Everywhere Q (flat initial) → initialized u depth name initial ≡ Some m → Copies m
  initialized-copies depth name initial m hn hi h = by (is_braced initial) h
    where
      by : (b : Bool) → moving (object_of u depth name) (cond b None (object_of u depth initial)) ≡ Some m → Copies m
      by true k = nothing-copied (object_of u depth name) m k
      by false k = trees-copied depth name initial m hn hi k

  tree-copies : (depth : ℕ) (e : Node) (m : Move) → Everywhere Q (flat e) → tree_move u depth e ≡ Some m → Copies m
  tree-copies depth (node i p (Operation (Assign op l r))) m h k = assigned-copies depth op l r m h.1.0 h.1.1.0 k
  tree-copies depth (node i p (Operation (Unary op x))) m h k = stepped-copies depth op x m k
  tree-copies depth (node i p (Initializer (Init name declarator initial))) m h k = initialized-copies depth name initial m h.1.1.0 h.1.1.1.0 k
  tree-copies depth e m h k = no-move m k

  -- the trees of an event have the property at each node
  abbrev pub OfEvent : Event → Type 0
  OfEvent (Evaluated s) = OfSubject Q s
  OfEvent (Declared x) = ⊤
  OfEvent (Branched n t) = Everywhere Q (flat n)
  OfEvent (Exited function place) = ⊤

  event-copies : (depth : ℕ) (e : Event) (m : Move) → OfEvent e → move_of u depth e ≡ Some m → Copies m
  event-copies depth (Evaluated (Tree e)) m h k = tree-copies depth e m h k
  event-copies depth (Evaluated (DerefOf x)) m h k = no-move m k
  event-copies depth (Declared x) m h k = nothing-copied (Some (path (local_of x) [])) m k
  event-copies depth (Branched n t) m h k = no-move m k
  event-copies depth (Exited function place) m h k = no-move m k

  -- THE SOURCE OF AN OBJECT at an event has its variable, or both are objects of such variables
  copied-named : (depth : ℕ) (m : Move) (o b : Object) (r : List Selector) → Copies m → copied depth m o r ≡ Some b → IsOfName o.base × IsOfName b.base
  copied-named depth m o b r g h =
      let t = (untested (indexes m.to r) (m.from >? λ a. rebase depth o m.to a) b h).1 in
      let x = given m.from (λ a. rebase depth o m.to a) b t in
      let same = rebase-base depth o m.to x.0 b x.2 in
      let n = g x.0 x.1 in
      (subst IsOfName same.1 n.0, subst IsOfName (sym same.0) n.1)

  moved-named : (depth : ℕ) (m : Move) (o b : Object) → Copies m → source_of depth m o ≡ Some b → (b.base ≡ o.base) ⊎ (IsOfName o.base × IsOfName b.base)
  moved-named depth m o b g h = by (under m.to o) h
    where
      by : (k : Option (List Selector)) → if_there k (cond (indexes m.to o.selectors) None (Some o)) (copied depth m o) ≡ Some b → (b.base ≡ o.base) ⊎ (IsOfName o.base × IsOfName b.base)
      by (Some r) k = inr (copied-named depth m o b r g k)
      by None k = let t = (untested (indexes m.to o.selectors) (Some o) b k).1 in let same : o ≡ b = cc in inl (same-base o b same)

  pub source-named : (depth : ℕ) (e : Event) (o b : Object) → OfEvent e → source depth (move_of u depth e) o ≡ Some b → (b.base ≡ o.base) ⊎ (IsOfName o.base × IsOfName b.base)
  source-named depth e o b h k = by (move_of u depth e) refl k
    where
      by : (m : Option Move) → move_of u depth e ≡ m → source depth m o ≡ Some b → (b.base ≡ o.base) ⊎ (IsOfName o.base × IsOfName b.base)
      by None s q = inl (same-base o b (object-if depth o b q).0)
      by (Some m) s q =
          let x = given (if_object depth o) (source_of depth m) b q in
          let same : x.0 ≡ o = sym (object-if depth o x.0 x.1).0 in
          moved-named depth m o b (event-copies depth e m h s) (subst (λ (z : Object). source_of depth m z ≡ Some b) same x.2)
