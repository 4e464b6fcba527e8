-- The object of a tree at a depth is that at a greater depth, if it is short enough.
use Rattle.std.proofs.Common.{arith, ◌≡◌, ℕ, ◌≤◌, ◌<◌, List, [], ◌∷◌, length, Bool, true, false, Option, None, Some, refl, ◌∙◌, sym, ap, cond, ◌||◌}
use Rattle.std.specs.Option.{option_map}
use Rattle.c_objects.specs.Facts.{Facts, numbered_var}
use Rattle.c_objects.specs.Objects.{Selector, Deref, Field, Object, path, address_of, ends_in_star, up_to}
use Rattle.c_objects.specs.ObjectOf.{index_of, onward, onward_at, object_of, primary_object, operation_object, address_object}
use Rattle.c_objects.specs.Paths.{append, addressed}
use Rattle.c_objects.proofs.Steps.{bind-bind, bind-same, short-up_to, long-up_to, by-length, cut-first, append-cut}
use Rattle.c_tree.specs.declared.operator.UnaryOp.TheVariants as unary
use Rattle.c_tree.specs.Node.{Node, node, Primary, Operation, PrimaryShape, OperationShape, Ident, Paren, Index, Member, Arrow, Unary, Cast}
use Rattle.type_rules.specs.Options.{◌>?◌}
use Rattle.type_rules.specs.Vars.{CVar}

onward-cut : (depth more : ℕ) (r : List Selector) (o : Option Object) → depth ≤ more → onward depth r (o >? up_to depth) ≡ (onward more r o >? up_to depth)
onward-cut depth more r o m =
    bind-bind o (up_to depth) (λ q. append depth q r)
    ∙ bind-same o (λ q. up_to depth q >? λ x. append depth x r) (λ q. append more q r >? up_to depth) (λ q. cut-first depth q r ∙ sym (append-cut depth more q r m))
    ∙ sym (bind-bind o (λ q. append more q r) (up_to depth))

onward_at-cut : (depth more : ℕ) (step : Option Selector) (o : Option Object) → depth ≤ more → onward_at depth step (o >? up_to depth) ≡ (onward_at more step o >? up_to depth)
onward_at-cut depth more None o m = refl
onward_at-cut depth more (Some s) o m = onward-cut depth more (s ∷ []) o m

short-addressed : (depth : ℕ) (o : Object) (b : Bool) → length o.selectors ≤ depth → cond b None (Some (address_of o.base o.selectors)) ≡ (cond b None (Some (address_of o.base o.selectors)) >? up_to depth)
short-addressed depth o true h = refl
short-addressed depth o false h = sym (short-up_to depth (address_of o.base o.selectors) h)

long-addressed : (depth : ℕ) (o : Object) (b : Bool) → depth < length o.selectors → (cond b None (Some (address_of o.base o.selectors)) >? up_to depth) ≡ None
long-addressed depth o true h = refl
long-addressed depth o false h = long-up_to depth (address_of o.base o.selectors) h

addressed-cut : (depth : ℕ) (o : Object) → (up_to depth o >? addressed) ≡ (addressed o >? up_to depth)
addressed-cut depth o = by-length depth o
    (λ h. ap (λ x. x >? addressed) (short-up_to depth o h) ∙ short-addressed depth o (o.address || ends_in_star o.selectors) h)
    (λ h. ap (λ x. x >? addressed) (long-up_to depth o h) ∙ sym (long-addressed depth o (o.address || ends_in_star o.selectors) h))

pub address-cut : (depth : ℕ) (o : Option Object) → ((o >? up_to depth) >? addressed) ≡ ((o >? addressed) >? up_to depth)
address-cut depth o =
    bind-bind o (up_to depth) addressed
    ∙ bind-same o (λ q. up_to depth q >? addressed) (λ q. addressed q >? up_to depth) (addressed-cut depth)
    ∙ sym (bind-bind o addressed (up_to depth))

variable-cut : (depth : ℕ) (v : Option CVar) → option_map (λ x. path x []) v ≡ (option_map (λ x. path x []) v >? up_to depth)
variable-cut depth None = refl
variable-cut depth (Some x) = sym (short-up_to depth (path x []) (grind arith))

mutual
  pub object-cut : (u : Facts) (depth more : ℕ) (e : Node) → depth ≤ more → object_of u depth e ≡ (object_of u more e >? up_to depth)
  object-cut u depth more (node i p (Primary k)) m = primary-cut u depth more i k m
  object-cut u depth more (node i p (Operation k)) m = operation-cut u depth more k m
  object-cut u depth more (node i p s) m = refl

  primary-cut : (u : Facts) (depth more i : ℕ) (k : PrimaryShape) → depth ≤ more → primary_object u depth i k ≡ (primary_object u more i k >? up_to depth)
  primary-cut u depth more i (Ident name) m = variable-cut depth (numbered_var u i)
  primary-cut u depth more i (Paren inner) m = object-cut u depth more inner m
  primary-cut u depth more i k m = refl

  operation-cut : (u : Facts) (depth more : ℕ) (k : OperationShape) → depth ≤ more → operation_object u depth k ≡ (operation_object u more k >? up_to depth)
  operation-cut u depth more (Index array index) m = ap (onward_at depth (index_of u index)) (object-cut u depth more array m) ∙ onward_at-cut depth more (index_of u index) (object_of u more array) m
  operation-cut u depth more (Member operand member) m = ap (onward depth (Field member.name ∷ [])) (object-cut u depth more operand m) ∙ onward-cut depth more (Field member.name ∷ []) (object_of u more operand) m
  operation-cut u depth more (Arrow operand member) m = ap (onward depth (Deref ∷ Field member.name ∷ [])) (object-cut u depth more operand m) ∙ onward-cut depth more (Deref ∷ Field member.name ∷ []) (object_of u more operand) m
  operation-cut u depth more (Unary unary.Deref operand) m = ap (onward depth (Deref ∷ [])) (object-cut u depth more operand m) ∙ onward-cut depth more (Deref ∷ []) (object_of u more operand) m
  operation-cut u depth more (Unary unary.AddressOf operand) m = address_object-cut u depth more operand m
  operation-cut u depth more (Cast to operand) m = object-cut u depth more operand m
  operation-cut u depth more k m = refl

  address_object-cut : (u : Facts) (depth more : ℕ) (e : Node) → depth ≤ more → address_object u depth e ≡ (address_object u more e >? up_to depth)
  address_object-cut u depth more (node i p (Primary (Paren inner))) m = address_object-cut u depth more inner m
  address_object-cut u depth more (node i p (Primary k)) m = ap (λ x. x >? addressed) (primary-cut u depth more i k m) ∙ address-cut depth (primary_object u more i k)
  address_object-cut u depth more (node i p (Operation (Unary unary.Deref operand))) m = object-cut u depth more operand m
  address_object-cut u depth more (node i p (Operation k)) m = ap (λ x. x >? addressed) (operation-cut u depth more k m) ∙ address-cut depth (operation_object u more k)
  address_object-cut u depth more (node i p s) m = refl
