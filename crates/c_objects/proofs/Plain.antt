-- The object of a tree is an object: short enough, and no address of what ends in `*`.
use Rattle.std.proofs.Common.{arith, rules, ◌≡◌, ℕ, nat_le, length, List, [], ◌∷◌, Bool, true, false, Option, None, Some, refl, ◌∙◌, ap, subst, cond, not, ◌&&◌, ◌||◌}
use Rattle.std.specs.Bool.{⊤}
use Rattle.std.specs.Option.{option_map}
use Rattle.c_objects.specs.Facts.{Facts, numbered_var}
use Rattle.c_objects.specs.Objects.{Selector, Deref, Field, Object, IsObject, is_object, if_object, path, address_of, ends_in_star}
use Rattle.c_objects.specs.ObjectOf.{index_of, onward, onward_at, object_of, primary_object, operation_object, address_object}
use Rattle.c_objects.specs.Paths.{append, addressed, rest, has_access, rebased_address, rebase}
use Rattle.c_tree.specs.declared.operator.UnaryOp.TheVariants as unary
use Rattle.c_tree.specs.Node.{Node, node, Primary, Operation, PrimaryShape, OperationShape, Ident, Paren, Index, Member, Arrow, Unary, Cast}
use Rattle.type_rules.specs.Options.{◌>?◌}
use Rattle.type_rules.specs.Vars.{CVar}

-- none, or an object at the depth
abbrev Fits : ℕ → Option Object → Type 0
Fits depth None = ⊤
Fits depth (Some o) = IsObject depth o

pub append-object : (depth : ℕ) (o q : Object) (r : List Selector) → IsObject depth o → append depth o r ≡ Some q → IsObject depth q
append-object depth o q r h e = search rules

append-fits : (depth : ℕ) (o : Object) (r : List Selector) (k : Option Object) → append depth o r ≡ k → IsObject depth o → Fits depth k
append-fits depth o r None e h = tt
append-fits depth o r (Some q) e h = append-object depth o q r h e

onward-fits : (depth : ℕ) (r : List Selector) (o : Option Object) → Fits depth o → Fits depth (onward depth r o)
onward-fits depth r None h = tt
onward-fits depth r (Some o) h = append-fits depth o r (append depth o r) refl h

onward_at-fits : (depth : ℕ) (step : Option Selector) (o : Option Object) → Fits depth o → Fits depth (onward_at depth step o)
onward_at-fits depth None o h = tt
onward_at-fits depth (Some s) o h = onward-fits depth (s ∷ []) o h

addressed-by : (depth : ℕ) (o : Object) (a b : Bool) → o.address ≡ a → ends_in_star o.selectors ≡ b → IsObject depth o → Fits depth (cond (a || b) None (Some (address_of o.base o.selectors)))
addressed-by depth o true b ea eb h = tt
addressed-by depth o false true ea eb h = tt
addressed-by depth o false false ea eb h = record { short = h.short; plain = λ k. eb }

addressed-fits : (depth : ℕ) (o : Option Object) → Fits depth o → Fits depth (o >? addressed)
addressed-fits depth None h = tt
addressed-fits depth (Some o) h = addressed-by depth o o.address (ends_in_star o.selectors) refl refl h

variable-fits : (depth : ℕ) (v : Option CVar) → Fits depth (option_map (λ x. path x []) v)
variable-fits depth None = tt
variable-fits depth (Some v) = record { short = grind arith; plain = λ k. refl }

mutual
  pub object-fits : (u : Facts) (depth : ℕ) (e : Node) → Fits depth (object_of u depth e)
  object-fits u depth (node i p (Primary k)) = primary-fits u depth i k
  object-fits u depth (node i p (Operation k)) = operation-fits u depth k
  object-fits u depth (node i p s) = tt

  primary-fits : (u : Facts) (depth i : ℕ) (k : PrimaryShape) → Fits depth (primary_object u depth i k)
  primary-fits u depth i (Ident name) = variable-fits depth (numbered_var u i)
  primary-fits u depth i (Paren inner) = object-fits u depth inner
  primary-fits u depth i k = tt

  operation-fits : (u : Facts) (depth : ℕ) (k : OperationShape) → Fits depth (operation_object u depth k)
  operation-fits u depth (Index array index) = onward_at-fits depth (index_of u index) (object_of u depth array) (object-fits u depth array)
  operation-fits u depth (Member operand member) = onward-fits depth (Field member.name ∷ []) (object_of u depth operand) (object-fits u depth operand)
  operation-fits u depth (Arrow operand member) = onward-fits depth (Deref ∷ Field member.name ∷ []) (object_of u depth operand) (object-fits u depth operand)
  operation-fits u depth (Unary unary.Deref operand) = onward-fits depth (Deref ∷ []) (object_of u depth operand) (object-fits u depth operand)
  operation-fits u depth (Unary unary.AddressOf operand) = address-fits u depth operand
  operation-fits u depth (Cast to operand) = object-fits u depth operand
  operation-fits u depth k = tt

  address-fits : (u : Facts) (depth : ℕ) (e : Node) → Fits depth (address_object u depth e)
  address-fits u depth (node i p (Primary (Paren inner))) = address-fits u depth inner
  address-fits u depth (node i p (Primary k)) = addressed-fits depth (primary_object u depth i k) (primary-fits u depth i k)
  address-fits u depth (node i p (Operation (Unary unary.Deref operand))) = object-fits u depth operand
  address-fits u depth (node i p (Operation k)) = addressed-fits depth (operation_object u depth k) (operation-fits u depth k)
  address-fits u depth (node i p s) = tt

fitting : (depth : ℕ) (k : Option Object) (o : Object) → Fits depth k → k ≡ Some o → IsObject depth o
fitting depth None o h e = cc
fitting depth (Some q) o h e = grind arith

pub object-object : (u : Facts) (depth : ℕ) (e : Node) (o : Object) → object_of u depth e ≡ Some o → IsObject depth o
object-object u depth e o h = fitting depth (object_of u depth e) o (object-fits u depth e) h

-- what is put in the place of a path gives an object
rebased-fits : (depth : ℕ) (b : Bool) (a : Object) (r : List Selector) → IsObject depth a → Fits depth (cond b (rebased_address depth a r) (append depth a r))
rebased-fits depth false a r h = append-fits depth a r (append depth a r) refl h
rebased-fits depth true a r h = by (has_access r)
  where
    by : (b : Bool) → Fits depth (cond b (append depth a r >? addressed) None)
    by true = addressed-fits depth (append depth a r) (append-fits depth a r (append depth a r) refl h)
    by false = tt

rebase-fits : (depth : ℕ) (o p a : Object) → IsObject depth a → Fits depth (rebase depth o p a)
rebase-fits depth o p a h = by (rest o p)
  where
    by : (k : Option (List Selector)) → Fits depth (k >? λ r. cond o.address (rebased_address depth a r) (append depth a r))
    by None = tt
    by (Some r) = rebased-fits depth o.address a r h

pub rebase-object : (depth : ℕ) (o p a q : Object) → IsObject depth a → rebase depth o p a ≡ Some q → IsObject depth q
rebase-object depth o p a q h e = fitting depth (rebase depth o p a) q (rebase-fits depth o p a h) e

-- THE TEST says what is an object
module _ (depth : ℕ) (o : Object) where
  tested : (b a s : Bool) → o.address ≡ a → ends_in_star o.selectors ≡ s → b && not (a && s) ≡ true → (b ≡ true) × (o.address ≡ true → ends_in_star o.selectors ≡ false)
  tested true false s ea es h = (refl, λ k. cc)
  tested true true false ea es h = (refl, λ k. es)
  tested true true true ea es h = cc
  tested false a s ea es h = cc

  pub is-object : is_object depth o ≡ true → IsObject depth o
  is-object h =
      let t = tested (nat_le (length o.selectors) depth) o.address (ends_in_star o.selectors) refl refl h in
      let short : nat_le (length o.selectors) depth ≡ true = t.0 in
      record { short = grind arith; plain = t.1 }

  pub object-is : IsObject depth o → is_object depth o ≡ true
  object-is i =
      let short = i.short in
      let e : nat_le (length o.selectors) depth ≡ true = grind arith in
      ap (λ b. b && not (o.address && ends_in_star o.selectors)) e ∙ by o.address (ends_in_star o.selectors) i.plain
    where
      by : (a s : Bool) → (a ≡ true → s ≡ false) → not (a && s) ≡ true
      by false s k = refl
      by true s k = ap not (k refl)

  pub if-object : IsObject depth o → if_object depth o ≡ Some o
  if-object i = ap (λ b. cond b (Some o) None) (object-is i)

  pub object-if : (q : Object) → if_object depth o ≡ Some q → (o ≡ q) × IsObject depth q
  object-if q h = by (is_object depth o) refl h
    where
      by : (b : Bool) → is_object depth o ≡ b → cond b (Some o) None ≡ Some q → (o ≡ q) × IsObject depth q
      by true e k = let same : o ≡ q = cc in (same, subst (IsObject depth) same (is-object e))
      by false e k = cc
