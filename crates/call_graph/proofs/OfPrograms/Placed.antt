-- The function that a callee names where it stands.
use Rattle.std.proofs.Common.{◌≡◌, ℕ, List, Option, None, Some, slice_get, Bor, Bool, true, cond, ap, refl, ◌∙◌, sym, subst}
use Rattle.c_tree.specs.declared.place.Place.{Place}
use Rattle.c_tree.specs.declared.token.Token.{Token}
use Rattle.c_tree.specs.Node.{Node, node, Primary, Operation, Ident, Paren, Call, Nodes}
use Rattle.type_rules.specs.Definition.{is_kept, type_of}
use Rattle.type_rules.specs.Options.{if_there}
use Rattle.type_rules.specs.Parts.{flat}
use Rattle.type_rules.specs.Roles.{Role, Plain, Callee}
use Rattle.type_rules.specs.Scopes.{Scopes}
use Rattle.type_rules.specs.Types.{CType, is_function}
use Rattle.call_graph.specs.OfPrograms.Calls.{if_function, function_named_at, called_name_at}
use Rattle.typed_unit.specs.declared.typed_unit.TypedUnit.{TypedUnit}
use Rattle.typed_unit.specs.Places.{StandsAt}
use Rattle.typed_unit.specs.UnitPlaces.Theorems.{PartsStandByCase}

-- a name has a type
pub name-kept : (v : Scopes) (r : Role) (e : Node) (i : ℕ) (p : Place) (name : Token) → e ≡ node i p (Primary (Ident name)) → is_kept v r (flat e) ≡ true
name-kept v r e i p name h = rw h refl

named : (v : Scopes) (r : Role) (i : ℕ) (p : Place) (name : Token) (t : CType) → type_of v r (flat (node i p (Primary (Ident name)))) ≡ Some t → function_named_at v r (node i p (Primary (Ident name))) ≡ if_function name t
named v r i p name t h = ap (λ (o : Option CType). if_there o None (if_function name)) h

by-type : (name : Token) (t : CType) (b : Bool) → is_function t ≡ b → if_function name t ≡ cond b (Some name.name) None
by-type name t b h = ap (λ (c : Bool). cond c (Some name.name) None) h

pub named-placed : (v : Scopes) (r : Role) (e : Node) (i : ℕ) (p : Place) (name : Token) (t : CType) (b : Bool) → e ≡ node i p (Primary (Ident name)) → type_of v r (flat e) ≡ Some t → b ≡ is_function t
    → cond b (Some name.name) None ≡ function_named_at v r e
named-placed v r e i p name t b k h f =
    subst (λ (n : Node). cond b (Some name.name) None ≡ function_named_at v r n) (sym k)
    (sym (named v r i p name t (subst (λ (n : Node). type_of v r (flat n) ≡ Some t) k h) ∙ by-type name t b (sym f)))

-- parentheses, and a call
pub paren-placed : (unit : Nodes) (v : Scopes) (r : Role) (e : Node) (i : ℕ) (p : Place) (inner : Node) (x : Option ℕ) → PartsStandByCase → e ≡ node i p (Primary (Paren inner))
    → ((w : Scopes) (q : Role) → StandsAt unit w q inner → x ≡ function_named_at w q inner) → StandsAt unit v r e → x ≡ function_named_at v r e
paren-placed unit v r e i p inner x parts k further h =
    subst (λ (n : Node). x ≡ function_named_at v r n) (sym k)
    (further v Plain (parts unit v r i p (Primary (Paren inner)) (subst (λ (n : Node). StandsAt unit v r n) k h)))

pub call-placed : (unit : Nodes) (v : Scopes) (r : Role) (e : Node) (i : ℕ) (p : Place) (callee : Node) (paren : Place) (arguments : Nodes) (x : Option ℕ) → PartsStandByCase → e ≡ node i p (Operation (Call callee paren arguments))
    → ((w : Scopes) (q : Role) → StandsAt unit w q callee → x ≡ function_named_at w q callee) → StandsAt unit v r e → x ≡ called_name_at v e
call-placed unit v r e i p callee paren arguments x parts k further h =
    subst (λ (n : Node). x ≡ called_name_at v n) (sym k)
    (further v Callee (parts unit v r i p (Operation (Call callee paren arguments)) (subst (λ (n : Node). StandsAt unit v r n) k h)).0)

-- the unit of a number
pub one-unit : (units : List (Bor TypedUnit)) (k : ℕ) (a b : Bor TypedUnit) → slice_get units k ≡ Some a → slice_get units k ≡ Some b → a ≡ b
one-unit units k a b e f = cc
