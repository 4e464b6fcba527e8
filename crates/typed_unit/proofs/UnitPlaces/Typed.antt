-- Which nodes have a type where they stand.
use Rattle.std.proofs.Common.{◌≡◌, Bool, true, false, Option, None, Some, is_some, ◌&&◌, refl}
use Rattle.std.specs.Option.{option_map}
use Rattle.c_tree.specs.declared.token.Token.{Token}
use Rattle.c_tree.specs.Node.{Node, node, Primary, Operation, Initializer, Specifier, Declarator, Part, Outer, Statement, Iteration, Jump, DeclaratorShape}
use Rattle.type_rules.specs.Declarators.{name_of_shape, declared, formal, around_shape}
use Rattle.type_rules.specs.Definition.{is_kept, behind_parts}
use Rattle.type_rules.specs.Moves.{declares}
use Rattle.type_rules.specs.Parts.{flat, parts}
use Rattle.type_rules.specs.Roles.{Role, Plain, Callee, Alone, Declares, Defines, Formal, Member, Inside, Formals, Body}
use Rattle.type_rules.specs.Scopes.{Scopes, Entry}
use Rattle.typed_unit.specs.UnitPlaces.Typed.{is_typed, is_declaring, declares_name}

pub expression-kept : (v : Scopes) (r : Role) (e : Node) → is_typed e ≡ true → is_kept v r (flat e) ≡ true
expression-kept v r (node i p (Primary k)) h = refl
expression-kept v r (node i p (Operation k)) h = refl
expression-kept v r (node i p (Initializer k)) h = h
expression-kept v r (node i p (Specifier k)) h = h
expression-kept v r (node i p (Declarator k)) h = cc
expression-kept v r (node i p (Part k)) h = cc
expression-kept v r (node i p (Outer k)) h = cc
expression-kept v r (node i p (Statement k)) h = cc
expression-kept v r (node i p (Iteration k)) h = cc
expression-kept v r (node i p (Jump k)) h = cc

named : (o : Option Token) (f : Token → Entry) → is_some o ≡ true → is_some (option_map f o) ≡ true
named None f h = cc
named (Some t) f h = refl

declaring : (w : Scopes) (r : Role) (d : DeclaratorShape) → (is_declaring r && is_some (name_of_shape d)) ≡ true → is_some (declares w r d) ≡ true
declaring w Plain d h = cc
declaring w Callee d h = cc
declaring w Alone d h = cc
declaring w (Declares s t) d h = named (name_of_shape d) (λ name. declared w s (around_shape d t) name) h
declaring w (Defines s t) d h = named (name_of_shape d) (λ name. declared w s (around_shape d t) name) h
declaring w (Formal t) d h = named (name_of_shape d) (λ name. formal w (around_shape d t) name) h
declaring w (Member owner t) d h = cc
declaring w (Inside owner) d h = cc
declaring w Formals d h = cc
declaring w Body d h = cc

nameless : (b : Bool) → (b && false) ≡ true → ⊥
nameless true h = cc
nameless false h = cc

pub declarator-kept : (v : Scopes) (r : Role) (e : Node) → declares_name r e ≡ true → is_kept v r (flat e) ≡ true
declarator-kept v r (node i p (Declarator d)) h = declaring (behind_parts v r (Declarator d) (parts (Declarator d))) r d h
declarator-kept v r (node i p (Primary k)) h = absurd (nameless (is_declaring r) h)
declarator-kept v r (node i p (Operation k)) h = absurd (nameless (is_declaring r) h)
declarator-kept v r (node i p (Initializer k)) h = absurd (nameless (is_declaring r) h)
declarator-kept v r (node i p (Specifier k)) h = absurd (nameless (is_declaring r) h)
declarator-kept v r (node i p (Part k)) h = absurd (nameless (is_declaring r) h)
declarator-kept v r (node i p (Outer k)) h = absurd (nameless (is_declaring r) h)
declarator-kept v r (node i p (Statement k)) h = absurd (nameless (is_declaring r) h)
declarator-kept v r (node i p (Iteration k)) h = absurd (nameless (is_declaring r) h)
declarator-kept v r (node i p (Jump k)) h = absurd (nameless (is_declaring r) h)
