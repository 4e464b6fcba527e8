-- What the table of a unit says of a node at its place.
use Rattle.std.proofs.Common.{◌≡◌, Option, None, Some, Bool, true, false, cond, ap, refl, ◌∙◌, sym}
use Rattle.std.specs.Option.{option_map}
use Rattle.std.proofs.Math.Logic.{∥∥₁_elim}
use Rattle.c_tree.specs.Node.{Node, node, Nodes, Primary, Operation, Initializer, Specifier, Declarator, Part, Outer, Statement, Iteration, Jump}
use Rattle.type_rules.specs.Definition.{Cell, Out, Table, IsAmong, at, is_kept, number_of, type_of, var_at}
use Rattle.type_rules.specs.Parts.{Visit, flat}
use Rattle.type_rules.specs.Roles.{Role}
use Rattle.type_rules.specs.Scopes.{Scopes}
use Rattle.type_rules.specs.Theorems.{CellsAreRight, PlacesAreTyped}
use Rattle.type_rules.specs.Types.{CType}
use Rattle.type_rules.specs.Unit.{IsTyping, places_of}
use Rattle.type_rules.specs.Vars.{CVar}
use Rattle.typed_unit.specs.Places.{is_identifier}
use Rattle.typed_unit.specs.Tables.{var_in}
use Rattle.typed_unit.proofs.Sets.{maybe-variable-set}

one : (o : Option CType) (t : CType) (var : Option CVar) (x : Option Cell) → x ≡ option_map (λ u. record { ty = u; var = var }) o → o ≡ Some t → x ≡ Some (record { ty = t; var = var })
one (Some u) t var x h k = let e : u ≡ t = cc in h ∙ ap (λ w. Some (record { ty = w; var = var })) e
one None t var x h k = cc

-- the cell of a node that has a type
pub cell-at : (unit : Nodes) (table : Table) (v : Scopes) (r : Role) (e : Visit) → CellsAreRight → PlacesAreTyped → IsTyping unit table → IsAmong (Out v r e) (places_of unit) → is_kept v r e ≡ true
    → (t : CType) × (type_of v r e ≡ Some t) × (at (number_of e) table ≡ Some (record { ty = t; var = var_at v r e }))
cell-at unit table v r e right typed h m k =
    let t = typed unit v r e h.no_fault m in
    (t.0, t.1, one (type_of v r e) t.0 (var_at v r e) (at (number_of e) table) (right unit table v r e h m k) t.1)

pub some-type : (c : Cell) (t : CType) (var : Option CVar) → Some c ≡ Some (record { ty = t; var = var }) → t ≡ c.ty
some-type c t var h = let e : c ≡ record { ty = t; var = var } = cc in sym (ap (λ (k : Cell). k.ty) e)

-- an identifier has a type
pub identifier-kept : (v : Scopes) (r : Role) (e : Node) → is_identifier e ≡ true → is_kept v r (flat e) ≡ true
identifier-kept v r (node i p (Primary k)) h = refl
identifier-kept v r (node i p (Operation k)) h = cc
identifier-kept v r (node i p (Initializer k)) h = cc
identifier-kept v r (node i p (Specifier k)) h = cc
identifier-kept v r (node i p (Declarator k)) h = cc
identifier-kept v r (node i p (Part k)) h = cc
identifier-kept v r (node i p (Outer k)) h = cc
identifier-kept v r (node i p (Statement k)) h = cc
identifier-kept v r (node i p (Iteration k)) h = cc
identifier-kept v r (node i p (Jump k)) h = cc

pub chosen : (b : Bool) (x o : Option CVar) → b ≡ true → x ≡ o → x ≡ cond b o None
chosen true x o h k = k
chosen false x o h k = cc

pub nothing : (o : Option Cell) (x : Cell) → None ≡ o → o ≡ Some x → ⊥
nothing None x h k = cc
nothing (Some y) x h k = cc

pub var-placed : (unit : Nodes) (table : Table) (v : Scopes) (r : Role) (e : Visit) (x : Option CVar) → CellsAreRight → PlacesAreTyped → ∥ IsTyping unit table ∥₁ → IsAmong (Out v r e) (places_of unit) → is_kept v r e ≡ true
    → x ≡ var_in (at (number_of e) table) → x ≡ var_at v r e
var-placed unit table v r e x right typed typing m k h =
    ∥∥₁_elim typing (maybe-variable-set x (var_at v r e))
    (λ t. let y = cell-at unit table v r e right typed t m k in h ∙ ap var_in y.2)
