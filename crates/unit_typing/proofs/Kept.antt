-- What is kept of a primary expression, with the variable that was asked for before it was visited.
use Rattle.std.proofs.Common.{◌≡◌, ℕ, true, refl, Option, Ok}
use Rattle.c_tree.specs.declared.place.Place.{Place}
use Rattle.c_tree.specs.Node.{Shape, Primary, PrimaryShape}
use Rattle.type_rules.specs.Definition.{Table}
use Rattle.type_rules.specs.Order.{put_kept}
use Rattle.type_rules.specs.Roles.{Role}
use Rattle.type_rules.specs.Rows.{keeps, var_of}
use Rattle.type_rules.specs.Scopes.{Scopes}
use Rattle.type_rules.specs.Ways.ScopesByCase.{within, within_primary}
use Rattle.type_rules.specs.Ways.TablesByCase.{filled_shape, filled_primary}
use Rattle.type_rules.specs.Types.{CType}
use Rattle.type_rules.specs.Ways.TypesByCase.{typed_shape, typed_primary}
use Rattle.type_rules.specs.Vars.{CVar}

pub primary-kept : (v : Scopes) (r : Role) (i : ℕ) (p : Place) (s : Shape) (k : PrimaryShape) (old mid new : Table) (ty : CType) (var : Option CVar)
    → s ≡ Primary k → ((w : Scopes) (q : Role) → var ≡ var_of v w q (Primary k)) → typed_primary v r p k ≡ Ok ty → mid ≡ filled_primary v r k old
    → new ≡ put_kept true i var (Ok ty) mid
    → new ≡ put_kept (keeps (within v r s) r s) i (var_of v (within v r s) r s) (typed_shape v r p s) (filled_shape v r s old)
primary-kept v r i p s k old mid new ty var e h g f n = rw (e, n, h (within_primary v r k) r, g, f) refl
