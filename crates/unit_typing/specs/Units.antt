-- What is known at each place between the external definitions of a unit.
use Rattle.std.specs.Prelude.{◌≡◌, ℕ, List}
use Rattle.type_rules.specs.Functions.{was_static}
use Rattle.type_rules.specs.Scopes.{Scopes, is_among}

-- these are the names that are static under the scopes
pub record KnowsStatics (statics : List ℕ) (v : Scopes) : Type 0 where
  pub known : (name : ℕ) → is_among name statics ≡ was_static name v.names
