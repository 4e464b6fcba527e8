-- What a cell of a table has, as both of the crates below say it.
use Rattle.std.proofs.Common.{◌≡◌, Option, None, Some, refl}
use Rattle.type_rules.specs.Definition.{Cell}
use Rattle.type_rules.specs.Options.{if_there, ◌>?◌}
use Rattle.type_rules.specs.Types.{Void}
use Rattle.typed_unit.specs.Tables.{type_in, var_in}

pub var_in-is : (o : Option Cell) → var_in o ≡ (o >? λ c. c.var)
var_in-is None = refl
var_in-is (Some c) = refl

pub type_in-is : (o : Option Cell) → type_in o ≡ if_there o Void (λ c. c.ty)
type_in-is None = refl
type_in-is (Some c) = refl

pub ruleset cells = (var_in-is, type_in-is)
