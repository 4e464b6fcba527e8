-- The names that are declared static.
use Rattle.std.specs.Prelude.{ℕ, List, [], ◌∷◌, ◌++◌, false, cond}
use Rattle.type_rules.specs.Functions.{is_file_static}
use Rattle.type_rules.specs.Options.{if_there}
use Rattle.type_rules.specs.Scopes.{Entry}

abbrev pub static_name : Entry → List ℕ
static_name k = cond (if_there k.var false is_file_static) (k.name ∷ []) []

abbrev pub statics_in : List Entry → List ℕ
statics_in [] = []
statics_in (k ∷ ks) = static_name k ++ statics_in ks
