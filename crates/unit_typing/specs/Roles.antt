-- The role that a role of the program is.
use Rattle.type_rules.specs.Roles.{Role}
use Rattle.type_rules.specs.Roles as held
use Rattle.type_values.specs.Types.{ctype_of}
use Rattle.unit_typing.specs.declared.roles.Role as code
use Rattle.unit_typing.specs.declared.roles.Role.TheVariants as roles
use Rattle.unit_typing.specs.Storage.{storage_seen}

abbrev pub role_of : code.Role → Role
role_of roles.Plain = held.Plain
role_of roles.Callee = held.Callee
role_of roles.Alone = held.Alone
role_of (roles.Declares storage ty) = held.Declares (storage_seen storage) (ctype_of ty)
role_of (roles.Defines storage ty) = held.Defines (storage_seen storage) (ctype_of ty)
role_of (roles.Formal ty) = held.Formal (ctype_of ty)
role_of (roles.Member owner ty) = held.Member owner (ctype_of ty)
role_of (roles.Inside owner) = held.Inside owner
role_of roles.Formals = held.Formals
role_of roles.Body = held.Body
