-- How a name is stored, as the program says it.
use Rattle.type_rules.specs.Specified.{Storage}
use Rattle.type_rules.specs.Specified as stored
use Rattle.unit_typing.specs.declared.storage.Storage as code
use Rattle.unit_typing.specs.declared.storage.Storage.TheVariants as kinds

abbrev pub storage_seen : code.Storage → Storage
storage_seen kinds.Unmarked = stored.Unmarked
storage_seen kinds.Typedef = stored.Typedef
storage_seen kinds.Extern = stored.Extern
storage_seen kinds.Static = stored.Static
