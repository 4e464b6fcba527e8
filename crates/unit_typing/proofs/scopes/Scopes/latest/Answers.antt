use Rattle.std.proofs.Common.{◌∙◌, ap}
use Rattle.std.specs.Option.{option_map}
use Rattle.unit_typing.specs.Views.{name_entry}
use Rattle.unit_typing.proofs.Seen.{latest-seen}
use Rattle.unit_typing.proofs.scopes.Scopes.latest.Goals as goal

pub returns : goal.returns
returns c = ap (option_map name_entry) c.latest.ensures ∙ latest-seen c.args.name c.args.self.now.names
