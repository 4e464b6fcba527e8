use Rattle.std.proofs.Common.{◌∙◌, ap, sym, map}
use Rattle.std.proofs.lemmas.List.{drop-map}
use Rattle.unit_typing.specs.Views.{name_entry}
use Rattle.unit_typing.proofs.scopes.Scopes.names_behind.Goals as goal

pub returns : goal.returns
returns c = ap (map name_entry) c.behind.ensures ∙ sym (drop-map name_entry c.args.count c.args.self.now.names)
