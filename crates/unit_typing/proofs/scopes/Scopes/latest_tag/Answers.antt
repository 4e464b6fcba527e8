use Rattle.std.proofs.Common.{◌∙◌, ap}
use Rattle.std.specs.Option.{option_map}
use Rattle.unit_typing.specs.Views.{tag_entry}
use Rattle.unit_typing.proofs.Seen.{tag-seen}
use Rattle.unit_typing.proofs.scopes.Scopes.latest_tag.Goals as goal

pub returns : goal.returns
returns c = ap (option_map tag_entry) c.latest.ensures ∙ tag-seen c.args.name c.args.self.now.tags
