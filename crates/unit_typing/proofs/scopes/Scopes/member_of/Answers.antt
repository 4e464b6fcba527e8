use Rattle.std.proofs.Common.{◌∙◌, ap}
use Rattle.std.specs.Option.{option_map}
use Rattle.unit_typing.specs.Views.{member_entry}
use Rattle.unit_typing.proofs.Seen.{member-seen}
use Rattle.unit_typing.proofs.scopes.Scopes.member_of.Goals as goal

pub returns : goal.returns
returns c = ap (option_map member_entry) c.first_named.ensures ∙ member-seen c.args.owner c.args.name c.args.self.now.members.all.items
