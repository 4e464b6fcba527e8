use Rattle.std.proofs.Common.{◌∙◌, ap, map}
use Rattle.unit_typing.specs.Views.{member_entry}
use Rattle.unit_typing.proofs.Seen.{given-seen}
use Rattle.unit_typing.proofs.scopes.Scopes.given_to.Goals as goal

pub returns : goal.returns
returns c = ap (map member_entry) c.in_ok-found.ensures ∙ given-seen c.args.owner c.args.number c.args.self.now.members.all.items
