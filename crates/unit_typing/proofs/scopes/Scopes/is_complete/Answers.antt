use Rattle.std.proofs.Common.{◌∙◌, ap}
use Rattle.std.specs.Option.{is_some}
use Rattle.unit_typing.proofs.Seen.{among-seen}
use Rattle.unit_typing.proofs.scopes.Scopes.is_complete.Goals as goal

pub returns : goal.returns
returns c = c.is_some.ensures ∙ ap is_some c.position.ensures ∙ among-seen c.args.number c.args.self.now.complete
