use Rattle.std.proofs.Common.{◌∙◌, ap}
use Rattle.std.specs.Option.{is_some}
use Rattle.type_rules.specs.Scopes.{is_among}
use Rattle.unit_typing.proofs.Seen.{among-seen}
use Rattle.unit_typing.proofs.statics.Statics.has.Goals as goal

pub returns : goal.returns
returns c = c.is_some.ensures ∙ ap is_some c.position.ensures ∙ among-seen c.args.name c.self.inside.names ∙ ap (is_among c.args.name) c.self.view_is
