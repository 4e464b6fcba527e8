use Rattle.std.proofs.Common.{◌∙◌, ap}
use Rattle.path_model.specs.CheckerModel.Reports.{first_token}
use Rattle.hole_matching.specs.Message.{from_place}
use Rattle.state_tuples.proofs.TransitionReports.Numbered.{first_is}
use Rattle.state_tuples.proofs.transition_reports.places.token_of.Goals as goal

pub returns : goal.returns
returns c =
    c.first.ensures.value
    ∙ first_is c.from_place.result.now
    ∙ ap first_token c.from_place.ensures
    ∙ ap (λ p. first_token (from_place p c.args.unit.now.unit.tokens.now)) c.event_place.ensures
