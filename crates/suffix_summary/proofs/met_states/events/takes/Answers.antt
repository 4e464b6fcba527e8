use Rattle.std.proofs.Common.{◌∙◌, ap}
use Rattle.std.specs.Prelude.{is_some}
use Rattle.suffix_summary.proofs.MetStates.Gifts.{some-mapped}
use Rattle.state_tuples.specs.RuleChoices.Values.{taken_of}
use Rattle.suffix_summary.proofs.met_states.events.takes.Goals as goal

pub returns : goal.returns
returns c = λ k f h is. c.is_some.ensures ∙ some-mapped (λ t. taken_of t.now) c.taken.result ∙ ap is_some (c.taken.ensures.taken k.machine k.depth h f is)
