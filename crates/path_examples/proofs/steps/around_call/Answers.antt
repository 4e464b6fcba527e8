use Rattle.std.proofs.Common.{subst}
use Rattle.path_examples.specs.Steps.{EndsWith}
use Rattle.path_examples.proofs.EngineSteps.{goes_around}
use Rattle.path_examples.proofs.steps.around_call.Goals as goal

pub returns-in-Some-clause-behind : goal.returns-in-Some-clause-behind
returns-in-Some-clause-behind c =
    goes_around c.args.site c.args.at_call.interrupts c.in-Some.interrupts c.args.at_call.variable c.args.at_call.state c.requires.is_saved
    (subst (EndsWith c.args.site c.args.at_call.interrupts) c.in-Some.is c.requires.callee)
