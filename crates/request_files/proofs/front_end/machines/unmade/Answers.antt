use Rattle.std.proofs.Common.{ap}
use Rattle.request_files.specs.FrontEnd.Refusals.{refused_rule}
use Rattle.request_files.proofs.front_end.machines.unmade.Goals as goal

pub at_rule-requires : goal.at_rule-requires
at_rule-requires c = record { text = c.requires.text c.in-TwoVariables.rule (ap refused_rule c.in-TwoVariables.is) }

pub at_rule-requires-in-BadSplit : goal.at_rule-requires-in-BadSplit
at_rule-requires-in-BadSplit c = record { text = c.requires.text c.in-BadSplit.rule (ap refused_rule c.in-BadSplit.is) }

pub at_rule-requires-in-BadSource : goal.at_rule-requires-in-BadSource
at_rule-requires-in-BadSource c = record { text = c.requires.text c.in-BadSource.rule (ap refused_rule c.in-BadSource.is) }

pub at_rule-requires-in-VariableMissing : goal.at_rule-requires-in-VariableMissing
at_rule-requires-in-VariableMissing c = record { text = c.requires.text c.in-VariableMissing.rule (ap refused_rule c.in-VariableMissing.is) }

pub at_rule-requires-in-BadFormat : goal.at_rule-requires-in-BadFormat
at_rule-requires-in-BadFormat c = record { text = c.requires.text c.in-BadFormat.rule (ap refused_rule c.in-BadFormat.is) }
