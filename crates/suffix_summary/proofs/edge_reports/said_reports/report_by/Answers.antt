use Rattle.std.proofs.Common.{◌∙◌, refl, sym, true≢false}
use Rattle.state_tuples.specs.RuleChoices.Values.{taken_of}
use Rattle.suffix_summary.proofs.edge_reports.said_reports.report_by.Goals as goal

pub returns-then-not-has_rule : goal.returns-then-not-has_rule
returns-then-not-has_rule c depth f r = absurd (true≢false (sym (c.has_rule.ensures.all r.low r.high) ∙ c.if-not-has_rule.true))

pub returns : goal.returns
returns c depth f r = c.report_of.ensures depth f (taken_of c.args.fired.now) (record { rule = r.found; binding = refl })
