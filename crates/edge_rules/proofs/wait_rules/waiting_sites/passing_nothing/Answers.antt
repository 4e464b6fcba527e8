use Rattle.std.proofs.Common.{◌≤◌, subst}
use Rattle.edge_rules.proofs.WaitRules.FoundCalls.{past-functions}
use Rattle.edge_rules.proofs.wait_rules.waiting_sites.passing_nothing.Goals as goal

pub returns-then-function-count-clause-missing : goal.returns-then-function-count-clause-missing
returns-then-function-count-clause-missing c e = past-functions c.args.tables.now c.args.function (subst (λ m. m ≤ c.args.function) c.count.ensures c.if-function-count.true)
