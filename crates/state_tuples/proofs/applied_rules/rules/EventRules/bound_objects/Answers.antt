use Rattle.state_tuples.proofs.AppliedRules.OfEvents.{all_bound}
use Rattle.state_tuples.proofs.applied_rules.rules.EventRules.bound_objects.Goals as goal

pub returns : goal.returns
returns c = all_bound c.args.self.now c.args.sources c.as_slice.result.now c.bound_by.result c.as_slice.ensures.value c.bound_by.ensures
