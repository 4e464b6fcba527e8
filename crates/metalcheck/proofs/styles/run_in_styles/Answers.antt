use Rattle.metalcheck.proofs.InFormat.{in_styles, stopped_in_styles}
use Rattle.metalcheck.proofs.styles.run_in_styles.Goals as goal

pub returns-in_default : goal.returns-in_default
returns-in_default g c = stopped_in_styles _ _ _ _ _ _ _ _ _ _ _ _

pub returns-in_default-list_of : goal.returns-in_default-list_of
returns-in_default-list_of g c = stopped_in_styles _ _ _ _ _ _ _ _ _ _ _ _

pub returns : goal.returns
returns g c = let promise = in_styles _ _ _ _ c.run.ensures c.in-Ok-list_of.ensures in promise
