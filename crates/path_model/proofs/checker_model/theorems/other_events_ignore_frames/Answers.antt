use Rattle.path_model.proofs.CheckerModel.Laws.{ignores}
use Rattle.path_model.proofs.checker_model.theorems.other_events_ignore_frames.Goals as goal

pub returns : goal.returns
returns c = ignores
