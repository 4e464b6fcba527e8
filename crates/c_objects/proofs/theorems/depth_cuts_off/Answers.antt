use Rattle.c_objects.proofs.Cuts.{object-cut}
use Rattle.c_objects.proofs.theorems.depth_cuts_off.Goals as goal

pub returns : goal.returns
returns c u depth more e m = object-cut u depth more e m
