use Rattle.c_tree.proofs.PathSubjects.Places.{at_first}
use Rattle.c_tree.proofs.path_subjects.theorems.trees_stand_at_their_first_tokens.Goals as goal

pub returns : goal.returns
returns c n h = at_first n h
