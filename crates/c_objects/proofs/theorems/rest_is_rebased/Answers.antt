use Rattle.c_objects.proofs.Begins.{rest-rebased}
use Rattle.c_objects.proofs.theorems.rest_is_rebased.Goals as goal

pub returns : goal.returns
returns c depth base ps r a = rest-rebased depth base ps r a
