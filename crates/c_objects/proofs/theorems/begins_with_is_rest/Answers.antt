use Rattle.c_objects.proofs.Begins.{begins-rest, rest-begins}
use Rattle.c_objects.proofs.theorems.begins_with_is_rest.Goals as goal

pub returns : goal.returns
returns c o base ps = (begins-rest o base ps, λ h. rest-begins o base ps h.0 h.1)
