use Rattle.numbered_program.proofs.NumberedTuples.TupleNumbers.{number_of_none, number_of_found}
use Rattle.numbered_program.proofs.numbered_tuples.numbering.Numbering.number_if_any.Goals as goal

pub returns-in-Some : goal.returns-in-Some
returns-in-Some c = rw c.in-Some.is (number_of_found c.args.self.now.objects.now.keys _ c.number.result _ c.if_numbered.ensures c.number.ensures.within c.number.ensures.exact)

pub returns-in-None : goal.returns-in-None
returns-in-None c = rw c.in-None.is (number_of_none c.args.self.now.objects.now.keys)
