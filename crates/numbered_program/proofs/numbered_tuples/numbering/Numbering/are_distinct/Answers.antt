use Rattle.least_set.proofs.Growing.{once}
use Rattle.objects.specs.Equality.{same_object, same_object-refl}
use Rattle.numbered_program.proofs.numbered_tuples.numbering.Numbering.are_distinct.Goals as goal

pub returns : goal.returns
returns c = once same_object same_object-refl c.args.self.now.objects.now.keys c.len-count.ensures.unique
