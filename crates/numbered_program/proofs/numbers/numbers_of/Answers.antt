use Rattle.std.proofs.Common.{ap}
use Rattle.least_set.proofs.Growing.{once}
use Rattle.objects.specs.Equality.{same_object, same_object-refl}
use Rattle.numbered_program.proofs.numbers.numbers_of.Goals as goal

pub returns : goal.returns
returns c = record {
  follows = ap (λ os. os.keys) c.in-Some.ensures.objects;
  named = ap (λ states. states.states.keys) c.in-Some.ensures.states;
  index = c.in_ok-index.ensures;
  once = once same_object same_object-refl c.args.objects.now.keys c.len-count.ensures.unique;
}
