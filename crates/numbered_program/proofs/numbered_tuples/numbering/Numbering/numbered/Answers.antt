use Rattle.std.proofs.Common.{◌≡◌, sym, subst, Some}
use Rattle.std.specs.Prelude.{◌↔◌}
use Rattle.numbered_program.proofs.NumberedTuples.TupleNumbers.{exactly_numbered}
use Rattle.numbered_program.specs.NumberedTuples.Tuples.{IsNumbered, tuple_at}
use Rattle.numbered_program.proofs.numbered_tuples.numbering.Numbering.numbered.Goals as goal

pub returns : goal.returns
returns c = λ t.
    let objects = c.args.self.now.objects.now.keys in
    let states = c.args.self.now.states.now.states.keys in
    let u = c.args.tuple.now in
    subst (λ r. (r ≡ Some t) ↔ (IsNumbered objects states t × (tuple_at objects states t ≡ u))) (sym c.numbers_with.ensures)
    (exactly_numbered objects states u c.number_if_any-object.result c.number_if_any-state.result c.number_if_any-object.ensures c.number_if_any-state.ensures t)
