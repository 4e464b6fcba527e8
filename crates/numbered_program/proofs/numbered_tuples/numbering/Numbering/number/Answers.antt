use Rattle.std.proofs.Common.{◌≡◌, ◌+◌, ap, sym, subst, Some}
use Rattle.std.specs.Prelude.{◌↔◌}
use Rattle.std.specs.Option.{option_map_or}
use Rattle.numbered_program.proofs.NumberedTuples.Numbers.{number_exact}
use Rattle.objects.specs.Equality.{same_object, same_object-refl, same_object-true}
use Rattle.row_flows.specs.Numbers.{item_numbered}
use Rattle.numbered_program.proofs.numbered_tuples.numbering.Numbering.number.Goals as goal

pub returns-in-Some-clause-number : goal.returns-in-Some-clause-number
returns-in-Some-clause-number c = ap (λ p. option_map_or (λ i. i + 1) p 0) c.in-Some.ensures.index

pub returns-in-Some-clause-exact : goal.returns-in-Some-clause-exact
returns-in-Some-clause-exact c = λ n h.
    let keys = c.args.self.now.objects.now.keys in
    let o = c.args.object.now in
    subst (λ r. (r ≡ n) ↔ (item_numbered keys n ≡ Some o)) (sym (returns-in-Some-clause-number c)) (number_exact same_object same_object-true same_object-refl keys n o c.are_distinct.ensures h)

pub returns-in-None-clause-number : goal.returns-in-None-clause-number
returns-in-None-clause-number c = ap (λ p. option_map_or (λ i. i + 1) p 0) c.in-None.ensures.index

pub returns-in-None-clause-exact : goal.returns-in-None-clause-exact
returns-in-None-clause-exact c = λ n h.
    let keys = c.args.self.now.objects.now.keys in
    let o = c.args.object.now in
    subst (λ r. (r ≡ n) ↔ (item_numbered keys n ≡ Some o)) (sym (returns-in-None-clause-number c)) (number_exact same_object same_object-true same_object-refl keys n o c.are_distinct.ensures h)
