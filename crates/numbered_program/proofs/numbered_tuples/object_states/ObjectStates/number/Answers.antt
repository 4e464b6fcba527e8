use Rattle.std.proofs.Common.{◌≡◌, ◌+◌, ap, sym, subst, Some}
use Rattle.std.specs.Prelude.{◌↔◌}
use Rattle.std.specs.Option.{option_map_or}
use Rattle.numbered_program.proofs.NumberedTuples.Numbers.{number_exact}
use Rattle.numbered_program.proofs.NumberedTuples.FewStates.{same_state, state_itself}
use Rattle.row_flows.specs.Numbers.{item_numbered}
use Rattle.state_tuples.specs.Ways.Equality.{states_agree}
use Rattle.numbered_program.proofs.numbered_tuples.object_states.ObjectStates.number.Goals as goal

pub returns-in-Some-clause-number : goal.returns-in-Some-clause-number
returns-in-Some-clause-number c = ap (λ p. option_map_or (λ i. i + 1) p 0) c.in-Some.ensures.index

pub returns-in-Some-clause-exact : goal.returns-in-Some-clause-exact
returns-in-Some-clause-exact c = λ n h.
    let keys = c.args.self.now.states.keys in
    subst (λ r. (r ≡ n) ↔ (item_numbered keys n ≡ Some c.args.state)) (sym (returns-in-Some-clause-number c)) (number_exact states_agree same_state state_itself keys n c.args.state c.are_distinct.ensures h)

pub returns-in-None-clause-number : goal.returns-in-None-clause-number
returns-in-None-clause-number c = ap (λ p. option_map_or (λ i. i + 1) p 0) c.in-None.ensures.index

pub returns-in-None-clause-exact : goal.returns-in-None-clause-exact
returns-in-None-clause-exact c = λ n h.
    let keys = c.args.self.now.states.keys in
    subst (λ r. (r ≡ n) ↔ (item_numbered keys n ≡ Some c.args.state)) (sym (returns-in-None-clause-number c)) (number_exact states_agree same_state state_itself keys n c.args.state c.are_distinct.ensures h)
