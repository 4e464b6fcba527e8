use Rattle.std.proofs.Common.{◌≤◌, length, subst, sym}
use Rattle.metal_numbers.proofs.FewStates.{globals_few, mentioned_few, small_made}
use Rattle.metal_numbers.proofs.numbering.numbering_of.Goals as goal

pub states_of-requires : goal.states_of-requires
states_of-requires c = mentioned_few c.in_ok-mentioned.mentioned.now c.args.rules.now c.in_ok-mentioned.ensures c.requires.rules

pub invariant_of-result : goal.invariant_of-result
invariant_of-result c =
    let mentioned = c.in_ok-mentioned.mentioned.now in
    let few = mentioned_few mentioned c.args.rules.now c.in_ok-mentioned.ensures c.requires.rules in
    let globals = subst (λ found. length found ≤ 3000) (sym c.in_ok-globals_among.ensures) (globals_few c.args.names.now mentioned few) in
    record { small = small_made c.args.holes.now c.in_ok-globals_among.field-0.now c.in_ok-states_of.field-0.now c.requires.holes globals c.in_ok-states_of.ensures.few }
