use Rattle.std.proofs.Common.{◌≤◌, ◌*◌, ◌∙◌, sym, ap, subst, length, Contains, arith}
use Rattle.std.specs.Prelude.{◌↔◌}
use Rattle.metal_tree.specs.Views.{rule_views}
use Rattle.numbered_program.proofs.NumberedTuples.FewStates.{few_states}
use Rattle.numbered_program.proofs.numbered_tuples.object_states.ObjectStates.new.Goals as goal

pub invariant_of-result : goal.invariant_of-result
invariant_of-result c =
    let rules = rule_views c.args.machine.now.rules.now in
    let named : length c.in_ok-named.named.items ≤ 3 * length rules = subst (λ l. length l ≤ 3 * length rules) (sym c.in_ok-named.ensures) (few_states rules) in
    let kept : length rules ≤ 1000 = c.args.machine.now.kept.limits.rules in
    record { few = omega (arith, c.in_ok-states.ensures.few, named, kept, ap length c.as_slice.ensures.value) }

pub returns : goal.returns
returns c = λ x. subst (λ l. Contains c.in_ok-states.states.keys x ↔ Contains l x) (c.as_slice.ensures.value ∙ c.in_ok-named.ensures) (c.in_ok-states.ensures.same x)
