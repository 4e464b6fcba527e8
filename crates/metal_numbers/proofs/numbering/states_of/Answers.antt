use Rattle.std.proofs.Common.{◌≤◌, ◌++◌, ◌∷◌, [], length, map, take, ap, ◌∙◌, subst, sym}
use Rattle.metal_grammar.specs.Meaning.{states_among}
use Rattle.metal_tree.specs.Parts.{state_names}
use Rattle.metal_written.specs.Written.{state_view}
use Rattle.metal_numbers.proofs.MetalDeclared.InHoles.{map_joined, viewed_more}
use Rattle.metal_numbers.specs.Small.{are_few}
use Rattle.metal_numbers.proofs.FewStates.{few_push, states_few}
use Rattle.metal_numbers.proofs.numbering.states_of.Goals as goal

pub loop-variable-preserved : goal.loop-variable-preserved
loop-variable-preserved c =
    let items = c.loop-variable.states.items in
    let variables = c.args.variables.now in
    let index = c.loop-variable.variable-index in
    let mentioned = c.args.mentioned.now in
    let among = states_among c.args.names.now (map state_view mentioned) in
    let found = c.in_ok-states_among.field-0 in
    let here = c.in_ok-states_among.ensures in
    let few = subst (λ names. length names ≤ 3000) (sym here) (states_few c.args.names.now mentioned _ c.requires) in
    record {
      states =
          ap (map state_names) c.in_ok-push.ensures.items ∙ map_joined state_names items (record { names = found } ∷ [])
          ∙ ap (λ ys. ys ++ (found.now ∷ [])) c.loop-variable.invariant.states
          ∙ ap (λ names. map among (take index variables) ++ (names ∷ [])) here
          ∙ sym (viewed_more among variables index _ c.loop-variable-test.true);
      few = ap are_few c.in_ok-push.ensures.items ∙ few_push items (record { names = found }) c.loop-variable.invariant.few few;
    }
