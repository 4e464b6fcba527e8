use Rattle.std.proofs.Common.{ap, ◌∙◌, arith, slice_index_or}
use Rattle.metal_grammar.specs.Meaning.{number_in}
use Rattle.metal_tree.specs.Parts.{state_names}
use Rattle.metal_numbers.proofs.FewStates.{state_fits}
use Rattle.metal_numbers.proofs.States.{state_at, state_within}
use Rattle.metal_numbers.proofs.numbers.Numbering.state.Goals as goal

pub overflow_cast-result : goal.overflow_cast-result
overflow_cast-result c =
    let low = state_fits c.args.self.now c.number_in-number.result c.number_in.result _ c.if-number-self.true c.number_in.ensures.within in
    omega (arith, low)

pub returns-then-number-self : goal.returns-then-number-self
returns-then-number-self c =
    let at = state_at c.args.names.now c.args.self.now c.args.variable _ c.requires.numbering c.requires.variable in
    c.number_in.ensures.number
    ∙ ap (λ k. number_in (state_names (slice_index_or c.args.self.now.states.now k _)) c.args.name) c.number_in-number.ensures.number
    ∙ ap (λ xs. number_in xs c.args.name) at

pub returns-else-number-self : goal.returns-else-number-self
returns-else-number-self c =
    let below = state_within c.args.names.now c.args.self.now c.args.variable c.requires.numbering c.requires.variable in
    let over = c.if-number-self.false in
    let same = c.number_in-number.ensures.number in
    absurd (omega (arith, below, over, same))
