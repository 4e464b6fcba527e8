use Rattle.std.proofs.Common.{◌≡◌, ◌<◌, ◌≤◌, List, length, get_or, sym, subst}
use Rattle.block_flows.specs.Events.{AreOfEvents}
use Rattle.function_tables.specs.declared.table.BlockTable.{BlockTable}
use Rattle.least_set.proofs.Growing.{adds_nothing}
use Rattle.state_tuples.specs.declared.applied_rules.rules.EventRules.{EventRules}
use Rattle.suffix_summary.proofs.MetStates.StartGifts.{block-next, blocks-all}
use Rattle.suffix_summary.specs.InStart.{GivesInBlock}
use Rattle.suffix_summary.proofs.met_states.start.add_in_function.Goals as goal

pub loop-block-init : goal.loop-block-init
loop-block-init c = λ k ts d bs are. adds_nothing (GivesInBlock k ts d c.args.function) c.args.found.now.items

pub loop-block-preserved : goal.loop-block-preserved
loop-block-preserved c =
    let at = c.loop-block in
    let all = c.args.table.now.blocks.items in
    let same = c.as_slice-block-items.ensures.value in
    let rules = c.as_slice.ensures.value in
    let within = subst (λ (l : List BlockTable). at.block-index < length l) same c.loop-block-test.true in
    let is = subst (λ (l : List BlockTable). c.block-item.result ≡ get_or l at.block-index c.block-item.result) same c.block-item.is in
    λ k ts d bs are.
    block-next k ts c.args.function d bs all are at.block-index c.block-item.result within is (at.invariant k ts d bs are)
    (λ f hs of. c.in_ok-add_in_start.ensures k f hs (subst (λ (l : List EventRules). AreOfEvents k.machine k.depth f hs l) (sym rules) of))

pub returns : goal.returns
returns c =
    let at = c.loop-block in
    let past = subst (λ (l : List BlockTable). length l ≤ at.block-index) c.as_slice-block-items.ensures.value c.loop-block-test.false in
    λ k ts d bs are. blocks-all k ts c.args.function d bs c.args.table.now.blocks.items are at.block-index past (at.invariant k ts d bs are)
