use Rattle.std.proofs.Common.{◌≡◌, ◌≤◌, ◌<◌, ◌∙◌, Some, None, length, slice_get, sym, ap, arith}
use Rattle.std.proofs.lemmas.Grind.{common_steps}
use Rattle.flow_graph.specs.Seen.{graph_in}
use Rattle.numbered_engine.specs.declared.program.Block.{Block}
use Rattle.numbered_program.proofs.KnownBlocks.{blocks_all, blocks_more}
use Rattle.numbered_program.proofs.ListSteps.{length_of_more}
use Rattle.numbered_program.specs.Views.{swapped}
use Rattle.numbered_program.proofs.blocks.all_blocks.Goals as goal

none_yet : (r : Block) → None ≡ Some r → ⊥
none_yet r e = cc

pub loop-number-init : goal.loop-number-init
loop-number-init c = record {
  made = λ states f i b r e. absurd (none_yet r (sym (ap (λ l. slice_get l b) c.in_ok-blocks.ensures.items) ∙ e));
  count = ap length c.in_ok-blocks.ensures.items;
  within = omega arith;
}

pub loop-number-preserved : goal.loop-number-preserved
loop-number-preserved c =
    let at = c.loop-number in
    let blocks = (graph_in c.args.source.now.table.now.graph.now).blocks in
    let further : at.number < length blocks = grind (arith, common_steps) in
    record {
      made = λ states f i.
          blocks_more states c.args.source.now f i at.number c.swapped.result c.in_ok-block.block at.blocks.items c.push.new.self.items further
          (c.swapped.ensures ∙ ap (λ b. swapped b at.number) c.entry.ensures.number) (c.in_ok-block.ensures states f i) at.invariant.count c.in_ok-push.ensures.items (at.invariant.made states f i);
      count = length_of_more at.blocks.items c.push.new.self.items c.in_ok-block.block at.number c.in_ok-push.ensures.items at.invariant.count;
      within = grind (arith, further);
    }

pub returns : goal.returns
returns c = λ states f i.
    let at = c.loop-number in
    let all : length (graph_in c.args.source.now.table.now.graph.now).blocks ≤ at.number = grind (arith, common_steps) in
    blocks_all states c.args.source.now f i at.number at.blocks.items all at.invariant.count (at.invariant.made states f i)
