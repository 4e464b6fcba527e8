use Rattle.relevant.specs.BoundMembers.Bound.{BoundIn}
use Rattle.relevant.proofs.BoundMembers.Binding.{gave-all}
use Rattle.relevant.proofs.bound_members.blocks.add_in_blocks.Goals as goal
use Rattle.least_set.proofs.Growing.{adds_nothing, adds_next}

pub loop-block-init : goal.loop-block-init
loop-block-init c = λ m depth ts d bs are. adds_nothing (BoundIn c.args.sources m depth c.args.number ts d bs) c.args.found.now.items

pub loop-block-preserved : goal.loop-block-preserved
loop-block-preserved c =
    let at = c.loop-block in
    λ m depth ts d bs are. adds_next (BoundIn c.args.sources m depth c.args.number ts d bs) c.args.blocks.now at.block-index 0 c.loop-block-test.true (at.invariant m depth ts d bs are) (c.in_ok-add_in_block.ensures m depth ts d bs are)

pub returns : goal.returns
returns c =
    let at = c.loop-block in
    λ m depth ts d bs are. gave-all (BoundIn c.args.sources m depth c.args.number ts d bs) c.args.blocks.now at.block-index c.args.found.now.items at.found.items c.loop-block-test.false (at.invariant m depth ts d bs are)
