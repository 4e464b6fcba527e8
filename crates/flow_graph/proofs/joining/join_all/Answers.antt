use Rattle.std.proofs.Common.{◌≡◌, Vec, Global, List, length, ap, sym, subst}
use Rattle.flow_graph.specs.declared.graph.Block.{Block}
use Rattle.flow_graph.specs.Values.{blocks_of}
use Rattle.flow_graph.specs.Joins.{IsJoined}
use Rattle.flow_graph.proofs.TakenOver.{chain_joined}
use Rattle.flow_graph.proofs.joining.join_all.Goals as goal
use Rattle.flow_graph.proofs.joining.join_all.Goals.{then-not-index+in_ok-join_chain, else-not-index}

pub loop-number-preserved : goal.loop-number-preserved
loop-number-preserved c =
    let at = c.loop-number in
    let counted = c.in_ok-taken.taken.items in
    elim c.if-not-index.branch [
      | then-not-index+in_ok-join_chain w ↦
          let is : c.if-not-index.blocks.items ≡ w.join_chain.new.blocks.items = ap (λ (v : Vec Block Global). v.items) w.blocks-is in
          let both = chain_joined c.args.blocks.now.items at.blocks.items c.if-not-index.blocks.items (length counted) at.invariant.same at.invariant.joined
          (subst (λ (bs : List Block). IsJoined (blocks_of at.blocks.items) (blocks_of bs)) (sym is) w.in_ok-join_chain.ensures) in
          record { same = both.0; joined = both.1 }
      | else-not-index w ↦
          let is : at.blocks.items ≡ c.if-not-index.blocks.items = sym (ap (λ (v : Vec Block Global). v.items) w.blocks-is) in record {
            same = subst (λ (bs : List Block). length counted ≡ length bs) is at.invariant.same;
            joined = subst (λ (bs : List Block). IsJoined (blocks_of c.args.blocks.now.items) (blocks_of bs)) is at.invariant.joined;
          }
    ]
