use Rattle.std.proofs.Common.{◌≡◌, [], ◌∷◌, refl}
use Rattle.flow_graph.specs.CPaths.Graphs.{ToAny}
use Rattle.flow_graph.specs.Values.{ending_of}
use Rattle.flow_graph.proofs.TakenOver.{next_is}
use Rattle.flow_graph.proofs.joining.next_of.Goals as goal

pub returns-clause-next : goal.returns-clause-next
returns-clause-next c =
    let x = c.index-blocks-number.result in
    let y = c.index-blocks-next.result in
    let leads : ending_of x.end ≡ ToAny (c.in_ok-next.field-0 ∷ []) = cc (c.in_ok-next.ensures) in
    next_is c.args.blocks.now c.args.number c.in_ok-next.field-0 x y c.requires c.if-next-blocks.false c.index-blocks-number.is c.index-blocks-next.is leads (λ e. c.if-stops.ensures refl (cc))
