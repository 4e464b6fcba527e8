use Rattle.std.proofs.Common.{◌≡◌, [], ◌∷◌, ◌++◌, Some, None, cond, nat_eq, subst, sym, ap, ◌∙◌, refl}
use Rattle.std.specs.Option.{IsSome, option_copied_mut}
use Rattle.indexmap.specs.IndexMap.{get}
use Rattle.flow_graph.specs.Labels.{items_of}
use Rattle.flow_graph.proofs.LabelLists.{pushed, unpushed}
use Rattle.flow_graph.proofs.labels.push_block.Goals as goal

pub returns-in-Some : goal.returns-in-Some
returns-in-Some c =
    let e : get nat_eq c.args.blocks.now c.args.entry.label ≡ Some c.in-Some.known.now = sym c.get_mut.ensures.value ∙ ap option_copied_mut c.in-Some.is in
    let h = c.get_mut.follows.holds c.push.new.self in
    pushed (get nat_eq c.args.blocks.now) (get nat_eq (c.get_mut.follows.lender c.push.new.self)) c.args.entry.label c.args.entry.block c.push.new.self
    (c.in_ok-push.ensures.items ∙ ap (λ o. items_of o ++ c.args.entry.block ∷ []) (sym e))
    ((h.3 (subst IsSome (sym e) refl)).0)
