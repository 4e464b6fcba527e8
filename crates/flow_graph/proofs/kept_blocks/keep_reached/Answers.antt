use Rattle.std.proofs.Common.{◌≡◌, ◌∷◌, [], ℕ, List, length, map, ap, ◌∙◌, subst}
use Rattle.flow_graph.specs.KeptBlocks.{HaveNumbers, renumbered}
use Rattle.flow_graph.specs.Seen.{graph_in}
use Rattle.flow_graph.specs.Targets.{target_of}
use Rattle.flow_graph.specs.Values.{blocks_of}
use Rattle.flow_graph.proofs.ReachedBlocks.NewNumbers.{kept_graph}
use Rattle.flow_graph.proofs.kept_blocks.keep_reached.Goals as goal

pub returns : goal.returns
returns c =
    let g = graph_in c.args.graph.now in
    let kept = c.in_ok-kept.kept.items in
    let numbers = c.in_ok-numbers.numbers.items in
    let counted : HaveNumbers (length kept) kept c.count.result numbers = subst (λ (ks : List ℕ). HaveNumbers (length ks) ks c.count.result numbers) c.as_slice.ensures.value c.in_ok-numbers.ensures in
    let have : HaveNumbers (length kept) kept (length g.blocks) numbers = subst (λ n. HaveNumbers (length kept) kept n numbers) c.count.ensures counted in
    let made : blocks_of c.in_ok-blocks.blocks.items ≡ map (renumbered (target_of numbers) g.blocks) kept
    = c.in_ok-blocks.ensures
    ∙ ap (λ (ns : List ℕ). map (renumbered (target_of ns) g.blocks) c.as_slice-3.result.now) c.as_slice-2.ensures.value
    ∙ ap (map (renumbered (target_of numbers) g.blocks)) c.as_slice-3.ensures.value in
    let begins : c.target_of-entry.result ≡ target_of numbers g.entry
    = c.target_of-entry.ensures ∙ ap (λ (ns : List ℕ). target_of ns c.entry.result) c.as_slice-4.ensures.value ∙ ap (target_of numbers) c.entry.ensures.number in
    let new = graph_in c.new.result in
    let stands = kept_graph g kept numbers new have c.in_ok-kept.ensures (c.new.ensures.blocks ∙ made) (c.new.ensures.begins ∙ begins) in
    record { replaces = λ sound. (stands sound).0; reached = λ sound. (stands sound).1 }
