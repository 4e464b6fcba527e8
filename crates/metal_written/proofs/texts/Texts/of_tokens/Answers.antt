use Rattle.std.proofs.Common.{arith, refl, ◌∙◌}
use Rattle.mx_base.proofs.NameLaws.{adds_none, adds_both, length_adds}
use Rattle.metal_written.proofs.InTexts.{first-grows, first-next, first-all, below-at, below-grows, strings-next, strings-all}
use Rattle.metal_written.proofs.texts.Texts.of_tokens.Goals as goal

pub loop-token-init : goal.loop-token-init
loop-token-init c = record { right = c.new-texts.ensures c.args.names.now; adds = adds_none c.args.names.now 0; distinct = c.len-count.ensures.distinct; known = tt; named = refl }

pub add_token-requires-clause-below : goal.add_token-requires-clause-below
add_token-requires-clause-below c =
    let l = c.loop-token in
    below-at _ c.args.tokens.now l.token-index _ (omega arith) (below-grows _ _ c.args.tokens.now (length_adds _ _ _ l.invariant.adds).0 c.requires.below)

pub loop-token-preserved : goal.loop-token-preserved
loop-token-preserved c =
    let l = c.loop-token in
    let below = below-grows _ _ c.args.tokens.now (length_adds _ _ _ l.invariant.adds).0 c.requires.below in
    record {
      right = c.in_ok-add_token.ensures.right;
      adds = adds_both _ _ _ l.token-index 1 l.invariant.adds c.in_ok-add_token.ensures.adds;
      distinct = c.in_ok-add_token.ensures.distinct;
      known = first-next _ c.args.tokens.now l.token-index _ (omega arith) (first-grows _ _ 1 l.token-index c.args.tokens.now c.in_ok-add_token.ensures.adds below l.invariant.known) c.in_ok-add_token.ensures.known;
      named = strings-next _ _ _ c.args.tokens.now l.token-index _ (omega arith) l.invariant.named c.in_ok-add_token.ensures.named;
    }

pub returns-clause-known : goal.returns-clause-known
returns-clause-known c = first-all _ c.args.tokens.now c.loop-token.token-index (omega arith) c.loop-token.invariant.known

pub returns-clause-named : goal.returns-clause-named
returns-clause-named c = c.loop-token.invariant.named ∙ strings-all _ c.args.tokens.now c.loop-token.token-index (omega arith)
