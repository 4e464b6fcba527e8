use Rattle.std.proofs.Common.{◌∙◌, ap, drop, sym, List, ◌+◌}
use Rattle.std.proofs.lemmas.List.{at_drop_more}
use Rattle.c_tree.specs.Symbol.{symbols_of}
use Rattle.c_tree.specs.declared.token.Token.{Token}
use Rattle.tree_laws.specs.Ways.After.{after_symbols, rest_of}
use Rattle.tree_laws.proofs.tree_yields.leading.after_tokens.Goals as goal

pub loop-token-preserved : goal.loop-token-preserved
loop-token-preserved c =
    let front = c.args.front.now in
    let i = c.loop-token.token-index in
    ap (after_symbols (symbols_of (drop (i + 1) front))) c.after_token-rest.ensures
    ∙ sym (at_drop_more (λ (l : List Token). after_symbols (symbols_of l) (rest_of c.loop-token.rest)) front i _ c.loop-token-test.true)
    ∙ c.loop-token.invariant
