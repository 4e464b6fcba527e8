use Rattle.std.proofs.Common.{◌≡◌, sym, ap, ◌∙◌, subst, rules}
use Rattle.c_tree.specs.Node.{IterationShape, For}
use Rattle.c_tree.specs.Views.{node_of, option_node, iteration_shape}
use Rattle.root_functions.specs.CallSites.Calls.{nodes_at, with_maybe, with_statement, with_iteration}
use Rattle.root_functions.proofs.call_sites.calls.Calls.+statements.Goals as goal

pub iteration-returns-in_ok-turn-in-For : goal.iteration-returns-in_ok-turn-in-For
iteration-returns-in_ok-turn-in-For g t c =
    let F = g.F.Facts.known c.args.facts.now in
    let part = c.in-For in
    let e : iteration_shape c.args.kind.now ≡ For (option_node part.first) (option_node part.condition) (option_node part.step) (node_of part.body.now) = search rules in
    subst (λ (k : IterationShape). nodes_at c.turn.new.self.found.items ≡ with_iteration F (nodes_at c.args.self.now.found.items) k) (sym e)
    (c.in_ok-turn-in-For.ensures ∙ ap (λ xs. with_statement F (with_maybe (with_maybe xs (option_node part.condition)) (option_node part.step)) (node_of part.body.now)) c.in_ok-maybe-in-For.ensures)
