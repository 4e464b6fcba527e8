use Rattle.std.proofs.Common.{◌≡◌, ap, ◌∙◌}
use Rattle.c_tree.specs.Views.{node_of}
use Rattle.root_functions.specs.CallSites.Calls.{calls_of, nodes_at, with_statement}
use Rattle.root_functions.proofs.CallSites.Evaluated.{found_in_body}
use Rattle.root_functions.proofs.call_sites.bodies.calls_in.Goals as goal

pub returns-clause-evaluated : goal.returns-clause-evaluated
returns-clause-evaluated g c f n known =
    let F = g.F.Facts.known c.args.facts.now in
    let body = node_of c.args.body.now in
    let calls = nodes_at c.statement.new.self.found.items in
    let e : calls ≡ calls_of F body = c.in_ok-statement.ensures ∙ ap (λ xs. with_statement F xs body) c.new-calls.ensures in
    found_in_body F body calls e f n known
