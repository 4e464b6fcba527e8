use Rattle.std.proofs.Common.{◌≡◌, ◌∙◌, true, false, ap, sym}
use Rattle.c_tree.specs.Node.{node, Primary, Ident, Paren}
use Rattle.c_tree.specs.Views.{node_of, nodes_of, shape_of, primary_shape}
use Rattle.type_values.specs.Types.{ctype_of}
use Rattle.call_graph.proofs.OfPrograms.Placed.{name-kept, named-placed, paren-placed}
use Rattle.call_graph.proofs.programs.callees.+function_named.Goals as goal

pub returns-then-is_function-clause-placed : goal.returns-then-is_function-clause-placed
returns-then-is_function-clause-placed t c v r h =
    let e = node_of c.args.callee.now in
    let i = c.args.callee.now.id in
    let p = c.args.callee.now.first in
    let name = c.in-Ident.name.now in
    let k : e ≡ node i p (Primary (Ident name)) = ap (λ k. node i p (shape_of k)) c.in-Primary.is ∙ ap (λ k. node i p (Primary (primary_shape k))) c.in-Ident.is in
    named-placed v r e i p name (ctype_of c.ty.result.now) true k
    (c.ty.ensures.placed v r (record { stands = h; kept = name-kept v r e i p name k })) (sym c.if-is_function.true ∙ c.is_function.ensures)

pub returns-else-is_function-clause-placed : goal.returns-else-is_function-clause-placed
returns-else-is_function-clause-placed t c v r h =
    let e = node_of c.args.callee.now in
    let i = c.args.callee.now.id in
    let p = c.args.callee.now.first in
    let name = c.in-Ident.name.now in
    let k : e ≡ node i p (Primary (Ident name)) = ap (λ k. node i p (shape_of k)) c.in-Primary.is ∙ ap (λ k. node i p (Primary (primary_shape k))) c.in-Ident.is in
    named-placed v r e i p name (ctype_of c.ty.result.now) false k
    (c.ty.ensures.placed v r (record { stands = h; kept = name-kept v r e i p name k })) (sym c.if-is_function.false ∙ c.is_function.ensures)

pub returns-in-Paren-clause-placed : goal.returns-in-Paren-clause-placed
returns-in-Paren-clause-placed t c v r h =
    let e = node_of c.args.callee.now in
    let i = c.args.callee.now.id in
    let p = c.args.callee.now.first in
    let inner = node_of c.in-Paren.inner.now in
    let k : e ≡ node i p (Primary (Paren inner)) = ap (λ k. node i p (shape_of k)) c.in-Primary.is ∙ ap (λ k. node i p (Primary (primary_shape k))) c.in-Paren.is in
    paren-placed (nodes_of c.args.unit.now.unit.chunks) v r e i p inner c.function_named.result c.parts_stand_by_case.ensures k c.function_named.ensures.placed h
