use Rattle.std.proofs.Common.{◌≡◌, ℕ, ◌≤◌, List, [], ◌++◌, refl, sym, ap, ◌∙◌, subst, arith, rules}
use Rattle.std.specs.Prelude.{not}
use Rattle.c_tree.specs.Node.{Nodes, IterationShape, For, ForDeclaration}
use Rattle.c_tree.specs.Views.{node_of, option_node, iteration_shape}
use Rattle.flow_graph.specs.CPaths.Forms.{done, operand}
use Rattle.flow_graph.specs.CPaths.Listing.{if_so}
use Rattle.flow_graph.specs.CPaths.TreeForms.{form_of}
use Rattle.flow_graph.specs.CPaths.TreeFlow.{maybe_row, maybe_form, declaration_row, flow_of, iteration_flow, flows_of}
use Rattle.flow_graph.specs.CPaths.Building.{Made, row_blocks, flow_blocks}
use Rattle.flow_graph.specs.declared.statements.BodyBuilder.{BodyBuilder}
use Rattle.flow_graph.specs.Values.{drafts_of, made}
use Rattle.flow_graph.specs.Defaults.{silent, nowhere}
use Rattle.flow_graph.specs.Statements.{IsPlaced, blocks_ahead, rows_ahead}
use Rattle.flow_graph.proofs.Loops.{head_within, first_placed}
use Rattle.flow_graph.proofs.Placing.{switch_placed}
use Rattle.flow_graph.proofs.SameDefaults.{same_default}
use Rattle.flow_graph.proofs.Turns.{nodes_all}
use Rattle.flow_graph.proofs.statements.BodyBuilder.+statements.Goals as goal

pub for_turn-test-requires : goal.for_turn-test-requires
for_turn-test-requires g t c =
    let F = g.F.Facts.known c.args.facts.now in
    let s = flow_of F c.args.function (node_of c.args.body.now) in
    let u = maybe_row F (option_node c.args.step) in
    let next = c.args.ahead.next in
    head_within s u next c.in_ok-head.head (drafts_of c.args.self.now.blocks.drafts.items) c.statement.new.self.blocks.drafts.items
    (ap (λ (m : Made). m.block) c.in_ok-head.ensures)
    (c.in_ok-inside.ensures.drafts
    ∙ ap (λ (m : Made). (flow_blocks s m.block next m.block m.drafts).drafts) (c.in_ok-last.ensures ∙ ap (λ (m : Made). row_blocks u m.block m.drafts) c.in_ok-head.ensures))

pub turn-test-requires : goal.turn-test-requires
turn-test-requires g t c =
    let s = flow_of (g.F.Facts.known c.args.facts.now) c.args.function (node_of c.args.body.now) in
    let next = c.args.ahead.next in
    head_within s done next c.in_ok-head.head (drafts_of c.args.self.now.blocks.drafts.items) c.statement.new.self.blocks.drafts.items
    (ap (λ (m : Made). m.block) c.in_ok-head.ensures)
    (c.in_ok-inside.ensures.drafts ∙ ap (λ (m : Made). (flow_blocks s m.block next m.block m.drafts).drafts) c.in_ok-head.ensures)

pub items-returns : goal.items-returns
items-returns g t c =
    let at = c.loop-left in
    let at_start : at.left ≤ 0 = omega arith in
    subst (λ (ns : Nodes). IsPlaced c.args.self.now at.self c.args.cases.now.items at.cases.items at.first (rows_ahead (flows_of (g.F.Facts.known c.args.facts.now) c.args.function ns) c.args.ahead (drafts_of c.args.self.now.blocks.drafts.items)))
    (nodes_all c.args.trees.now at.left at_start)
    at.invariant.placed

pub iteration-returns-in_ok-b-in-For : goal.iteration-returns-in_ok-b-in-For
iteration-returns-in_ok-b-in-For g t c =
    let F = g.F.Facts.known c.args.facts.now in
    let f = c.args.function in
    let ds = drafts_of c.args.self.now.blocks.drafts.items in
    let last : BodyBuilder = record { blocks = c.maybe_value.new.self; labels = c.for_turn.new.self.labels } in
    let b = c.in_ok-b-in-For.b in
    let e : iteration_shape c.args.kind.now ≡ For (option_node c.in-For.first) (option_node c.in-For.condition) (option_node c.in-For.step) (node_of c.in-For.body.now) = search rules in
    subst (λ (k : IterationShape). IsPlaced c.args.self.now last c.args.cases.now.items c.for_turn.new.cases.items b (blocks_ahead (iteration_flow F f k) c.args.ahead ds)) (sym e)
    (first_placed c.args.self.now c.for_turn.new.self last c.args.cases.now.items c.for_turn.new.cases.items (maybe_row F (option_node c.in-For.first)) (maybe_row F (option_node c.in-For.step)) (maybe_form F (option_node c.in-For.condition)) (flow_of F f (node_of c.in-For.body.now))
    c.args.ahead.next c.args.ahead.at_break c.args.ahead.at_continue c.in_ok-head-in-For.head b ds c.in_ok-head-in-For.ensures c.in_ok-b-in-For.ensures refl)

pub iteration-returns-in_ok-b-in-ForDeclaration : goal.iteration-returns-in_ok-b-in-ForDeclaration
iteration-returns-in_ok-b-in-ForDeclaration g t c =
    let F = g.F.Facts.known c.args.facts.now in
    let f = c.args.function in
    let ds = drafts_of c.args.self.now.blocks.drafts.items in
    let turn = c.for_turn-in-ForDeclaration in
    let part = c.in-ForDeclaration in
    let last : BodyBuilder = record { blocks = c.declaration.new.self; labels = turn.new.self.labels } in
    let b = c.in_ok-b-in-ForDeclaration.b in
    let e : iteration_shape c.args.kind.now ≡ ForDeclaration (node_of part.declaration.now) (option_node part.condition) (option_node part.step) (node_of part.body.now) = search rules in
    subst (λ (k : IterationShape). IsPlaced c.args.self.now last c.args.cases.now.items turn.new.cases.items b (blocks_ahead (iteration_flow F f k) c.args.ahead ds)) (sym e)
    (first_placed c.args.self.now turn.new.self last c.args.cases.now.items turn.new.cases.items (declaration_row F (node_of part.declaration.now)) (maybe_row F (option_node part.step)) (maybe_form F (option_node part.condition)) (flow_of F f (node_of part.body.now))
    c.args.ahead.next c.args.ahead.at_break c.args.ahead.at_continue c.in_ok-head-in-ForDeclaration.head b ds c.in_ok-head-in-ForDeclaration.ensures c.in_ok-b-in-ForDeclaration.ensures refl)

pub switch-returns : goal.switch-returns
switch-returns g t c =
    let F = g.F.Facts.known c.args.facts.now in
    let f = c.args.function in
    let n = node_of c.args.body.now in
    let s = flow_of F f n in
    let next = c.args.ahead.next in
    let ds = drafts_of c.args.self.now.blocks.drafts.items in
    let last : BodyBuilder = record { blocks = c.expression.new.self; labels = c.statement.new.self.labels } in
    let cases = c.statement.new.cases.items in
    switch_placed c.args.self.now c.statement.new.self last [] cases c.complete.new.cases.items c.in_ok-statement.field-0 c.in_ok-choice.choice c.in_ok-b.b next c.args.ahead.at_break c.args.ahead.at_continue
    (operand (form_of F (node_of c.args.value.now)) done) s ds (made c.silent.new.self.drafts.items c.in_ok-choice.choice)
    (subst (λ (xs : List ℕ). IsPlaced c.args.self.now c.statement.new.self xs cases c.in_ok-statement.field-0 (flow_blocks s next next c.args.ahead.at_continue ds)) c.new-targets.ensures.items c.in_ok-statement.ensures)
    (c.in_ok-complete.ensures ∙ ap (λ x. cases ++ if_so (not x) next) (same_default silent F nowhere f n))
    c.in_ok-choice.ensures c.in_ok-b.ensures refl
