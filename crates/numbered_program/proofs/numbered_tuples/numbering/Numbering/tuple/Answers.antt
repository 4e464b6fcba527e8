use Rattle.std.proofs.Common.{◌∙◌, ap}
use Rattle.numbered_program.specs.NumberedTuples.Tuples.{tuple_of}
use Rattle.row_flows.specs.Numbers.{item_numbered}
use Rattle.numbered_program.proofs.numbered_tuples.numbering.Numbering.tuple.Goals as goal

pub returns-in-Some : goal.returns-in-Some
returns-in-Some c =
    let t = c.args.numbered in
    let item = item_numbered c.args.self.now.objects.now.keys t.object in
    c.of_object.ensures ∙ ap (λ o. tuple_of t.global o c.state.result) c.in-Some.ensures ∙ ap (tuple_of t.global item) c.state.ensures

pub returns-in-None : goal.returns-in-None
returns-in-None c =
    let t = c.args.numbered in
    let x = item_numbered c.args.self.now.states.now.states.keys t.state in
    c.of_none.ensures ∙ ap (λ o. tuple_of t.global o x) c.in-None.ensures
