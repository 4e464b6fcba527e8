use Rattle.std.proofs.Common.{◌≡◌, ◌∙◌, ap, sym, slice_get, Some, None}
use Rattle.request_files.specs.FrontEnd.Found.{on_line}
use Rattle.request_files.specs.declared.front_end.refusal.Refusal.TheVariants.{Faulty}
use Rattle.request_files.proofs.FrontEnd.AtTokens.{line_there, line_of_end}
use Rattle.request_files.proofs.front_end.machines.at_token.Goals as goal

pub returns-in-Some : goal.returns-in-Some
returns-in-Some c =
    let list = c.args.tokens.now in
    let here : slice_get list.all c.args.before ≡ Some c.in-Some.token = sym (c.in-Some.ensures ∙ ap (λ ts. slice_get ts c.args.before) c.all.ensures.all) in
    ap (λ there. Faulty (on_line c.args.fault there)) (sym (line_there list.all list.end c.args.before c.in-Some.token here))

pub returns-in-None : goal.returns-in-None
returns-in-None c =
    let list = c.args.tokens.now in
    let none : slice_get list.all c.args.before ≡ None = sym (c.in-None.ensures ∙ ap (λ ts. slice_get ts c.args.before) c.all.ensures.all) in
    c.at_end.ensures ∙ ap (λ there. Faulty (on_line c.args.fault there)) (sym (line_of_end list.all list.end c.args.before none))
