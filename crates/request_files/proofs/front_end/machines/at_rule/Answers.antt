use Rattle.std.proofs.Common.{◌∙◌, ap, sym}
use Rattle.c_tree.specs.Symbol.{symbols_of}
use Rattle.metal_reader.proofs.MetalPositions.Placing.{found_counted, none_counted}
use Rattle.request_files.specs.FrontEnd.Refusals.{behind_or_end}
use Rattle.request_files.specs.declared.front_end.refusal.Refusal.TheVariants.{Faulty}
use Rattle.request_files.proofs.front_end.machines.at_rule.Goals as goal

pub returns-in-Some : goal.returns-in-Some
returns-in-Some c =
    let t = c.requires.text in
    let list = c.args.tokens.now in
    c.at_token.ensures
    ∙ ap (λ before. Faulty (behind_or_end list c.args.fault before)) (sym (found_counted c.args.names.now (symbols_of list.all) t.0 list.end.place.file c.args.rule t.1 c.in-Some.place (c.in-Some.ensures t.0 t.1)))

pub returns-in-None : goal.returns-in-None
returns-in-None c =
    let t = c.requires.text in
    let list = c.args.tokens.now in
    c.at_end.ensures
    ∙ ap (λ before. Faulty (behind_or_end list c.args.fault before)) (sym (none_counted c.args.names.now (symbols_of list.all) t.0 list.end.place.file c.args.rule t.1 (c.in-None.ensures t.0 t.1)))
