use Rattle.std.proofs.Common.{◌∙◌, sym, ap}
use Rattle.std.specs.Option.{option_copied}
use Rattle.relevant.proofs.BoundMembers.Binding.{with-number, no-number}
use Rattle.relevant.proofs.bound_members.functions.add_with_number.Goals as goal
use Rattle.relevant.proofs.RelevantObjects.Gathered.{if-ok}

pub returns-in-Some : goal.returns-in-Some
returns-in-Some c =
    let at = sym c.item.ensures ∙ ap option_copied c.in-Some.is in
    if-ok _ _ c.add_in_function.result
    (λ u added k ts are. with-number c.args.sources k ts c.args.tables.now are c.args.number c.in-Some.table.now c.args.found.now.items c.add_in_function.new.found.items at (λ d blocks. added k.machine k.depth ts d blocks))
    c.add_in_function.ensures

pub returns-in-None : goal.returns-in-None
returns-in-None c =
    let none = sym c.item.ensures ∙ ap option_copied c.in-None.is in
    λ k ts are. no-number c.args.sources k ts c.args.tables.now are c.args.number c.args.found.now.items none
