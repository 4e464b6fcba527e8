use Rattle.std.proofs.Common.{Some, ap, sym, ◌∙◌}
use Rattle.std.specs.Option.{option_map}
use Rattle.numbered_engine.specs.EdgeLists.{edge_at}
use Rattle.numbered_engine.proofs.Mapped.{mapped_at}
use Rattle.numbered_engine.proofs.edge_log.EdgeLog.get.Goals as goal

pub returns-in-Some : goal.returns-in-Some
returns-in-Some c =
    let at = sym c.get.ensures ∙ ap (option_map (λ e. (e.0.now, e.1))) c.in-Some.is in
    rw (← c.self.view_is) (ap Some c.edge_of.ensures ∙ sym (mapped_at edge_at c.self.inside.entries.keys c.args.index ∙ ap (option_map edge_at) at))

pub returns-in-None : goal.returns-in-None
returns-in-None c =
    let none = sym c.get.ensures ∙ ap (option_map (λ e. (e.0.now, e.1))) c.in-None.is in
    rw (← c.self.view_is) (sym (mapped_at edge_at c.self.inside.entries.keys c.args.index ∙ ap (option_map edge_at) none))
