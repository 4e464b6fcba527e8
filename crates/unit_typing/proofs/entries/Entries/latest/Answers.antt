use Rattle.std.proofs.Common.{◌≡◌, ◌∙◌, ap, sym, map, None, Some, List, slice_get}
use Rattle.unit_typing.specs.Entries.{latest_by}
use Rattle.unit_typing.specs.NumberStack.{last_position}
use Rattle.unit_typing.proofs.Latest.{latest-none, latest-some}
use Rattle.unit_typing.proofs.entries.Entries.latest.Goals as goal

pub returns-in-Some : goal.returns-in-Some
returns-in-Some g c =
    let at : last_position c.args.name (map g.T.Named.name_of c.self.inside.all.items) ≡ Some c.in-Some.position = ap (last_position c.args.name) (sym c.self.invariant) ∙ sym c.position.ensures ∙ c.in-Some.is in
    let found = latest-some g.T.Named.name_of c.args.name c.in-Some.position c.self.inside.all.items at in
    c.item_at.ensures ∙ ap (λ (xs : List g.row.T.Denot). slice_get xs c.in-Some.position) c.deref.ensures.value ∙ found ∙ ap (latest_by g.T.Named.name_of c.args.name) c.self.view_is

pub returns-in-None : goal.returns-in-None
returns-in-None g c =
    let at : last_position c.args.name (map g.T.Named.name_of c.self.inside.all.items) ≡ None = ap (last_position c.args.name) (sym c.self.invariant) ∙ sym c.position.ensures ∙ c.in-None.is in
    sym (latest-none g.T.Named.name_of c.args.name c.self.inside.all.items at) ∙ ap (latest_by g.T.Named.name_of c.args.name) c.self.view_is
