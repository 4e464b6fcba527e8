use Rattle.std.proofs.Common.{ap, sym, ◌∙◌, ◌++◌, append-nil, []}
use Rattle.std.specs.Option.{option_map_or}
use Rattle.std.specs.Prelude.{option_copied}
use Rattle.row_flows.specs.Behind.{noted}
use Rattle.row_flows.proofs.behind.note_at.Goals as goal

pub returns-in-None : goal.returns-in-None
returns-in-None c =
    let none = sym c.applied_at.ensures ∙ ap option_copied c.in-None.is in
    sym (ap (λ o. c.args.list.now.items ++ option_map_or (noted c.args.event c.args.object c.args.place) o []) none ∙ append-nil c.args.list.now.items)
