use Rattle.std.proofs.Common.{refl, sym, ◌∙◌}
use Rattle.std.proofs.lemmas.Option.{none-some}
use Rattle.entry_log.proofs.Reading.{there}
use Rattle.entry_log.proofs.entries.row_at.Goals as goal

pub returns : goal.returns
returns c = (c.in-Some.place, sym c.place_at.ensures ∙ c.in-Some.is, refl)

pub unreachable-requires : goal.unreachable-requires
unreachable-requires c = let x = there c.args.order.now c.args.index c.requires in none-some x.0 (sym (sym c.place_at.ensures ∙ c.in-None.is) ∙ x.1)
