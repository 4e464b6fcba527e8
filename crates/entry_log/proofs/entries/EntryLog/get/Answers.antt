use Rattle.std.proofs.Common.{◌≡◌, List, None, Some, slice_get, sym, ap, ◌∙◌}
use Rattle.entry_log.specs.declared.entries.Place.{Place}
use Rattle.entry_log.proofs.Reading.{entry_at, no_entry_at}
use Rattle.entry_log.proofs.Near.{row_within}
use Rattle.entry_log.proofs.entries.EntryLog.get.Goals as goal

pub key_of-requires : goal.key_of-requires
key_of-requires g c =
    let order = c.self.inside.order.items in
    let at : slice_get order c.args.index ≡ Some c.in-Some.place = ap (λ (ps : List Place). slice_get ps c.args.index) (sym c.deref.ensures.value) ∙ sym c.place_at.ensures ∙ c.in-Some.is in
    row_within c.self.inside.keys.keys order c.args.index c.in-Some.place c.self.invariant.within at

pub returns-in-Some : goal.returns-in-Some
returns-in-Some g c =
    let order = c.self.inside.order.items in
    let at : slice_get order c.args.index ≡ Some c.in-Some.place = ap (λ (ps : List Place). slice_get ps c.args.index) (sym c.deref.ensures.value) ∙ sym c.place_at.ensures ∙ c.in-Some.is in
    rw (← c.self.view_is) (sym (entry_at c.self.inside.keys.keys order c.args.index c.in-Some.place c.key_of.result.now c.self.invariant.within at c.key_of.ensures))

pub returns-in-None : goal.returns-in-None
returns-in-None g c =
    let order = c.self.inside.order.items in
    let at : slice_get order c.args.index ≡ None = ap (λ (ps : List Place). slice_get ps c.args.index) (sym c.deref.ensures.value) ∙ sym c.place_at.ensures ∙ c.in-None.is in
    rw (← c.self.view_is) (sym (no_entry_at c.self.inside.keys.keys order c.args.index c.self.invariant.within at))
