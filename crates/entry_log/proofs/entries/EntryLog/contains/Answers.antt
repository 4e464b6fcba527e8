use Rattle.std.proofs.Common.{List, Vec, ℕ, Global, sym, ap, ◌∙◌}
use Rattle.entry_log.specs.Bits.{is_set_in}
use Rattle.entry_log.proofs.Inserting.{bit_says}
use Rattle.entry_log.proofs.Reading.{key_at, not_without_key}
use Rattle.entry_log.proofs.entries.EntryLog.contains.Goals as goal

pub returns-in-Some : goal.returns-in-Some
returns-in-Some g c =
    let eq = g.K.PartialEq.eq in
    let keys = c.self.inside.keys.keys in
    let rows = c.self.inside.rows.items in
    let row = c.in-Some.row in
    let key = c.args.key.now in
    let at = key_at eq g.met.K.Key.same keys row key (sym c.in-Some.ensures.index) in
    rw (← c.self.view_is) (
    c.has.ensures ∙ ap (λ (rows : List (Vec ℕ Global)). is_set_in rows row c.args.block) c.deref.ensures.value
    ∙ bit_says eq g.met.K.Eq.laws keys rows c.self.inside.order.items c.self.invariant row key c.args.block at
    )

pub returns-in-None : goal.returns-in-None
returns-in-None g c =
    let v = c.self.invariant in
    rw (← c.self.view_is) (sym (not_without_key g.K.PartialEq.eq c.self.inside.keys.keys c.args.key.now c.args.block (sym c.in-None.ensures.found) c.self.inside.order.items v.within))
