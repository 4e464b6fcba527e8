use Rattle.std.proofs.Common.{List, Vec, ℕ, Global, sym, ap, ◌∙◌}
use Rattle.entry_log.specs.Bits.{is_set_in}
use Rattle.entry_log.proofs.Marking.{bit_of_row, no_bit}
use Rattle.entry_log.proofs.Reading.{key_at}
use Rattle.entry_log.proofs.sets.EntrySet.contains.Goals as goal

pub returns-in-Some : goal.returns-in-Some
returns-in-Some g c =
    let eq = g.K.PartialEq.eq in
    let keys = c.args.self.now.keys.keys in
    let rows = c.args.self.now.rows.items in
    let row = c.in-Some.row in
    let key = c.args.key.now in
    c.has.ensures ∙ ap (λ (rows : List (Vec ℕ Global)). is_set_in rows row c.args.block) c.deref.ensures.value
    ∙ sym (bit_of_row eq g.met.K.Eq.laws keys c.len-count.ensures.unique rows row key (key_at eq g.met.K.Key.same keys row key (sym c.in-Some.ensures.index)) c.args.block)

pub returns-in-None : goal.returns-in-None
returns-in-None g c = sym (no_bit g.K.PartialEq.eq c.args.self.now.keys.keys c.args.self.now.rows.items c.args.key.now c.args.block (sym c.in-None.ensures.found))
