use Rattle.std.proofs.Common.{◌<◌, ◌/◌, ◌||◌, nat_eq, get_or, length, length-set, sym, ap, ◌∙◌}
use Rattle.std.proofs.lemmas.Option.{slice_get-get_or}
use Rattle.entry_log.specs.Bits.{is_set, words_of}
use Rattle.entry_log.proofs.Setting.{refilled, row_within, set_adds_the_bit_in}
use Rattle.entry_log.proofs.bits.set.Goals as goal

pub returns-clause-bits : goal.returns-clause-bits
returns-clause-bits c =
    let rows = c.args.rows.now in
    let row = c.args.row in
    let bit = c.args.bit in
    let item = c.index-rows-row.result in
    let words = get_or rows row item in
    let new = c.set_bit.new.words in
    let within : row < length rows = row_within rows row (bit / 64) c.requires in
    let there = slice_get-get_or rows row item within in
    let whole = refilled words.len new words.items (c.set_bit.ensures.len ∙ ap length c.deref_mut.ensures.value ∙ sym words.ok.0) in
    set_adds_the_bit_in rows row bit _ within
    (λ b. ap (λ l. is_set l b) whole ∙ c.set_bit.ensures.bits b ∙ ap (λ l. nat_eq b bit || is_set l b) (c.deref_mut.ensures.value ∙ sym (ap words_of there)))

pub returns-clause-len : goal.returns-clause-len
returns-clause-len c = length-set c.args.rows.now c.args.row _
