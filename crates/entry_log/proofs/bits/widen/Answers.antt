use Rattle.std.proofs.Common.{◌≡◌, ◌<◌, Some, length, slice_get, refl, sym, ap, ◌∙◌, arith}
use Rattle.std.proofs.lemmas.Option.{slice_get_read}
use Rattle.std.proofs.lemmas.Result.{on_ok_weaker}
use Rattle.entry_log.specs.Bits.{is_set, words_of}
use Rattle.entry_log.proofs.Setting.{at_set_same, set_alike}
use Rattle.entry_log.proofs.bits.widen.Goals as goal

pub returns-clause-same : goal.returns-clause-same
returns-clause-same c r b =
    let rows = c.add_rows.new.rows in
    let row = c.args.row in
    let words = c.index_mut.result.now in
    let within : row < length rows.items = omega (arith, c.in_ok-add_rows.ensures.there, rows.ok.0) in
    let there : slice_get rows.items row ≡ Some words = slice_get_read rows.items (length rows.items) row words refl within c.index_mut.ensures.value in
    set_alike rows.items row c.widen_row.new.words within (λ b. c.widen_row.ensures.same b ∙ ap (λ o. is_set (words_of o) b) (sym there)) r b ∙ c.add_rows.ensures.same r b

pub returns-clause-wide : goal.returns-clause-wide
returns-clause-wide c =
    let rows = c.add_rows.new.rows in
    let row = c.args.row in
    let words = c.widen_row.new.words in
    let within : row < length rows.items = omega (arith, c.in_ok-add_rows.ensures.there, rows.ok.0) in
    let here = ap (λ o. length (words_of o)) (at_set_same rows.items row words within) in
    on_ok_weaker c.widen_row.result (λ wide. omega (arith, wide, here, words.ok.0)) c.widen_row.ensures.wide
