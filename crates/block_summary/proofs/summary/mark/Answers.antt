use Rattle.std.proofs.Common.{◌≡◌, true, refl, subst, sym}
use Rattle.entry_log.proofs.Placing.{on_err}
use Rattle.row_flows.specs.Concerns.{all_calm}
use Rattle.block_summary.proofs.Keeping.{held_here, marking_keeps, marks, not_held, same_held, same_right, stays_right}
use Rattle.block_summary.specs.declared.summary.BlockSummary.{BlockSummary}
use Rattle.block_summary.proofs.summary.mark.Goals as goal

pub returns-in_err-insert-clause-keeps : goal.returns-in_err-insert-clause-keeps
returns-in_err-insert-clause-keeps c =
    let old = c.args.summary.now in
    let new : BlockSummary = record { marked = c.insert.new.self; kept = old.kept; unchanged = old.unchanged } in
    record { held = λ x is. same_held old new c.in_err-insert.ensures.err refl refl x }

pub returns-in_err-insert-clause-held : goal.returns-in_err-insert-clause-held
returns-in_err-insert-clause-held c = λ is. absurd (not_held c.args.summary.now c.args.entered c.mark_row.result c.mark_row.ensures c.in_err-insert.ensures.absent c.requires.absent is)

pub returns-in_err-insert-clause-refused : goal.returns-in_err-insert-clause-refused
returns-in_err-insert-clause-refused c =
    let old = c.args.summary.now in
    let new : BlockSummary = record { marked = c.insert.new.self; kept = old.kept; unchanged = old.unchanged } in
    on_err c.from_residual.result (same_held old new c.in_err-insert.ensures.err refl refl)

pub returns-in_err-insert-clause-right : goal.returns-in_err-insert-clause-right
returns-in_err-insert-clause-right c = λ rows_of own_of at is_own right.
    let old = c.args.summary.now in
    let new : BlockSummary = record { marked = c.insert.new.self; kept = old.kept; unchanged = old.unchanged } in
    same_right old new c.in_err-insert.ensures.err refl refl rows_of own_of right

pub returns-clause-there : goal.returns-clause-there
returns-clause-there c =
    let old = c.args.summary.now in
    let new : BlockSummary = record { marked = c.insert.new.self; kept = old.kept; unchanged = old.unchanged } in
    held_here old new c.args.entered c.mark_row.result c.mark_row.ensures c.in_ok-insert.ensures.all c.requires.absent refl refl

pub returns-clause-keeps : goal.returns-clause-keeps
returns-clause-keeps c =
    let old = c.args.summary.now in
    let new : BlockSummary = record { marked = c.insert.new.self; kept = old.kept; unchanged = old.unchanged } in
    marking_keeps old new c.args.entered c.mark_row.result c.mark_row.ensures c.in_ok-insert.ensures.all c.requires.absent refl refl

pub returns-clause-right : goal.returns-clause-right
returns-clause-right c = λ rows_of own_of at is_own right.
    let x = c.args.entered in
    let old = c.args.summary.now in
    let new : BlockSummary = record { marked = c.insert.new.self; kept = old.kept; unchanged = old.unchanged } in
    let puts = marks old new x c.mark_row.result c.mark_row.ensures c.in_ok-insert.ensures.all c.requires.absent refl refl in
    stays_right old new x old.unchanged puts rows_of own_of right
    (right.unchanged (rows_of x.function x.block) x.is_root (own_of x.function) x.tuple (subst (λ rows. all_calm x.tuple.object rows ≡ true) (sym at) c.requires.calm))
