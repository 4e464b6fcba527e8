use Rattle.std.proofs.Common.{refl, subst, sym}
use Rattle.block_summary.specs.Exits.{AreExits}
use Rattle.block_summary.proofs.Keeping.{puts_kept, stays_right}
use Rattle.block_summary.proofs.summary.keep.Goals as goal

pub returns-clause-right : goal.returns-clause-right
returns-clause-right c = λ rows_of own_of at is_own right.
    let x = c.args.entered in
    let e = c.args.exits in
    let old = c.args.summary.now in
    let puts = puts_kept old _ x e c.requires.absent c.in_ok-insert.ensures.updates.2 c.in_ok-insert.ensures.updates.1 refl refl in
    stays_right old _ x e puts rows_of own_of right
    (subst (λ rows. AreExits rows x.is_root (own_of x.function) x.tuple e) (sym at) (subst (λ own. AreExits c.args.block.now.rows.items x.is_root own x.tuple e) (sym is_own) c.requires.exits))
