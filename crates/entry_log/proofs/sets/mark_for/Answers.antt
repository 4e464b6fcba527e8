use Rattle.std.proofs.Common.{not, length, ap, sym, subst, ◌∙◌}
use Rattle.std.proofs.lemmas.Result.{IfOk-weaker, on_ok_weaker, on_err_weaker}
use Rattle.entry_log.specs.Bits.{has_bit, NoneBehind}
use Rattle.entry_log.proofs.Marking.{all_marked, no_bit, none_behind, none_marked, was_there}
use Rattle.entry_log.proofs.Placing.{on_err}
use Rattle.entry_log.proofs.sets.mark_for.Goals as goal

pub returns : goal.returns
returns g c =
    let eq = g.K.PartialEq.eq in
    let laws = g.met.K.Eq.laws in
    let same = g.met.K.Key.same in
    let keys = c.args.keys.now.keys in
    let rows = c.args.rows.now.items in
    let more = c.insert_full.new.self.keys in
    let at = c.in_ok-row.ensures in
    let row = c.in_ok-row.row in
    let new = c.mark.new.rows.items in
    let key = c.args.key in
    let block = c.args.block in
    let there = was_there eq laws same keys rows c.requires key more at.keys at.unique row at.stored.0 at.stored.1 at.stored.2 new block in
    record {
      behind = none_behind eq laws same keys rows c.requires key more at.keys at.unique row at.stored.0 at.stored.1 at.stored.2 new block c.mark.result c.mark.ensures.bits c.mark.ensures.err;
      added = IfOk-weaker c.mark.result _ _ (λ added is. is ∙ ap not (sym there)) c.mark.ensures.added;
      all = on_ok_weaker c.mark.result (all_marked eq laws same keys rows c.requires key more at.keys at.unique row at.stored.0 at.stored.1 at.stored.2 new block) c.mark.ensures.bits;
      err = on_err_weaker c.mark.result (none_marked eq laws same keys rows c.requires key more at.keys at.unique row at.stored.0 at.stored.1 at.stored.2 new block) c.mark.ensures.err;
      absent = on_err_weaker c.mark.result (λ e. there ∙ e) c.mark.ensures.absent;
    }

pub returns-in_err-row-clause-behind : goal.returns-in_err-row-clause-behind
returns-in_err-row-clause-behind g c = subst (λ keys. NoneBehind (length keys) c.args.rows.now.items) (sym c.in_err-row.ensures.err) c.requires

pub returns-in_err-row-clause-err : goal.returns-in_err-row-clause-err
returns-in_err-row-clause-err g c = on_err c.from_residual.result (λ k b. ap (λ keys. has_bit g.K.PartialEq.eq keys c.args.rows.now.items k b) c.in_err-row.ensures.err)

pub returns-in_err-row-clause-absent : goal.returns-in_err-row-clause-absent
returns-in_err-row-clause-absent g c = on_err c.from_residual.result (no_bit g.K.PartialEq.eq c.args.keys.now.keys c.args.rows.now.items c.args.key c.args.block c.in_err-row.ensures.absent)
