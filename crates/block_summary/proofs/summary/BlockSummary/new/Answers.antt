use Rattle.std.proofs.Common.{◌≡◌, ◌∙◌, ap, sym, None, Some, rules}
use Rattle.std.specs.Prelude.{cond}
use Rattle.indexmap.specs.IndexMap.{get}
use Rattle.block_summary.specs.Kept.{mark_row}
use Rattle.block_summary.specs.contracts.keys.EnteredPartialEq.TheImpl.{eq-value as same}
use Rattle.block_summary.proofs.Keeping.{missing}
use Rattle.block_summary.proofs.summary.BlockSummary.new.Goals as goal

pub returns-clause-held : goal.returns-clause-held
returns-clause-held c = λ x.
    let gone : get same.it c.new-2.result x ≡ None = search rules in
    ap (λ b. cond b (Some c.unchanged.result) (get same.it c.new-2.result x)) (c.new.ensures (mark_row x) x.block) ∙ gone

pub returns-clause-right : goal.returns-clause-right
returns-clause-right c = λ rows_of own_of. record {
  unchanged = λ rows is_root own t calm. c.unchanged.ensures rows is_root own t calm;
  held = λ x e h. absurd (missing (sym (returns-clause-held c x) ∙ h));
}
