use Rattle.std.proofs.Common.{ap, ◌∙◌}
use Rattle.entry_log.specs.Sets.{is_in}
use Rattle.block_summary.specs.contracts.keys.MarkRowPartialEq.TheImpl.{eq-value as same_row}
use Rattle.block_summary.proofs.summary.BlockSummary.is_marked.Goals as goal

pub returns : goal.returns
returns c = c.contains.ensures ∙ ap (λ r. is_in same_row.it c.args.self.now.marked r c.args.entered.now.block) c.mark_row.ensures
