use Rattle.std.proofs.Common.{◌∙◌, sym, arith}
use Rattle.metal_clauses.proofs.InCuts.{cut-ended, cut-between}
use Rattle.metal_clauses.proofs.cuts.clause_len.Goals as goal

pub returns-then-ends_at-clause-first : goal.returns-then-ends_at-clause-first
returns-then-ends_at-clause-first c =
    let l = c.going in
    cut-ended l.open c.args.tokens.now l.index _ _ (omega arith) (sym c.closes.ensures ∙ c.if-closes.false) (sym c.ends_clause.ensures ∙ c.if-ends_clause.true) (sym c.ends_at.ensures ∙ c.if-ends_at.true) l.invariant.cut

pub returns-else-ends_at-clause-first : goal.returns-else-ends_at-clause-first
returns-else-ends_at-clause-first c =
    let l = c.going in
    cut-between l.open c.args.tokens.now l.index _ _ (omega arith) (sym c.closes.ensures ∙ c.if-closes.false) (sym c.ends_clause.ensures ∙ c.if-ends_clause.true) (sym c.ends_at.ensures ∙ c.if-ends_at.false) l.invariant.cut
