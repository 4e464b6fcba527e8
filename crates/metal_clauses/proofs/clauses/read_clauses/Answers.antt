use Rattle.std.proofs.Common.{◌+◌, ◌-◌, ◌*◌, ◌≤◌, ap, ◌∙◌, sym, subst, arith}
use Rattle.metal_grammar.specs.Grammar.{nothing_before}
use Rattle.metal_grammar.specs.Reading.{AllRead}
use Rattle.metal_forms.specs.Before.{Knows}
use Rattle.metal_written.specs.Written.{clause_views}
use Rattle.metal_clauses.proofs.InTurn.{behind_all}
use Rattle.metal_clauses.proofs.InReading.{IsCut, fewer-left, clause-refused, clause-read, cut-bound, all-read, before-next, sizes-next, total-next}
use Rattle.metal_clauses.proofs.clauses.read_clauses.Goals as goal

pub returns-in_err-clause-clause-read : goal.returns-in_err-clause-clause-read
returns-in_err-clause-clause-read c =
    let l = c.loop-more in
    let names = c.args.names.now in
    let ts = c.args.tokens.now in
    let n = c.clause_len.result in
    let cut : IsCut names ts l.clauses.items l.depth l.from n c.tokens_behind.result.now = record { behind = c.tokens_behind.ensures; within = c.clause_len.ensures.within; first = c.clause_len.ensures.first; low = l.invariant.bound } in
    clause-refused names ts l.clauses.items l.depth l.from n c.tokens_behind.result.now l.more c.args.file c.from_residual.result c.in_err-clause.field-0.0 cut c.loop-more-test.true l.invariant.read c.from_residual.ensures.1
    (c.in_err-clause.ensures.found (behind_all names nothing_before (clause_views l.clauses.items)) l.invariant.knows)

pub loop-more-preserved : goal.loop-more-preserved
loop-more-preserved c =
    let l = c.loop-more in
    let names = c.args.names.now in
    let ts = c.args.tokens.now in
    let n = c.clause_len.result in
    let us = c.tokens_behind.result.now in
    let all = l.clauses.items in
    let pushed = c.push.new.self.items in
    let clause = c.in_ok-clause.clause in
    let before = behind_all names nothing_before (clause_views all) in
    let cut : IsCut names ts all l.depth l.from n us = record { behind = c.tokens_behind.ensures; within = c.clause_len.ensures.within; first = c.clause_len.ensures.first; low = l.invariant.bound } in
    let found = c.in_ok-clause.ensures.found before l.invariant.knows in
    let rises : c.read_between.new.reader.next ≤ l.reader.next + 16 * (l.from + n - l.from) = c.in_ok-clause.ensures.ready.2 in
    let spent = l.invariant.spent in
    record {
      read = clause-read names ts all l.depth l.from n us pushed clause l.more cut c.clause_len.ensures.some c.loop-more-test.true l.invariant.read found c.in_ok-push.ensures.items;
      knows = subst (Knows c.go_behind.new.self) (before-next names ts all l.depth l.from n us pushed clause c.in_ok-push.ensures.items) (c.in_ok-go_behind.ensures before l.invariant.knows);
      sizes = sizes-next names ts all l.depth l.from n us pushed clause cut found c.in_ok-clause.ensures.size c.in_ok-clause.ensures.sizes c.in_ok-push.ensures.items l.invariant.sizes;
      total = total-next names ts all l.depth l.from n us pushed clause c.in_ok-clause.ensures.size c.in_ok-push.ensures.items l.invariant.total;
      bound = cut-bound names ts all l.depth l.from n us cut;
      shallow = omega arith;
      types = c.in_ok-clause.ensures.ready.0 ∙ l.invariant.types;
      spent = omega (arith, rises, spent);
    }

pub loop-more-smaller : goal.loop-more-smaller
loop-more-smaller c =
    let l = c.loop-more in
    let names = c.args.names.now in
    let ts = c.args.tokens.now in
    let n = c.clause_len.result in
    let cut : IsCut names ts l.clauses.items l.depth l.from n c.tokens_behind.result.now = record { behind = c.tokens_behind.ensures; within = c.clause_len.ensures.within; first = c.clause_len.ensures.first; low = l.invariant.bound } in
    fewer-left names ts l.clauses.items l.depth l.from n c.tokens_behind.result.now l.more cut c.clause_len.ensures.some c.loop-more-test.true

pub returns-clause-read : goal.returns-clause-read
returns-clause-read c =
    let l = c.loop-more in
    all-read c.args.names.now c.args.tokens.now l.clauses.items l.depth l.from 0 c.args.tokens.now l.more c.loop-more-test.false l.invariant.read ∙ ap (λ cs. AllRead (clause_views cs)) (sym c.into_bump_slice.ensures)
