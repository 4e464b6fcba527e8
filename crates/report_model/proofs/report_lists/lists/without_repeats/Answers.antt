use Rattle.std.proofs.Common.{◌≡◌, ◌∷◌, [], ◌++◌, List, length, refl, sym, ap, subst, ◌∙◌, append_assoc, append-nil, arith, IsSorted}
use Rattle.std.specs.Vec.Iter.{into_iter_items}
use Rattle.report_model.specs.Order.{report_cmp}
use Rattle.report_model.specs.ReportLists.Repeats.{IsEachOnce}
use Rattle.report_model.proofs.ReportLists.EachOnce.{next}
use Rattle.report_model.proofs.ReportLists.Orders.{reports_total}
use Rattle.report_model.proofs.report_lists.lists.without_repeats.Goals as goal

nothing_left : {X : Type 0} (l : List X) → length l ≡ 0 → l ≡ []
nothing_left [] h = refl
nothing_left (x ∷ xs) h = absurd (omega arith)

pub loop-report-preserved : goal.loop-report-preserved
loop-report-preserved c =
    let at = c.loop-report in
    let x = c.in-Some.report in
    let steps : into_iter_items at.report-iterator ≡ x ∷ into_iter_items c.next.new.self = c.in-Some.ensures.steps.0 in record {
      split = append_assoc at.yielded (x ∷ []) _ ∙ rw (← steps) at.invariant.split;
      once =
          let whole = ap (λ l. at.yielded ++ l) (sym steps) ∙ at.invariant.split ∙ c.into_iter-report-iterator.ensures.into_iter_gives.0 in
          rw c.in_ok-push_new.ensures (next report_cmp reports_total at.yielded at.kept.items (into_iter_items c.next.new.self) x (subst (IsSorted report_cmp) (sym whole) c.requires) at.invariant.once);
      len = let was = at.invariant.len in
          let gone = c.in-Some.ensures.steps.1 in
          let short = ap length steps in
          omega arith;
    }

pub returns : goal.returns
returns c =
    let at = c.loop-report in
    let none = c.in-None.ensures.steps in
    let empty : into_iter_items at.report-iterator ≡ [] = nothing_left _ (sym at.invariant.len ∙ none.0) in
    let all = sym (append-nil at.yielded) ∙ rw empty at at.invariant.split ∙ c.into_iter-report-iterator.ensures.into_iter_gives.0 in
    subst (λ l. IsEachOnce report_cmp l at.kept.items) all at.invariant.once
