use Rattle.std.proofs.Common.{◌∙◌, sym, ap, subst, Contains}
use Rattle.std.specs.Prelude.{flat_map}
use Rattle.std.specs.List.{list_any}
use Rattle.row_flows.specs.Concerns.{concerned_by, row_stirs}
use Rattle.row_flows.specs.ConcernedObjects.{numbers_in}
use Rattle.row_flows.proofs.Concerned.{left_calm}
use Rattle.row_flows.proofs.blocks.BlockRows.new.Goals as goal

pub invariant_of-result : goal.invariant_of-result
invariant_of-result c =
    let numbers = c.in_ok-numbers.ensures ∙ ap (flat_map concerned_by) c.as_slice.ensures.value in
    let stirs = sym (c.some_stirs-stirs.ensures ∙ ap (list_any row_stirs) c.as_slice-2.ensures.value) in record {
      calm = λ n h s. left_calm c.args.rows.items (numbers_in c.in_ok-concerned.concerned) (λ m k. c.in_ok-concerned.ensures m (subst (λ l. Contains l m) (sym numbers) k)) (stirs ∙ s) n h;
    }
