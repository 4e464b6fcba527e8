use Rattle.std.proofs.Common.{map, ◌∙◌, ap, sym, subst}
use Rattle.known_objects.proofs.Gifts.{handed-out-given}
use Rattle.known_objects.proofs.filings.CallersFiling.gifts.Goals as goal
use Rattle.known_objects.specs.Linked.{handed_out_by}
use Rattle.path_model.specs.CheckerGraphs.Members.{member}
use Rattle.known_search.proofs.Lists.{if-ok, none}
use Rattle.least_set.specs.Logs.{IsExactly}

pub returns : goal.returns
returns c =
    if-ok _ _ c.pairs.result
    (λ list same. handed-out-given c.args.self.now.depth c.args.change.now c.args.thing.now c.in_ok-objects.objects.items list.items (same ∙ ap (map (member c.args.change.now.call.caller)) c.as_slice.ensures.value) c.in_ok-objects.ensures c.if-change-thing.false)
    c.pairs.ensures

pub returns-then-change-thing : goal.returns-then-change-thing
returns-then-change-thing c = subst (λ l. IsExactly l (handed_out_by c.args.self.now.depth c.args.change.now c.args.thing.now)) (sym c.new.ensures.items) (none (handed_out_by c.args.self.now.depth c.args.change.now c.args.thing.now) (λ y h. c.if-change-thing.true h.0))
