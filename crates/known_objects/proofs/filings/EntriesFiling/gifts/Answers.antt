use Rattle.std.proofs.Common.{map, ◌∙◌, ap, sym, subst}
use Rattle.known_objects.proofs.Gifts.{entries-given}
use Rattle.known_objects.proofs.filings.EntriesFiling.gifts.Goals as goal
use Rattle.known_objects.specs.Linked.{entered_by, entry_at}
use Rattle.known_search.proofs.Lists.{if-ok, none}
use Rattle.least_set.specs.Logs.{IsExactly}

pub returns : goal.returns
returns c =
    if-ok _ _ c.entries.result
    (λ list same. entries-given c.args.self.now.depth c.args.change.now c.args.thing.now c.in_ok-objects.objects.items list.items (same ∙ ap (map (entry_at c.args.change.now)) c.as_slice.ensures.value) c.in_ok-objects.ensures c.if-change-thing.false)
    c.entries.ensures

pub returns-then-change-thing : goal.returns-then-change-thing
returns-then-change-thing c = subst (λ l. IsExactly l (entered_by c.args.self.now.depth c.args.change.now c.args.thing.now)) (sym c.new.ensures.items) (none (entered_by c.args.self.now.depth c.args.change.now c.args.thing.now) (λ y h. c.if-change-thing.true h.0))
