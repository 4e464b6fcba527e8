use Rattle.std.proofs.Common.{sym, subst}
use Rattle.known_objects.proofs.Gifts.{targets-given}
use Rattle.known_objects.proofs.filings.MovesFiling.gifts.Goals as goal
use Rattle.known_objects.specs.Linked.{moved_by}
use Rattle.known_search.proofs.Lists.{if-ok, none}
use Rattle.least_set.specs.Logs.{IsExactly}

pub returns : goal.returns
returns c = if-ok _ _ c.targets_after.result (λ list are. targets-given c.args.self.now.depth c.args.change.now c.args.thing.now list.items are c.if-change-thing.false) c.targets_after.ensures

pub returns-then-change-thing : goal.returns-then-change-thing
returns-then-change-thing c = subst (λ l. IsExactly l (moved_by c.args.self.now.depth c.args.change.now c.args.thing.now)) (sym c.new.ensures.items) (none (moved_by c.args.self.now.depth c.args.change.now c.args.thing.now) (λ y h. c.if-change-thing.true h.0))
