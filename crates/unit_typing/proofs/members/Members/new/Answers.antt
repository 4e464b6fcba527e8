use Rattle.std.proofs.Common.{ap, ℕ, nat_eq, Option, Vec, Global}
use Rattle.std.specs.Map.{lookup}
use Rattle.indexmap.specs.IndexMap.{get}
use Rattle.unit_typing.specs.Members.{same_key}
use Rattle.unit_typing.specs.Positions.{list_at, items_of}
use Rattle.unit_typing.proofs.Filed.{filed-none}
use Rattle.unit_typing.proofs.members.Members.new.Goals as goal

pub invariant_of-result : goal.invariant_of-result
invariant_of-result c = record {
  filed = filed-none (get same_key c.new-2.result) (list_at c.new-3.result) c.new.result.items c.new.ensures.items (λ k. ap (lookup (same_key k)) c.new-2.ensures.empty) (λ n. ap (λ (o : Option (Vec ℕ Global)). items_of o) (ap (lookup (nat_eq n)) c.new-3.ensures.empty));
}
