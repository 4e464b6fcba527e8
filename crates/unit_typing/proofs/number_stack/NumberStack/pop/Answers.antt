use Rattle.std.proofs.Common.{nat_eq, subst, sym, List, Option, IsSome, ℕ, refl}
use Rattle.indexmap.specs.IndexMap.{get}
use Rattle.unit_typing.specs.declared.number_stack.Link.{Link}
use Rattle.unit_typing.specs.NumberStack.{IsIndexed}
use Rattle.unit_typing.proofs.LastPositions.{indexed-pop, indexed-top}
use Rattle.unit_typing.proofs.number_stack.NumberStack.pop.Goals as goal

pub put_back-requires : goal.put_back-requires
put_back-requires c =
    let held = subst (λ (ls : List Link). IsIndexed (get nat_eq c.self.inside.last) ls) c.in-Some.ensures.items c.self.invariant in
    let top = indexed-top (get nat_eq c.self.inside.last) c.pop.new.self.items c.in-Some.link held in
    subst (λ (o : Option ℕ). IsSome o) (sym top) refl

pub invariant_of-self : goal.invariant_of-self
invariant_of-self c =
    let held = subst (λ (ls : List Link). IsIndexed (get nat_eq c.self.inside.last) ls) c.in-Some.ensures.items c.self.invariant in
    indexed-pop (get nat_eq c.self.inside.last) (get nat_eq c.put_back.new.last) c.pop.new.self.items c.in-Some.link held c.put_back.ensures.0
