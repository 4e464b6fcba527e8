use Rattle.std.proofs.Common.{◌∙◌, nat_eq, arith}
use Rattle.indexmap.specs.IndexMap.{get}
use Rattle.metal_forms.proofs.Seats.{declare-end, declared-seats}
use Rattle.metal_forms.proofs.before.Before.declare.Goals as goal

pub returns : goal.returns
returns c = λ before k. record {
  seat = declared-seats c.args.names.now c.args.declaration c.in-Some.seat before (get nat_eq c.args.self.now.seats) (get nat_eq c.loop-name.self.seats) c.in-Some.ensures c.args.declaration.some k.seat
      (λ q. declare-end (get nat_eq c.loop-name.self.seats q) c.in-Some.seat c.args.declaration.names.now c.loop-name.name-index q _ (omega arith) (c.loop-name.invariant.seats q));
  sections = c.loop-name.invariant.section ∙ k.sections;
}
