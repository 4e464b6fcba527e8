use Rattle.std.proofs.Common.{◌≡◌, ◌+◌, length, ap, ◌∙◌, sym, arith}
use Rattle.c_tree.specs.Symbol.{symbols_of}
use Rattle.metal_written.specs.Written.{literal_view, literal_views}
use Rattle.metal_written.proofs.Rows.{map-push, pushed-some}
use Rattle.metal_clauses.proofs.MetalParts.InActions.{literals-next}
use Rattle.metal_clauses.proofs.metal_parts.actions.read_literals.Goals as goal

pub loop-literal-preserved : goal.loop-literal-preserved
loop-literal-preserved c = record {
  read =
      literals-next (symbols_of c.loop-literal.rest.now) (symbols_of c.in-Some-take_literal.behind.now) (literal_view c.in-Some-take_literal.literal)
      (literal_views c.loop-literal.literals.items) (literal_views c.push-in-Some-take_literal.new.self.items) _
      (sym c.in-Some-take_literal.ensures.found)
      (ap literal_views c.in_ok-push-2.ensures.items ∙ map-push literal_view c.loop-literal.literals.items c.in-Some-take_literal.literal) c.loop-literal.invariant.read;
  some = pushed-some c.loop-literal.literals.items c.push-in-Some-take_literal.new.self.items c.in-Some-take_literal.literal c.in_ok-push-2.ensures.items;
  left =
      let a : length c.in-Some-take_literal.behind.now + 1 ≡ length c.loop-literal.rest.now = c.in-Some-take_literal.ensures.shorter in
      let l = c.loop-literal.invariant.left in
      omega (arith, a, l);
}
