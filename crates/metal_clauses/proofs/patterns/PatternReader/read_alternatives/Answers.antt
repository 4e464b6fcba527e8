use Rattle.std.proofs.Common.{◌≡◌, ◌+◌, ◌*◌, ◌<◌, ◌≤◌, List, length, map, Option, Some, ap, ◌∙◌, sym, arith}
use Rattle.c_tree.specs.declared.punctuator.Punctuator.TheVariants as marks
use Rattle.c_tree.specs.Symbol.{Symbol, symbols_of}
use Rattle.metal_grammar.specs.Written as text
use Rattle.metal_grammar.specs.Ways.Steps.{read_alternative}
use Rattle.metal_written.specs.declared.written.WrittenAlternative.{WrittenAlternative}
use Rattle.metal_written.specs.Written.{row_from, no_alternative, alternative_view, alternatives_row}
use Rattle.metal_written.proofs.Rows.{map-push}
use Rattle.metal_clauses.proofs.MetalParts.InRows.{row-next, row-end, row-gives, row-over}
use Rattle.metal_clauses.proofs.patterns.PatternReader.read_alternatives.Goals as goal

pub returns-in_err-alternative-clause-found : goal.returns-in_err-alternative-clause-found
returns-in_err-alternative-clause-found c =
    let l = c.loop-fuel in
    row-gives alternatives_row read_alternative marks.OrOr l.fuel (symbols_of l.rest.now) (map alternative_view l.alternatives.items) _ _ c.from_residual.result c.in_err-alternative.field-0.0 c.from_residual.ensures.1 c.in_err-alternative.ensures.found l.invariant.read (λ e. e)

pub returns-in_default-clause-found : goal.returns-in_default-clause-found
returns-in_default-clause-found c =
    let l = c.loop-fuel in
    let positive : 0 < l.fuel = omega arith in
    let F : List WrittenAlternative → Option (text.Row text.Alternative × List Symbol) = λ xs. Some (row_from no_alternative (map alternative_view xs), symbols_of c.in_ok-alternative.behind.now) in
    row-end read_alternative marks.OrOr no_alternative l.fuel (symbols_of l.rest.now) (symbols_of c.in_ok-alternative.behind.now) (alternative_view c.in_ok-alternative.alternative) (map alternative_view l.alternatives.items) (map alternative_view c.push.new.self.items) _
    positive c.in_ok-alternative.ensures.found (sym c.in_default.ensures.found)
    (ap (map alternative_view) c.in_ok-push.ensures.items ∙ map-push alternative_view l.alternatives.items c.in_ok-alternative.alternative) l.invariant.read
    ∙ ap F (sym c.into_bump_slice.ensures)

pub loop-fuel-preserved : goal.loop-fuel-preserved
loop-fuel-preserved c =
    let l = c.loop-fuel in
    let positive : 0 < l.fuel = omega arith in
    let a : c.read_alternative.new.self.next + 16 * length c.in_ok-alternative.behind.now ≤ l.self.next + 16 * length l.rest.now = c.in_ok-alternative.ensures.ready.2 in
    let b : length c.in-Some.next.now + 1 ≡ length c.in_ok-alternative.behind.now = c.in-Some.ensures.shorter in
    let r : l.self.next ≤ c.read_alternative.new.self.next = c.in_ok-alternative.ensures.ready.1 in
    let s = l.invariant.spent in
    let w = l.invariant.low in
    record {
      read =
          row-next read_alternative marks.OrOr l.fuel (symbols_of l.rest.now) (symbols_of c.in_ok-alternative.behind.now) (symbols_of c.in-Some.next.now) (alternative_view c.in_ok-alternative.alternative) (map alternative_view l.alternatives.items) (map alternative_view c.push.new.self.items) _
          positive c.in_ok-alternative.ensures.found (sym c.in-Some.ensures.found)
          (ap (map alternative_view) c.in_ok-push.ensures.items ∙ map-push alternative_view l.alternatives.items c.in_ok-alternative.alternative) l.invariant.read;
      types = c.in_ok-alternative.ensures.ready.0 ∙ l.invariant.types;
      low = omega (arith, r, w);
      spent = omega (arith, a, b, s);
    }

pub returns-clause-found : goal.returns-clause-found
returns-clause-found c _ = row-over read_alternative marks.OrOr c.loop-fuel.fuel (symbols_of c.loop-fuel.rest.now) (map alternative_view c.loop-fuel.alternatives.items) _ (omega arith) c.loop-fuel.invariant.read
