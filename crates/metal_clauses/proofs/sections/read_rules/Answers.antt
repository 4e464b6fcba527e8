use Rattle.std.proofs.Common.{◌≡◌, ◌+◌, ◌*◌, ◌<◌, ◌≤◌, List, length, map, Option, Some, ap, ◌∙◌, sym, subst, arith}
use Rattle.c_tree.specs.declared.punctuator.Punctuator.TheVariants as marks
use Rattle.c_tree.specs.Symbol.{Symbol, symbols_of}
use Rattle.metal_grammar.specs.Written as text
use Rattle.metal_grammar.specs.Ways.Steps.{read_rule}
use Rattle.metal_written.specs.declared.written.WrittenRule.{WrittenRule}
use Rattle.metal_written.specs.Sizes.{HaveSizes}
use Rattle.metal_written.specs.Written.{row_from, no_rule, rule_view, rules_row}
use Rattle.metal_written.proofs.Rows.{map-push}
use Rattle.metal_clauses.proofs.MetalParts.InRows.{row-next, row-end, row-gives, row-over}
use Rattle.metal_written.proofs.InSizes.{sizes-turn}
use Rattle.metal_clauses.proofs.sections.read_rules.Goals as goal

pub returns-in_err-rule-clause-found : goal.returns-in_err-rule-clause-found
returns-in_err-rule-clause-found c =
    let l = c.loop-fuel in
    row-gives rules_row read_rule marks.Bar l.fuel (symbols_of l.rest.now) (map rule_view l.rules.items) _ _ c.from_residual.result c.in_err-rule.field-0.0 c.from_residual.ensures.1 c.in_err-rule.ensures.found l.invariant.read (λ e. e)

pub returns-in_default-clause-found : goal.returns-in_default-clause-found
returns-in_default-clause-found c =
    let l = c.loop-fuel in
    let positive : 0 < l.fuel = omega arith in
    let F : List WrittenRule → Option (text.Row text.WrittenRule × List Symbol) = λ xs. Some (row_from no_rule (map rule_view xs), symbols_of c.in_ok-rule.behind.now) in
    row-end read_rule marks.Bar no_rule l.fuel (symbols_of l.rest.now) (symbols_of c.in_ok-rule.behind.now) (rule_view c.in_ok-rule.rule) (map rule_view l.rules.items) (map rule_view c.push.new.self.items) _
    positive c.in_ok-rule.ensures.found (sym c.in_default.ensures.found)
    (ap (map rule_view) c.in_ok-push.ensures.items ∙ map-push rule_view l.rules.items c.in_ok-rule.rule) l.invariant.read
    ∙ ap F (sym c.into_bump_slice.ensures)

pub returns-in_default-clause-sizes : goal.returns-in_default-clause-sizes
returns-in_default-clause-sizes c =
    let l = c.loop-fuel in
    subst HaveSizes (sym c.into_bump_slice.ensures)
    (sizes-turn l.rules.items c.push.new.self.items c.in_ok-rule.rule l.rest.now c.in_ok-rule.behind.now l.invariant.sizes c.in_ok-rule.ensures.found c.in_ok-rule.ensures.size c.in_ok-push.ensures.items)

pub loop-fuel-preserved : goal.loop-fuel-preserved
loop-fuel-preserved c =
    let l = c.loop-fuel in
    let positive : 0 < l.fuel = omega arith in
    let a : c.read_rule.new.reader.next + 16 * length c.in_ok-rule.behind.now ≤ l.reader.next + 16 * length l.rest.now = c.in_ok-rule.ensures.ready.2 in
    let b : length c.in-Some.next.now + 1 ≡ length c.in_ok-rule.behind.now = c.in-Some.ensures.shorter in
    let r : l.reader.next ≤ c.read_rule.new.reader.next = c.in_ok-rule.ensures.ready.1 in
    let s = l.invariant.spent in
    let w = l.invariant.low in
    record {
      read =
          row-next read_rule marks.Bar l.fuel (symbols_of l.rest.now) (symbols_of c.in_ok-rule.behind.now) (symbols_of c.in-Some.next.now) (rule_view c.in_ok-rule.rule) (map rule_view l.rules.items) (map rule_view c.push.new.self.items) _
          positive c.in_ok-rule.ensures.found (sym c.in-Some.ensures.found)
          (ap (map rule_view) c.in_ok-push.ensures.items ∙ map-push rule_view l.rules.items c.in_ok-rule.rule) l.invariant.read;
      sizes = sizes-turn l.rules.items c.push.new.self.items c.in_ok-rule.rule l.rest.now c.in_ok-rule.behind.now l.invariant.sizes c.in_ok-rule.ensures.found c.in_ok-rule.ensures.size c.in_ok-push.ensures.items;
      types = c.in_ok-rule.ensures.ready.0 ∙ l.invariant.types;
      low = omega (arith, r, w);
      spent = omega (arith, a, b, s);
    }

pub returns-clause-found : goal.returns-clause-found
returns-clause-found c _ = row-over read_rule marks.Bar c.loop-fuel.fuel (symbols_of c.loop-fuel.rest.now) (map rule_view c.loop-fuel.rules.items) _ (omega arith) c.loop-fuel.invariant.read
