use Rattle.std.proofs.Common.{◌≡◌, ℕ, ◌+◌, ◌<◌, ◌≤◌, length, List, map, Option, Some, ap, ◌∙◌, sym, arith}
use Rattle.c_tree.specs.Symbol.{Symbol, symbols_of}
use Rattle.metal_written.specs.declared.written.Identifier.{Identifier}
use Rattle.metal_written.specs.Written.{identifier_view}
use Rattle.metal_written.proofs.Rows.{map-push}
use Rattle.metal_clauses.proofs.MetalParts.InActions.{arguments-next, arguments-end, arguments-fail, arguments-over}
use Rattle.metal_clauses.proofs.metal_parts.actions.read_identifiers.Goals as goal

pub returns-in_default-clause-found : goal.returns-in_default-clause-found
returns-in_default-clause-found c =
    let positive : 0 < c.loop-fuel.fuel = omega arith in
    let F : List Identifier → Option (List (ℕ × ℕ) × List Symbol) = λ xs. Some (map identifier_view xs, symbols_of c.loop-fuel.rest.now) in
    arguments-end c.loop-fuel.fuel (symbols_of c.loop-fuel.rest.now) (map identifier_view c.loop-fuel.arguments.items) _ positive (sym c.in_default.ensures.found) c.loop-fuel.invariant.read
    ∙ ap F (sym c.into_bump_slice.ensures)

pub returns-in_default-read_identifier-clause-found : goal.returns-in_default-read_identifier-clause-found
returns-in_default-read_identifier-clause-found c _ =
    arguments-fail c.loop-fuel.fuel (symbols_of c.loop-fuel.rest.now) (symbols_of c.in-Some.behind.now) (map identifier_view c.loop-fuel.arguments.items) _
    (sym c.in-Some.ensures.found) (sym c.in_default-read_identifier.ensures.found) c.loop-fuel.invariant.read

pub loop-fuel-preserved : goal.loop-fuel-preserved
loop-fuel-preserved c =
    let positive : 0 < c.loop-fuel.fuel = omega arith in
    record {
      read =
          arguments-next c.loop-fuel.fuel (symbols_of c.loop-fuel.rest.now) (symbols_of c.in-Some.behind.now) (symbols_of c.in-Some-read_identifier.next.now)
          (identifier_view c.in-Some-read_identifier.argument) (map identifier_view c.loop-fuel.arguments.items) (map identifier_view c.push.new.self.items) _
          positive (sym c.in-Some.ensures.found) (sym c.in-Some-read_identifier.ensures.found)
          (ap (map identifier_view) c.in_ok-push.ensures.items ∙ map-push identifier_view c.loop-fuel.arguments.items c.in-Some-read_identifier.argument) c.loop-fuel.invariant.read;
      left =
          let a : length c.in-Some.behind.now + 1 ≡ length c.loop-fuel.rest.now = c.in-Some.ensures.shorter in
          let b : length c.in-Some-read_identifier.next.now ≤ length c.in-Some.behind.now = c.in-Some-read_identifier.ensures.shorter in
          let l = c.loop-fuel.invariant.left in
          omega (arith, a, b, l);
    }

pub returns-clause-found : goal.returns-clause-found
returns-clause-found c _ = arguments-over c.loop-fuel.fuel (symbols_of c.loop-fuel.rest.now) (map identifier_view c.loop-fuel.arguments.items) _ (omega arith) c.loop-fuel.invariant.read
