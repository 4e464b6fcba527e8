use Rattle.std.proofs.Common.{◌≡◌, ℕ, ◌+◌, ◌<◌, length, List, Option, Some, ap, ◌∙◌, sym, arith}
use Rattle.c_tree.specs.declared.punctuator.Punctuator.TheVariants as marks
use Rattle.c_tree.specs.Symbol.{Symbol, symbols_of}
use Rattle.metal_grammar.specs.Written.{Row}
use Rattle.metal_grammar.specs.Ways.Steps.{take_word}
use Rattle.metal_written.specs.Written.{row_from}
use Rattle.metal_clauses.proofs.MetalParts.InRows.{row-next, row-end, row-fails, row-over}
use Rattle.metal_clauses.proofs.metal_parts.declarations.read_names.Goals as goal

pub returns-in_default-clause-found : goal.returns-in_default-clause-found
returns-in_default-clause-found c _ = row-fails take_word marks.Comma c.loop-fuel.fuel (symbols_of c.loop-fuel.rest.now) c.loop-fuel.all.items _ (sym c.in_default.ensures.found) c.loop-fuel.invariant.read

pub returns-in_default-after_sign-clause-found : goal.returns-in_default-after_sign-clause-found
returns-in_default-after_sign-clause-found c =
    let positive : 0 < c.loop-fuel.fuel = omega arith in
    let F : List ℕ → Option (Row ℕ × List Symbol) = λ xs. Some (row_from 0 xs, symbols_of c.in-Some.behind.now) in
    row-end take_word marks.Comma 0 c.loop-fuel.fuel (symbols_of c.loop-fuel.rest.now) (symbols_of c.in-Some.behind.now) c.in-Some.name c.loop-fuel.all.items c.push.new.self.items _
    positive (sym c.in-Some.ensures.found) (sym c.in_default-after_sign.ensures.found) c.in_ok-push.ensures.items c.loop-fuel.invariant.read
    ∙ ap F (sym c.into_bump_slice.ensures)

pub loop-fuel-preserved : goal.loop-fuel-preserved
loop-fuel-preserved c =
    let positive : 0 < c.loop-fuel.fuel = omega arith in
    record {
      read =
          row-next take_word marks.Comma c.loop-fuel.fuel (symbols_of c.loop-fuel.rest.now) (symbols_of c.in-Some.behind.now) (symbols_of c.in-Some-after_sign.next.now) c.in-Some.name c.loop-fuel.all.items c.push.new.self.items _
          positive (sym c.in-Some.ensures.found) (sym c.in-Some-after_sign.ensures.found) c.in_ok-push.ensures.items c.loop-fuel.invariant.read;
      left =
          let a : length c.in-Some.behind.now + 1 ≡ length c.loop-fuel.rest.now = c.in-Some.ensures.shorter in
          let b : length c.in-Some-after_sign.next.now + 1 ≡ length c.in-Some.behind.now = c.in-Some-after_sign.ensures.shorter in
          let l = c.loop-fuel.invariant.left in
          omega (arith, a, b, l);
    }

pub returns-clause-found : goal.returns-clause-found
returns-clause-found c _ = row-over take_word marks.Comma c.loop-fuel.fuel (symbols_of c.loop-fuel.rest.now) c.loop-fuel.all.items _ (omega arith) c.loop-fuel.invariant.read
