use Rattle.std.proofs.Common.{◌<◌, map, length, sym, ap, ◌∙◌, subst}
use Rattle.std.specs.Global.{Vec}
use Rattle.typed_unit.specs.Texts.{texts_of}
use Rattle.metal_tree.specs.Whole.{machine_view}
use Rattle.call_graph.specs.declared.programs.functions.FnId.{FnId}
use Rattle.call_graph.specs.OfPrograms.Definitions.{definitions, trees_in}
use Rattle.root_functions.specs.Callees.{AreBelow}
use Rattle.root_functions.specs.Roots.{AreRoots}
use Rattle.root_functions.proofs.Carried.{roots_listed, seen}
use Rattle.root_functions.proofs.Texts.{same_functions}
use Rattle.root_functions.proofs.root_list.roots.Goals as goal

pub returns-clause-exact : goal.returns-clause-exact
returns-clause-exact c =
    let m = machine_view c.args.machine.now in
    let units = c.args.program.now.units.items in
    let rows = c.in_ok-callees in
    let numbers = c.in_ok-numbers.numbers.items in
    let each = rows.ensures.count ∙ sym (ap length (same_functions units)) in
    let listed = roots_listed m (texts_of units) rows.callees.items numbers each rows.ensures.exact c.in_ok-numbers.ensures in
    seen (λ (fs : Vec FnId). map (λ (f : FnId). f.number) fs.items) c.with_numbers.result (λ ns. ∥ AreRoots m (texts_of units) ns ∥₁) numbers listed c.with_numbers.ensures

pub returns-clause-within : goal.returns-clause-within
returns-clause-within c =
    let count = length (definitions (trees_in c.args.program.now.units.items)) in
    let numbers = c.in_ok-numbers.numbers.items in
    let below : AreBelow count numbers = λ f h. subst (λ n. f < n) c.in_ok-callees.ensures.count (c.in_ok-numbers.ensures.within f h) in
    seen (λ (fs : Vec FnId). map (λ (f : FnId). f.number) fs.items) c.with_numbers.result (AreBelow count) numbers below c.with_numbers.ensures
