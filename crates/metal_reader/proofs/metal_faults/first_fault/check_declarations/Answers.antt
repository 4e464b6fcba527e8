use Rattle.std.proofs.Common.{sym, ap, ◌∙◌}
use Rattle.std.specs.Option.{option_map}
use Rattle.metal_numbers.specs.MetalDeclared.DeclaredNames.{declared_pair}
use Rattle.metal_reader.specs.declared.metal_faults.fault.MetalFault.TheVariants as faults
use Rattle.metal_reader.proofs.MetalFaults.Order.{told_later, twice_told}
use Rattle.metal_reader.proofs.metal_faults.first_fault.check_declarations.Goals as goal
use Rattle.metal_clauses.specs.Places.{place_in}

pub returns-in-Some : goal.returns-in-Some
returns-in-Some c =
    let file = c.args.file in
    let name = c.in-Some.declared.name in
    let position = c.in-Some.declared.position in
    let fault = faults.Twice name (place_in file position) in
    told_later file fault _ _ c.in_ok-check_limit.ensures (told_later file fault _ _ c.in_ok-check_limit-2.ensures (told_later file fault _ _ c.in_ok-check_limit-3.ensures
    (twice_told file name position _ (sym c.in_ok-repeated.ensures ∙ ap (option_map declared_pair) c.in-Some.is))))
