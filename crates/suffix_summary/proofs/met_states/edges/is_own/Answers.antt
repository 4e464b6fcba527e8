use Rattle.std.proofs.Common.{◌∙◌, List, ap, sym, slice_get, false}
use Rattle.std.specs.Option.{option_copied, option_map_or}
use Rattle.numbered_engine.specs.Program.{is_own_frame}
use Rattle.numbered_engine.specs.declared.program.FunctionRows.{FunctionRows}
use Rattle.suffix_summary.proofs.met_states.edges.is_own.Goals as goal

pub returns-in-Some : goal.returns-in-Some
returns-in-Some c =
    let p = c.args.program.now in
    let e = c.args.edge.now in
    let at = ap (λ (l : List FunctionRows). slice_get l e.context.function) (sym c.as_slice.ensures.value) ∙ sym c.item.ensures ∙ ap option_copied c.in-Some.is in
    c.is_own_frame.ensures ∙ sym (ap (λ o. option_map_or (λ (r : FunctionRows). is_own_frame r e.context.entry) o false) at)

pub returns-in-None : goal.returns-in-None
returns-in-None c =
    let e = c.args.edge.now in
    let none = ap (λ (l : List FunctionRows). slice_get l e.context.function) (sym c.as_slice.ensures.value) ∙ sym c.item.ensures ∙ ap option_copied c.in-None.is in
    sym (ap (λ o. option_map_or (λ (r : FunctionRows). is_own_frame r e.context.entry) o false) none)
