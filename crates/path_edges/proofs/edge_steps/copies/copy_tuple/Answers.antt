use Rattle.std.proofs.Common.{◌∙◌, sym, ap, Some, refl}
use Rattle.path_edges.proofs.EdgeSteps.Views.{tuple_parts, none_state}
use Rattle.path_edges.proofs.edge_steps.copies.copy_tuple.Goals as goal

pub returns-in_default : goal.returns-in_default
returns-in_default c = tuple_parts _ c.args.tuple.now refl (sym c.in_default.is) (sym (none_state c.args.tuple.now c.in_default.is))

pub returns : goal.returns
returns c = tuple_parts _ c.args.tuple.now refl (ap Some c.copy.ensures ∙ sym c.in-Some.is) refl
