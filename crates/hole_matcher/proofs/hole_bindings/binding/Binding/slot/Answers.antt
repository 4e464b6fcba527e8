use Rattle.std.proofs.Common.{◌∙◌, sym, ap, None}
use Rattle.std.specs.Option.{option_map}
use Rattle.std.specs.Prelude.{slice_get}
use Rattle.type_rules.specs.Options.{if_there}
use Rattle.hole_matcher.proofs.HoleBindings.SlotItems.{slots_at}
use Rattle.hole_matcher.proofs.hole_bindings.binding.Binding.slot.Goals as goal
use Rattle.hole_matcher.specs.HoleBindings.Bindings.{taken_of}

pub returns-in-Some : goal.returns-in-Some
returns-in-Some c =
    sym (slots_at c.args.self.now.slots.items c.args.hole
    ∙ ap (λ o. if_there o None (λ x. option_map taken_of x)) (ap (λ xs. slice_get xs c.args.hole) (sym c.as_slice.ensures.value) ∙ sym c.item_at.ensures ∙ c.in-Some.is))

pub returns-in-None : goal.returns-in-None
returns-in-None c =
    sym (slots_at c.args.self.now.slots.items c.args.hole
    ∙ ap (λ o. if_there o None (λ x. option_map taken_of x)) (ap (λ xs. slice_get xs c.args.hole) (sym c.as_slice.ensures.value) ∙ sym c.item_at.ensures ∙ c.in-None.is))
