-- When an action is no message.
use Rattle.std.proofs.Common.{◌≡◌, ℕ, false, ◌||◌, is_none, List, [], ◌∷◌, map, flat_map, Option, None, Some, ap, refl, ◌∙◌, sym, arith}
use Rattle.std.proofs.lemmas.List.{length-map}
use Rattle.metal_grammar.specs.Words.{contents_of}
use Rattle.metal_grammar.specs.Written as text
use Rattle.metal_grammar.specs.Written.{members}
use Rattle.metal_grammar.specs.Message.{unescaped, message_with}
use Rattle.metal_grammar.specs.Faults.{any_wide, is_bad_format}
use Rattle.metal_grammar.specs.Meaning.{Numbering, number_in, action_of}
use Rattle.metal_tree.specs.declared.messages.Action.{Action}
use Rattle.metal_written.specs.declared.written.WrittenAction.{WrittenAction}
use Rattle.metal_written.specs.Written.{literal_view, literal_views, literals_row, no_literal, action_view, maybe_action_view}
use Rattle.metal_written.proofs.Rows.{members-row}
use Rattle.metal_numbers.specs.MetalBuilding.Machines.{pieces_view}
use Rattle.metal_grammar.proofs.Messages.{pieces_none}

-- the literals of an action as a row
pub wide_members : (a : WrittenAction) → any_wide (literal_views a.literals.now) ≡ any_wide (members (literals_row a.literals))
wide_members a =
    let some = a.some in
    let e = length-map a.literals.now literal_view in
    sym (ap any_wide (members-row no_literal (literal_views a.literals.now) (omega (arith, some, e))))

twice-mapped : {A : Type 0} (f : ℕ → ℕ) (g : A → ℕ) (xs : List A) → map (λ x. f (g x)) xs ≡ map f (map g xs)
twice-mapped f g [] = refl
twice-mapped f g (x ∷ xs) = ap (λ l. f (g x) ∷ l) (twice-mapped f g xs)

view-none : (o : Option Action) → is_none o ≡ is_none (pieces_view o)
view-none None = refl
view-none (Some a) = refl

-- whatever numbers the arguments have
action-none : (n : Numbering) (a : text.WrittenAction) → is_none (action_of n (Some a)) ≡ is_none (message_with n.spelling a (map (λ argument. argument.1) a.arguments))
action-none n a =
    ap (λ xs. is_none (message_with n.spelling a xs)) (twice-mapped (number_in n.holes) (λ argument. argument.1) a.arguments)
    ∙ pieces_none (number_in n.holes) (unescaped (flat_map (contents_of n.spelling) (members a.literals))) (map (λ argument. argument.1) a.arguments)

pub bad_format : (n : Numbering) (action : Option WrittenAction) (a : WrittenAction) (o : Option Action) → action ≡ Some a → any_wide (members (literals_row a.literals)) ≡ false
    → pieces_view o ≡ action_of n (maybe_action_view action) → is_none o ≡ is_bad_format n.spelling (maybe_action_view action)
bad_format n action a o e w h =
    view-none o ∙ ap is_none (h ∙ ap (λ x. action_of n (maybe_action_view x)) e) ∙ action-none n (action_view a)
    ∙ sym (ap (λ x. is_bad_format n.spelling (maybe_action_view x)) e ∙ ap (λ b. b || is_none (message_with n.spelling (action_view a) (map (λ argument. argument.1) (action_view a).arguments))) w)
