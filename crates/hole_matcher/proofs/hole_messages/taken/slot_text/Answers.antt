use Rattle.std.proofs.Common.{◌++◌, ℕ, List, take, ◌∙◌, ap, []}
use Rattle.hole_matcher.specs.HoleBindings.Bindings.{taken_of}
use Rattle.hole_matching.specs.Message.{taken_spelled, spaced}
use Rattle.hole_matcher.specs.HoleMessages.Beginnings.{most_kept}
use Rattle.hole_matcher.specs.HoleMessages.Sources.{source_of}
use Rattle.hole_matcher.proofs.HoleMessages.Kept.{none-behind}
use Rattle.hole_matcher.proofs.hole_messages.taken.slot_text.Goals as goal

-- all that was taken has come
pub returns-in-Some : goal.returns-in-Some
returns-in-Some c =
    let texts : List (List ℕ) = taken_spelled (source_of c.args.source.now) (taken_of c.in-Some.taken) in
    rw c.in-Some.is (c.push_taken.ensures [] ∙ c.new-text.ensures (texts ++ []) ∙ ap (λ (ts : List (List ℕ)). take most_kept (spaced ts)) (none-behind texts))

pub returns-in_default : goal.returns-in_default
returns-in_default c = rw c.in_default.is (c.new-text.ensures [])
