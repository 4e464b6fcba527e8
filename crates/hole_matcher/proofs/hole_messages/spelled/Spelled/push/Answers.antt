use Rattle.std.proofs.Common.{◌∙◌, ap}
use Rattle.hole_matcher.specs.HoleMessages.Beginnings.{most_kept}
use Rattle.hole_matcher.specs.declared.hole_messages.spelled.Spelled as code
use Rattle.hole_matcher.proofs.HoleMessages.Kept.{pushed, came-first, came-next}
use Rattle.hole_matcher.proofs.hole_messages.spelled.Spelled.push.Goals as goal
use Rattle.hole_matcher.proofs.hole_messages.spelled.Spelled.push.Goals.{then-not-self, else-not-self}

-- a blank comes before each text but the first
pub returns : goal.returns
returns c rest =
    pushed most_kept c.args.self.now.is_first c.args.self.now.bytes.items c.if-not-self.self.bytes.items c.keep-2.new.kept.items c.args.text.now rest
    (elim c.if-not-self.branch [
      | then-not-self w ↦ came-next c.args.self.now.is_first c.if-not-self.self.bytes.items _ _ w.if-not-self.true (ap (λ (s : code.Spelled). s.bytes.items) w.self-is ∙ w.keep.ensures)
      | else-not-self w ↦ came-first c.args.self.now.is_first c.if-not-self.self.bytes.items _ _ w.if-not-self.false (ap (λ (s : code.Spelled). s.bytes.items) w.self-is)
    ])
    c.keep-2.ensures
