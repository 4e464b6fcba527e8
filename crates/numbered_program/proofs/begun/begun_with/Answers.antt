use Rattle.std.proofs.Common.{◌≡◌, ◌≤◌, ◌∙◌, ◌∷◌, ◌++◌, [], length, ap, subst, arith}
use Rattle.std.proofs.lemmas.Grind.{common_steps}
use Rattle.least_set.specs.Logs.{IsExactly}
use Rattle.numbered_program.proofs.KnownBeginnings.{begun_more, none_begun}
use Rattle.numbered_program.specs.Begun.{BeginsWith}
use Rattle.numbered_program.proofs.begun.begun_with.Goals as goal

pub loop-object-init : goal.loop-object-init
loop-object-init c =
    none_begun c.args.function c.push.new.self.items
    (c.in_ok-push.ensures.items ∙ ap (λ l. l ++ c.begun_at-first.result ∷ []) c.new-edges.ensures.items ∙ ap (λ e. e ∷ []) c.begun_at-first.ensures)

pub loop-object-preserved : goal.loop-object-preserved
loop-object-preserved c = begun_more c.args.function c.loop-object.object c.loop-object.edges.items _ _ c.loop-object.invariant c.begun_at-edge.ensures c.in_ok-push-2.ensures.items

pub returns : goal.returns
returns c =
    let end : c.loop-object.object ≡ length c.args.numbering.now.objects.now.keys = grind (arith, common_steps) in
    subst (λ n. IsExactly c.loop-object.edges.items (BeginsWith c.args.function n)) end c.loop-object.invariant
