use Rattle.std.proofs.Common.{arith, ◌≡◌, ◌++◌, ◌∙◌, subst, false}
use Rattle.std.specs.Prelude.{OnOk, OnErr, nat_lt}
use Rattle.hole_matcher.specs.HoleBindings.Bindings.{binding_of}
use Rattle.hole_matcher.specs.HoleBindings.Settings.{setting_in}
use Rattle.hole_matcher.specs.HoleMessages.Sources.{source_in, maybe_object}
use Rattle.hole_matcher.proofs.HoleMessages.Messages.{hole_shortened}
use Rattle.objects.specs.Pieces.{HasBegun}
use Rattle.hole_matcher.proofs.hole_messages.written.write_hole.Goals as goal

pub returns-clause-ok : goal.returns-clause-ok
returns-clause-ok c =
    let f : nat_lt c.args.hole c.args.setting.now.variables ≡ false = grind (arith, c.if-hole-setting.false) in
    let e = hole_shortened (source_in c.args.setting.now.unit.now c.args.names.now) (binding_of c.args.binding.now) (maybe_object c.args.object) (setting_in c.args.setting.now) c.args.hole _ c.as_bytes-2.result.now f c.slot.ensures (c.as_bytes-2.ensures ∙ c.slot_text-text.ensures) in
    subst (λ text. OnOk c.write_short-2.result (c.write_short-2.new.into ≡ c.args.into.now ++ text)) e c.write_short-2.ensures.ok

pub returns-clause-err : goal.returns-clause-err
returns-clause-err c =
    let f : nat_lt c.args.hole c.args.setting.now.variables ≡ false = grind (arith, c.if-hole-setting.false) in
    let e = hole_shortened (source_in c.args.setting.now.unit.now c.args.names.now) (binding_of c.args.binding.now) (maybe_object c.args.object) (setting_in c.args.setting.now) c.args.hole _ c.as_bytes-2.result.now f c.slot.ensures (c.as_bytes-2.ensures ∙ c.slot_text-text.ensures) in
    subst (λ text. OnErr c.write_short-2.result (HasBegun c.args.into.now text c.write_short-2.new.into)) e c.write_short-2.ensures.err
