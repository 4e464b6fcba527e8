use Rattle.std.proofs.Common.{inr}
use Rattle.command.specs.Written.{AreHanded}
use Rattle.command.proofs.Plans.{carried_out}
use Rattle.command.proofs.Promised.{promised_of, stopped_of}
use Rattle.command.proofs.program.run.Goals as goal

pub returns-in_default : goal.returns-in_default
returns-in_default g c =
    stopped_of (λ b. (goal.Reporter-dyn g (b.vtable, b.value)).called b.value) (λ b. (goal.Reporter-dyn g (b.vtable, b.value)).rendered b.value) (λ b. (goal.Reporter-dyn g (b.vtable, b.value)).taken b.value)
    _ _ _ _ _ _ _ _ c.args.reporters.now.items c.decide.new.reporters.items _ _ _ _ _ _
    c.in_default.ensures.failed c.decide.ensures.readable c.decide.ensures.untouched c.decide.ensures.unread c.decide.ensures.names c.decide.ensures.styles c.decide.ensures.others

pub returns : goal.returns
returns g c =
    promised_of (λ b. (goal.Reporter-dyn g (b.vtable, b.value)).called b.value) (λ b. (goal.Reporter-dyn g (b.vtable, b.value)).rendered b.value) (λ b. (goal.Reporter-dyn g (b.vtable, b.value)).taken b.value)
    _ _ _ _ _ _ _ _ c.args.reporters.now.items c.decide.new.reporters.items _ _ _
    (inr (carried_out (AreHanded g.O.Sink.write_gives g.E.Sink.write_gives c.args.out.now c.carry_out.new.out c.args.errs.now c.carry_out.new.errs) _ _ _ _ _ _ _ _ c.in-Ok.plan.status c.in-Ok.plan.text.items c.as_slice.result.now c.in-Ok.plan.line c.as_bytes.result.now c.as_slice.ensures.value c.as_bytes.ensures c.in-Ok.ensures.due c.in-Ok.ensures.leaves
    c.in-Ok.ensures.spares c.carry_out.ensures.written c.carry_out.ensures.fitting c.carry_out.ensures.handed)) c.decide.ensures.readable c.decide.ensures.untouched c.decide.ensures.unread c.decide.ensures.names c.decide.ensures.styles c.decide.ensures.others
