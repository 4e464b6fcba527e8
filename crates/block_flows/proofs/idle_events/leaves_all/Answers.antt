use Rattle.std.proofs.Common.{◌≡◌, ◌∙◌, ap, sym, ◌&&◌}
use Rattle.block_flows.proofs.IdleEvents.{left_alone}
use Rattle.block_flows.specs.IdleEvents.{leaves_all}
use Rattle.block_flows.proofs.idle_events.leaves_all.Goals as goal

pub returns-then-is_idle : goal.returns-then-is_idle
returns-then-is_idle c =
    let r = c.args.rules.now in
    let within = c.args.within in
    let test : within ≡ leaves_all r within = ap (λ x. x && within) c.if-is_idle.ensures in
    record { test = test; kept = λ e k h f root followed ts of are inside. left_alone k h f root followed r ts within (sym test ∙ e) of are inside }

pub returns-else-is_idle : goal.returns-else-is_idle
returns-else-is_idle c =
    let r = c.args.rules.now in
    let within = c.args.within in
    let test : c.is_idle.result ≡ leaves_all r within = c.if-is_idle.false ∙ ap (λ x. x && within) c.if-is_idle.ensures in
    record { test = test; kept = λ e k h f root followed ts of are inside. left_alone k h f root followed r ts within (sym test ∙ e) of are inside }
