use Rattle.numbered_program.proofs.NumberedCalls.SitesStand.{stands_for_sites}
use Rattle.std.proofs.Common.{refl}
use Rattle.numbered_program.proofs.numbered_calls.calls.call_rows.Goals as goal

pub returns-clause-made : goal.returns-clause-made
returns-clause-made c = record { callee = refl; behind = refl; entered = c.in_ok-entered.ensures; handed = c.in_ok-handed.ensures; saved = c.in_ok-saved.ensures }

pub returns-clause-stands : goal.returns-clause-stands
returns-clause-stands c = stands_for_sites c.args.depth c.args.site.now c.args.caller.now.objects.now.keys c.args.callee.now.objects.now.keys c.args.function c.args.behind _ (returns-clause-made c)
