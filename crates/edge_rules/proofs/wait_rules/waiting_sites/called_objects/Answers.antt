use Rattle.edge_rules.proofs.WaitRules.FoundCalls.{without-call}
use Rattle.function_tables.proofs.EngineTables.Places.{place}
use Rattle.edge_rules.proofs.wait_rules.waiting_sites.called_objects.Goals as goal

pub returns-in-Some : goal.returns-in-Some
returns-in-Some c = λ k n h. c.objects_of_callee.ensures k n h _ _ c.in-Some.ensures

pub returns-in-None : goal.returns-in-None
returns-in-None c = λ k n h.
    let t = c.args.tables.now in
    let f = c.args.frame.now in
    without-call t n c.args.block f (place t n f k h) c.in-None.ensures
