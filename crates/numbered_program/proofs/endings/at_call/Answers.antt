use Rattle.c_tree.specs.Views.{node_of}
use Rattle.function_tables.proofs.EngineTables.Places.{if-ok}
use Rattle.numbered_program.proofs.endings.at_call.Goals as goal

pub returns-in-Some : goal.returns-in-Some
returns-in-Some c =
    if-ok _ _ c.entered.result (λ e x states f i ends. x states f i c.in-Some.ensures.there (c.in-Some.ensures.followed states f (node_of c.args.call.now) c.args.next i ends)) c.entered.ensures

pub returns-in-None : goal.returns-in-None
returns-in-None c =
    if-ok _ _ c.passed.result (λ e x states f i ends. x states f (node_of c.args.call.now) (c.in-None.ensures.followed states f (node_of c.args.call.now) c.args.next i ends)) c.passed.ensures
