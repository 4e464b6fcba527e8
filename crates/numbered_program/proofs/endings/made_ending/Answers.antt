use Rattle.std.proofs.Common.{ℕ, List, ap, subst}
use Rattle.flow_graph.specs.CPaths.Graphs.{Stops, ToAny}
use Rattle.flow_graph.specs.Values.{ending_of}
use Rattle.function_tables.proofs.EngineTables.Places.{if-ok}
use Rattle.numbered_engine.specs.declared.program.Ending.TheVariants.{Exit}
use Rattle.numbered_program.proofs.KnownEndings.{same_end}
use Rattle.numbered_program.specs.Made.{IsEndingIn}
use Rattle.numbered_program.specs.Rows.{EndsFrame}
use Rattle.numbered_program.proofs.endings.made_ending.Goals as goal

pub returns-in-Goto : goal.returns-in-Goto
returns-in-Goto c =
    let s = c.args.source.now in
    if-ok _ _ c.led_on.result
    (λ e x states f i. same_end states s f c.args.block _ (ToAny c.in-Goto.targets.items) e (ap ending_of c.in-Goto.is)
    (λ _. subst (λ (l : List ℕ). IsEndingIn states s f (ToAny l) e) c.as_slice.ensures.value (x states f)))
    c.led_on.ensures

pub returns-in-Call : goal.returns-in-Call
returns-in-Call c = if-ok _ _ c.at_call.result (λ e x states f i. same_end states c.args.source.now f c.args.block _ _ e (ap ending_of c.in-Call.is) (x states f i)) c.at_call.ensures

pub returns-in-Exit : goal.returns-in-Exit
returns-in-Exit c = λ states f i. same_end states c.args.source.now f c.args.block _ Stops Exit (ap ending_of c.in-Exit.is) (λ _. EndsFrame)
