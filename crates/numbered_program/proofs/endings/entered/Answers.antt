use Rattle.std.proofs.Common.{◌∙◌, ap, refl, sym}
use Rattle.std.specs.Option.{option_map}
use Rattle.c_tree.specs.Views.{node_of}
use Rattle.numbered_program.proofs.KnownEndings.{call_stands}
use Rattle.numbered_program.proofs.KnownSources.{nowhere}
use Rattle.numbered_program.specs.Views.{swapped}
use Rattle.path_model.specs.CheckerPrograms.Texts.{function_of}
use Rattle.numbered_program.proofs.endings.entered.Goals as goal

pub returns-in_ok-rows-in-Some : goal.returns-in_ok-rows-in-Some
returns-in_ok-rows-in-Some c = λ states f i numbers into.
    let k = c.args.callee.now in
    call_stands states c.args.source.now f i (node_of c.args.call.now) c.args.next k.function c.swapped.result k.numbers.now c.in-Some.site c.in_ok-rows-in-Some.rows numbers into c.in-Some.ensures.there
    (c.swapped.ensures ∙ ap (λ b. swapped b c.args.next) c.entry.ensures.number) c.in_ok-rows-in-Some.ensures.made c.in_ok-rows-in-Some.ensures.stands

pub returns-in-None : goal.returns-in-None
returns-in-None c = λ states f i numbers into. absurd (nowhere f (sym (ap (option_map function_of) (c.in-None.ensures.missing refl)) ∙ i.named))
