use Rattle.std.proofs.Common.{◌∙◌, sym, ap}
use Rattle.numbered_program.specs.NumberedTuples.FollowedObjects.{number_of}
use Rattle.objects.specs.Origins.{origin_of}
use Rattle.type_rules.specs.Options.{if_there}
use Rattle.numbered_program.proofs.numbered_calls.entries.source_number.Goals as goal

pub returns-in-Same : goal.returns-in-Same
returns-in-Same c =
    let is = sym c.into_callee.ensures ∙ ap (origin_of c.args.object.now) c.in-Same.is in
    c.number.ensures.number ∙ sym (ap (λ z. if_there z 0 (number_of c.args.caller.now.objects.now.keys)) is)

pub returns-in-From : goal.returns-in-From
returns-in-From c =
    let is = sym c.into_callee.ensures ∙ ap (origin_of c.args.object.now) c.in-From.is in
    c.number-in-From.ensures.number ∙ sym (ap (λ z. if_there z 0 (number_of c.args.caller.now.objects.now.keys)) is)

pub returns-in-Nothing : goal.returns-in-Nothing
returns-in-Nothing c =
    let is = sym c.into_callee.ensures ∙ ap (origin_of c.args.object.now) c.in-Nothing.is in
    sym (ap (λ z. if_there z 0 (number_of c.args.caller.now.objects.now.keys)) is)
