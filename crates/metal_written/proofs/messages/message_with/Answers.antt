use Rattle.std.proofs.Common.{ap, ◌∙◌, sym}
use Rattle.metal_grammar.specs.Message.{maybe_pieces}
use Rattle.metal_written.specs.Messages.{bytes_in, pieces_in}
use Rattle.metal_written.proofs.MessageTexts.{message-of, given-moved}
use Rattle.metal_written.proofs.messages.message_with.Goals as goal

pub returns-in-None : goal.returns-in-None
returns-in-None c =
    let arguments = c.args.arguments.now in
    let whole = message-of c.args.names.now c.args.action arguments c.in_ok-text.text.now c.in_ok-unescaped.field-0 c.args.action.some c.in_ok-text.ensures c.in_ok-unescaped.ensures in
    ap (λ o. maybe_pieces (bytes_in o) arguments) (sym c.in-None.is) ∙ whole

pub returns-in-Some : goal.returns-in-Some
returns-in-Some c =
    let arguments = c.args.arguments.now in
    let whole = message-of c.args.names.now c.args.action arguments c.in_ok-text.text.now c.in_ok-unescaped.field-0 c.args.action.some c.in_ok-text.ensures c.in_ok-unescaped.ensures in
    given-moved pieces_in c.pieces_of.result _ _ (ap (λ o. maybe_pieces (bytes_in o) arguments) (sym c.in-Some.is) ∙ whole) c.pieces_of.ensures
