use Rattle.std.proofs.Common.{◌≡◌, ◌+◌, ◌≤◌, true, false, ap, ◌∙◌, length}
use Rattle.c_lexer.specs.Pieces.{piece_len}
use Rattle.c_lexer.proofs.Taking.{behind_space, behind_comment, behind_line_comment, behind_open_marker, behind_marker, behind_spelling, if_ok}
use Rattle.c_lexer.specs.declared.pieces.Piece.TheVariants.{MarkerLine}
use Rattle.mx_base.proofs.NameLaws.{kept_number}
use Rattle.c_lexer.proofs.lexer.take.Goals as goal

pub returns-in-Space-clause-steps : goal.returns-in-Space-clause-steps
returns-in-Space-clause-steps c = λ mode word says known.
    behind_space mode c.args.file c.args.names.now word c.args.here c.behind_byte.result c.args.bytes.now c.args.tokens.now.items
    c.args.piece c.in-Space.is known c.behind_byte.ensures.source (c.behind_byte.ensures.stands word)

pub returns-in-Comment-clause-steps : goal.returns-in-Comment-clause-steps
returns-in-Comment-clause-steps c = λ mode word says known.
    behind_comment mode c.args.file c.args.names.now word c.args.here c.behind_comment.result c.args.bytes.now c.args.tokens.now.items
    c.args.piece c.in-Comment.len c.in-Comment.is known c.behind_comment.ensures.source (c.behind_comment.ensures.stands word)

pub returns-in-LineComment-clause-steps : goal.returns-in-LineComment-clause-steps
returns-in-LineComment-clause-steps c = λ mode word says known.
    let fits : c.in-LineComment.len + 2 ≤ length c.args.bytes.now = rw (← (ap piece_len c.in-LineComment.is)) c.requires.fits in
    behind_line_comment mode c.args.file c.args.names.now word c.args.here c.further.result c.args.bytes.now c.args.tokens.now.items
    c.args.piece c.in-LineComment.len c.in-LineComment.is fits known c.further.ensures.source (c.further.ensures.stands word)

pub returns-else-ended-clause-steps : goal.returns-else-ended-clause-steps
returns-else-ended-clause-steps c = λ mode word says known.
    let e : c.args.piece ≡ MarkerLine c.in-MarkerLine.len false c.in-MarkerLine.marker = c.in-MarkerLine.is ∙ ap (λ b. MarkerLine c.in-MarkerLine.len b c.in-MarkerLine.marker) c.if-ended.false in
    let fits : c.in-MarkerLine.len + 1 ≤ length c.args.bytes.now = rw (← (ap piece_len e)) c.requires.fits in
    behind_open_marker mode c.args.file c.args.names.now word c.args.here c.further-else-ended.result c.args.bytes.now c.args.tokens.now.items
    c.args.piece c.in-MarkerLine.len c.in-MarkerLine.ended c.in-MarkerLine.marker c.in-MarkerLine.is c.if-ended.false fits known c.further-else-ended.ensures.source (c.further-else-ended.ensures.stands word)

pub returns-then-ended-clause-steps : goal.returns-then-ended-clause-steps
returns-then-ended-clause-steps c =
    let e : c.args.piece ≡ MarkerLine c.in-MarkerLine.len true c.in-MarkerLine.marker = c.in-MarkerLine.is ∙ ap (λ b. MarkerLine c.in-MarkerLine.len b c.in-MarkerLine.marker) c.if-ended.true in
    let fits : c.in-MarkerLine.len + 2 ≤ length c.args.bytes.now = rw (← (ap piece_len e)) c.requires.fits in
    if_ok _ _ c.next_line.result c.next_line.ensures.lands (λ next lands mode word says known.
    behind_marker mode c.args.file c.next_line.new.names word c.args.here next c.args.bytes.now c.args.tokens.now.items
    c.args.piece c.in-MarkerLine.len c.in-MarkerLine.ended c.in-MarkerLine.marker c.in-MarkerLine.is c.if-ended.true fits says (lands word known))

pub returns-in_ok-push-in-Spelling-clause-steps : goal.returns-in_ok-push-in-Spelling-clause-steps
returns-in_ok-push-in-Spelling-clause-steps c = λ mode word says known.
    let fits : c.in-Spelling.len ≤ length c.args.bytes.now = rw (← (ap piece_len c.in-Spelling.is)) c.requires.fits in
    let still = kept_number c.args.names.now c.token_of.new.names 1 c.args.here.source word c.in_ok-token-in-Spelling.ensures.adds known in
    let is = c.in_ok-token-in-Spelling.ensures.token word known in
    behind_spelling mode c.args.file c.token_of.new.names word c.args.here c.further-in-Spelling.result c.args.bytes.now c.args.tokens.now.items
    c.args.piece c.in-Spelling.len c.in-Spelling.kind c.push.new.self.items c.in_ok-token-in-Spelling.token c.in-Spelling.is fits says still
    c.further-in-Spelling.ensures.source (c.further-in-Spelling.ensures.stands word) c.in_ok-push-in-Spelling.ensures.items (rw c.as_slice.ensures.value at is)
