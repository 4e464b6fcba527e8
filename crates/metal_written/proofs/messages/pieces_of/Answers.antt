use Rattle.std.proofs.Common.{◌≡◌, [], nat_eq, not, ◌&&◌, get_or, map, Some, ap, ◌∙◌, sym, rules, arith}
use Rattle.metal_tree.specs.Views.{piece_view}
use Rattle.metal_written.proofs.InPieces.{text-good, text-bad, pieces-done, none-left}
use Rattle.metal_written.proofs.messages.pieces_of.Goals.{then-not-behind_percent, else-not-behind_percent}
use Rattle.metal_written.proofs.messages.pieces_of.Goals as goal

pub returns-then-not-may : goal.returns-then-not-may
returns-then-not-may c =
    let l = c.loop-byte in
    text-bad l.behind_percent c.in_ok-may.may c.args.text.now l.left.now c.first_argument-argument.result l.byte-index (map piece_view l.pieces.items) (map piece_view c.add_text.new.pieces.items) l.bytes.items c.add_text.new.bytes.items _
    (omega arith) c.first_argument-argument.ensures c.if-not-may.true c.in_ok-may.ensures l.invariant

pub loop-byte-preserved : goal.loop-byte-preserved
loop-byte-preserved c =
    let l = c.loop-byte in
    let b = get_or c.args.text.now l.byte-index 0 in
    let next : c.if-not-behind_percent.behind_percent ≡ (not l.behind_percent && nat_eq b 37) = elim c.if-not-behind_percent.branch [ then-not-behind_percent w ↦ search rules | else-not-behind_percent w ↦ search rules ] in
    text-good l.behind_percent c.in_ok-may.may c.if-not-behind_percent.behind_percent c.args.text.now l.left.now c.left_behind-left.result.now c.first_argument-argument.result l.byte-index (map piece_view l.pieces.items) (map piece_view c.add_text.new.pieces.items) l.bytes.items c.add_text.new.bytes.items _
    (omega arith) c.first_argument-argument.ensures c.if-not-may.false c.in_ok-may.ensures c.left_behind-left.ensures next l.invariant

pub returns : goal.returns
returns c =
    let l = c.loop-byte in
    let none : l.left.now ≡ [] = none-left l.left.now (sym c.if-not-is_empty.ensures) in
    ap (λ ps. Some (map piece_view ps)) c.into_bump_slice.ensures
    ∙ ap Some c.in_ok-end_literal.ensures.pieces
    ∙ pieces-done l.behind_percent c.args.text.now l.left.now l.byte-index (map piece_view l.pieces.items) l.bytes.items _ (omega arith) c.if-behind_percent.false none l.invariant
