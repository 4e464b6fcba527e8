use Rattle.std.proofs.Common.{◌≡◌, sym, ap}
use Rattle.c_lexer.specs.Tokens.{position_of}
use Rattle.c_lexer.proofs.Positions.{position_found, position_between, position_past}
use Rattle.c_lexer.proofs.tokens.Tokens.line_of.Goals as goal
use Rattle.c_lexer.proofs.tokens.Tokens.line_of.Goals.{else-index-all-via-then-index-all+else-all-index, else-index-all-via-else-index-all}

pub returns-then-all-index : goal.returns-then-all-index
returns-then-all-index c =
    let i = c.index_of-index.ensures in
    let f = position_found c.all-all.result.now c.args.self.now.end c.args.place.token c.index_of-index.result _ i.below c.if-index-all.true c.if-all-index.true in
    sym (rw (← c.all-all.ensures.all) f)

pub returns : goal.returns
returns c =
    let i = c.index_of-index.ensures in
    let all = c.all-all.result.now in
    let end = c.args.self.now.end in
    let kept : c.self.inside.end ≡ end = ap (λ v. v.end) c.self.view_is in
    let e : position_of all end c.args.place.token ≡ (end.source, end.line, end.col) = elim c.else-index-all.branch [
      | else-index-all-via-then-index-all+else-all-index w ↦ position_between all end _ c.args.place.token c.index_of-index.result _ c.all-all.ensures.rising i.below i.above w.if-index-all.true w.if-all-index.false
      | else-index-all-via-else-index-all w ↦ position_past all end c.args.place.token c.index_of-index.result i.below w.if-index-all.false
    ] in
    rw (kept, ← c.all-all.ensures.all) (sym e)
