use Rattle.std.proofs.Common.{◌≡◌, [], ◌∷◌, true, false, reverse, sym, ap, ◌∙◌, arith}
use Rattle.std.proofs.lemmas.List.{append-nil, nil_from_length, reverse-append}
use Rattle.c_lexer.specs.CReading.Strip.{is_open_paren, is_close_paren}
use Rattle.c_lexer.proofs.TokenGroups.{at_open, at_open_group, at_close, at_other}
use Rattle.c_lexer.proofs.stripping.group_at.Goals as goal

pub returns-in-None : goal.returns-in-None
returns-in-None c = λ t rest kind behind ends.
    let old = c.args.closers.now.items in
    let none : old ≡ [] = nil_from_length old (let k = c.args.closers.now.ok.0 in let z = c.in-None.ensures.cases.0 in omega arith) in
    let same : c.pop.new.self.items ≡ old = sym (c.in-None.ensures.items ∙ append-nil c.pop.new.self.items) in
    let open_here : is_open_paren t.kind ≡ true = ap is_open_paren kind ∙ sym c.if-is_open_paren.ensures in
    rw same (at_open rest t (reverse old) open_here (ap reverse none) ends)

pub returns-in-Some : goal.returns-in-Some
returns-in-Some c = λ t rest kind behind ends.
    let old = c.args.closers.now.items in
    let new = c.pop.new.self.items in
    let e : reverse old ≡ c.in-Some.closer ∷ reverse new = ap reverse c.in-Some.ensures.items ∙ reverse-append new (c.in-Some.closer ∷ []) in
    let open_here : is_open_paren t.kind ≡ true = ap is_open_paren kind ∙ sym c.if-is_open_paren.ensures in
    let a = at_open_group rest t (reverse old) (reverse new) c.in-Some.closer c.args.behind open_here behind e ends in
    rw c.saturating_sub.ensures a

pub returns-in_ok-push : goal.returns-in_ok-push
returns-in_ok-push c = λ t rest kind behind ends.
    let old = c.args.closers.now.items in
    let new = c.push.new.self.items in
    let e : reverse new ≡ c.args.behind ∷ reverse old = ap reverse c.in_ok-push.ensures.items ∙ reverse-append old (c.args.behind ∷ []) in
    let shut : is_open_paren t.kind ≡ false = ap is_open_paren kind ∙ sym c.if-is_open_paren.ensures in
    let close_here : is_close_paren t.kind ≡ true = ap is_close_paren kind ∙ sym c.if-is_close_paren.ensures in
    at_close rest t (reverse old) (reverse new) c.args.behind shut close_here behind e ends

pub returns-else-is_close_paren : goal.returns-else-is_close_paren
returns-else-is_close_paren c = λ t rest kind behind ends.
    let shut : is_open_paren t.kind ≡ false = ap is_open_paren kind ∙ sym c.if-is_open_paren.ensures in
    let not_close : is_close_paren t.kind ≡ false = ap is_close_paren kind ∙ sym c.if-is_close_paren.ensures in
    at_other rest t (reverse c.args.closers.now.items) shut not_close ends
