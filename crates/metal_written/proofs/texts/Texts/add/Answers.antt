use Rattle.std.proofs.Common.{ℕ, cond, ap, ◌∙◌, subst, sym}
use Rattle.indexmap.specs.IndexMap.{get}
use Rattle.mx_base.specs.Names.{IsNumberOf, names_after}
use Rattle.mx_base.proofs.NameLaws.{adds_none}
use Rattle.metal_written.specs.Texts.{same_key, contents_behind, IsRight}
use Rattle.metal_written.proofs.InTexts.{all-grow, all-added, right-made, right-known}
use Rattle.metal_written.proofs.texts.Texts.add.Goals as goal

pub returns-in_err-contents-clause-adds : goal.returns-in_err-contents-clause-adds
returns-in_err-contents-clause-adds c = adds_none _ 1

pub returns-clause-right : goal.returns-clause-right
returns-clause-right c =
    let old = c.args.names.now in
    let key : ℕ × ℕ = (c.args.literal.name, cond c.args.literal.wide 2 1) in
    let own : IsNumberOf c.intern.new.self (contents_behind old key) c.in_ok-number.number
    = subst (λ t. IsNumberOf c.intern.new.self t c.in_ok-number.number) (c.as_bytes.ensures ∙ c.in_ok-contents.ensures ∙ c.contents_of.ensures) c.in_ok-number.ensures.own in
    let made = right-made old c.intern.new.self 1 key c.in_ok-number.number c.in_ok-number.ensures.adds c.requires.below own in
    let kept : IsRight c.intern.new.self (c.args.literal.name, c.up_to_contents.result) c.in_ok-number.number
    = subst (λ u. IsRight c.intern.new.self (c.args.literal.name, u) c.in_ok-number.number) (sym c.up_to_contents.ensures) made in
    all-added c.intern.new.self (get same_key c.args.self.now.numbers) _ (c.args.literal.name, c.up_to_contents.result) c.in_ok-number.number c.in_ok-insert.ensures.updates.0
    (all-grow old c.intern.new.self 1 (get same_key c.args.self.now.numbers) c.in_ok-number.ensures.adds c.requires.right) kept

pub returns-clause-known : goal.returns-clause-known
returns-clause-known c =
    let old = c.args.names.now in
    let key : ℕ × ℕ = (c.args.literal.name, cond c.args.literal.wide 2 1) in
    let own : IsNumberOf c.intern.new.self (contents_behind old key) c.in_ok-number.number
    = subst (λ t. IsNumberOf c.intern.new.self t c.in_ok-number.number) (c.as_bytes.ensures ∙ c.in_ok-contents.ensures ∙ c.contents_of.ensures) c.in_ok-number.ensures.own in
    right-known c.intern.new.self key c.in_ok-number.number (right-made old c.intern.new.self 1 key c.in_ok-number.number c.in_ok-number.ensures.adds c.requires.below own)

pub returns-clause-named : goal.returns-clause-named
returns-clause-named c = c.in_ok-number.ensures.names ∙ ap (names_after c.args.names.now) (c.as_bytes.ensures ∙ c.in_ok-contents.ensures ∙ c.contents_of.ensures)
