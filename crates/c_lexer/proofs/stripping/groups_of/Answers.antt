use Rattle.std.proofs.Common.{◌≡◌, length, reverse, sym, ap, ◌∙◌}
use Rattle.c_lexer.proofs.TokenGroups.{groups_start, groups_step}
use Rattle.c_lexer.proofs.stripping.groups_of.Goals as goal

pub back-init : goal.back-init
back-init c =
    let count : length c.in_ok-groups.groups.items ≡ length c.args.tokens.now = sym c.in_ok-groups.groups.ok.0 ∙ c.in_ok-groups.ensures.len in
    groups_start c.args.tokens.now c.in_ok-groups.groups.items _ count (ap reverse c.new-closers.ensures.items)

pub back-preserved : goal.back-preserved
back-preserved c = groups_step c.args.tokens.now c.back.groups.items c.back.index c.back.behind (reverse c.back.closers.items) _ c.in_ok-groups-2.field-0 _ c.back-test.true c.back.invariant c.in_ok-groups-2.ensures
