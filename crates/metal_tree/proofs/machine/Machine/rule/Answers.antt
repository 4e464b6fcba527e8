use Rattle.metal_tree.proofs.Numbered.{numbered}
use Rattle.metal_tree.proofs.machine.Machine.rule.Goals as goal

pub returns : goal.returns
returns c =
    let m = c.args.self.now in
    numbered c.rules_are_found.ensures m.rules.now c.args.number _ m.kept.limits.numbers c.requires.low c.requires.high
