use Rattle.std.proofs.Common.{[], sym, subst}
use Rattle.std.specs.List.{AllZip}
use Rattle.numbered_program.proofs.SetNumbers.{numbers_all, numbers_more}
use Rattle.numbered_program.specs.Numbered.{AreNumbersOf}
use Rattle.numbered_program.proofs.numbers.all_numbers.Goals as goal

pub loop-set-init : goal.loop-set-init
loop-set-init c = subst (AllZip (AreNumbersOf c.args.states.now.states.keys) []) (sym c.in_ok-list.ensures.items) tt

pub loop-set-preserved : goal.loop-set-preserved
loop-set-preserved c =
    numbers_more c.args.states.now.states.keys c.args.objects.now c.loop-set.set-index c.set-item.result c.loop-set.list.items c.push.new.self.items c.in_ok-numbers.numbers
    c.loop-set-test.true c.set-item.is c.in_ok-numbers.ensures c.loop-set.invariant c.in_ok-push.ensures.items

pub returns : goal.returns
returns c = numbers_all c.args.states.now.states.keys c.args.objects.now c.loop-set.set-index c.loop-set.list.items c.loop-set-test.false c.loop-set.invariant
