use Rattle.metalcheck.proofs.BothStyles.{are_of_both, two_pushed}
use Rattle.metalcheck.proofs.styles.list_of.Goals as goal

pub returns : goal.returns
returns g c =
    let items = two_pushed _ _ c.push-2.new.self.items c.args.table c.args.json c.new-all.ensures.items c.in_ok-push.ensures.items c.in_ok-push-2.ensures.items in
    are_of_both (λ b. (goal.Reporter-dyn g (b.vtable, b.value)).called b.value) (λ b. (goal.Reporter-dyn g (b.vtable, b.value)).rendered b.value) (λ b. (goal.Reporter-dyn g (b.vtable, b.value)).taken b.value) c.push-2.new.self.items c.args.table
    c.args.json items c.requires.names c.requires.styles
