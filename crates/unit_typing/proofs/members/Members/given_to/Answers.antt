use Rattle.std.proofs.Common.{◌∙◌, ◌++◌, ap, List, ℕ}
use Rattle.unit_typing.specs.declared.members.MemberEntry.{MemberEntry}
use Rattle.unit_typing.specs.Members.{given_at}
use Rattle.unit_typing.proofs.Filed.{given-found}
use Rattle.unit_typing.proofs.members.Members.given_to.Goals as goal

pub loop-position-init : goal.loop-position-init
loop-position-init c =
    let all = c.args.self.now.all.items in
    ap (λ (ms : List MemberEntry). ms ++ given_at c.args.owner c.list_at-position-items.result.now all) c.new-found.ensures.items
    ∙ ap (λ (ps : List ℕ). given_at c.args.owner ps all) (c.list_at-position-items.ensures ∙ c.args.self.now.filed.owned c.args.number)
    ∙ given-found c.args.owner c.args.number all
