use Rattle.std.proofs.Common.{◌≡◌, ◌∙◌, ap, sym, List, Some, None, slice_get}
use Rattle.unit_typing.specs.Members.{first_position}
use Rattle.unit_typing.specs.declared.members.MemberEntry.{MemberEntry}
use Rattle.unit_typing.proofs.Filed.{first-none, first-some}
use Rattle.unit_typing.proofs.members.Members.first_named.Goals as goal

pub returns-in-Some : goal.returns-in-Some
returns-in-Some c =
    let at : first_position (c.args.owner, c.args.name) c.args.self.now.all.items ≡ Some c.in-Some.position = sym (c.args.self.now.filed.first (c.args.owner, c.args.name)) ∙ sym c.get.ensures.value ∙ sym c.copied.ensures ∙ c.in-Some.is in
    c.item_at.ensures ∙ ap (λ (ms : List MemberEntry). slice_get ms c.in-Some.position) c.deref.ensures.value ∙ first-some (c.args.owner, c.args.name) c.in-Some.position c.args.self.now.all.items at

pub returns-in-None : goal.returns-in-None
returns-in-None c =
    let at : first_position (c.args.owner, c.args.name) c.args.self.now.all.items ≡ None = sym (c.args.self.now.filed.first (c.args.owner, c.args.name)) ∙ sym c.get.ensures.value ∙ sym c.copied.ensures ∙ c.in-None.is in
    sym (first-none (c.args.owner, c.args.name) c.args.self.now.all.items at)
