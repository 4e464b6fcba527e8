use Rattle.std.proofs.Common.{◌≡◌, ◌∙◌, ap, sym, map, drop, refl}
use Rattle.std.proofs.lemmas.List.{drop-map}
use Rattle.unit_typing.specs.Views.{name_entry, tag_entry}
use Rattle.unit_typing.proofs.scopes.Scopes.leave_formals.Goals as goal

pub returns : goal.returns
returns c =
    let names : map name_entry c.copy_behind.new.into.items ≡ drop c.args.mark.names (map name_entry c.args.self.now.names) = ap (map name_entry) c.in_ok-copy_behind.ensures ∙ sym (drop-map name_entry c.args.mark.names c.args.self.now.names) in
    let tags : map tag_entry c.copy_behind-2.new.into.items ≡ drop c.args.mark.tags (map tag_entry c.args.self.now.tags) = ap (map tag_entry) c.in_ok-copy_behind-2.ensures ∙ sym (drop-map tag_entry c.args.mark.tags c.args.self.now.tags) in
    c.leave.ensures ∙ rw (names, tags) refl
