use Rattle.std.proofs.Common.{◌≡◌, ◌∙◌, ap, sym, map, take, refl}
use Rattle.std.specs.List.{take-map}
use Rattle.unit_typing.specs.Views.{name_entry, tag_entry}
use Rattle.unit_typing.proofs.scopes.Scopes.leave.Goals as goal

pub returns : goal.returns
returns c =
    let names : map name_entry c.cut.new.self ≡ take c.args.mark.names (map name_entry c.args.self.now.names) = ap (map name_entry) c.cut.ensures ∙ sym (take-map name_entry c.args.mark.names c.args.self.now.names) in
    let tags : map tag_entry c.cut-2.new.self ≡ take c.args.mark.tags (map tag_entry c.args.self.now.tags) = ap (map tag_entry) c.cut-2.ensures ∙ sym (take-map tag_entry c.args.mark.tags c.args.self.now.tags) in
    rw (names, tags) refl
