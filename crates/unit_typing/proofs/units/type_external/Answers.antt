use Rattle.std.proofs.Common.{◌≡◌, ℕ, List, map, subst, sym}
use Rattle.c_tree.specs.Views.{node_of}
use Rattle.type_rules.specs.Roles.{Plain}
use Rattle.type_rules.specs.Scopes.{Scopes}
use Rattle.type_rules.specs.Stays.{Stays}
use Rattle.unit_typing.specs.Scopes.{scopes_of}
use Rattle.unit_typing.specs.Units.{KnowsStatics}
use Rattle.unit_typing.specs.Views.{name_entry}
use Rattle.unit_typing.proofs.StaticNames.{knows-more}
use Rattle.unit_typing.proofs.units.type_external.Goals as goal

pub returns-clause-statics : goal.returns-clause-statics
returns-clause-statics c =
    let v = scopes_of c.args.scopes.now in
    let w = scopes_of c.type_tree.new.scopes in
    let stays : Stays v w = subst (λ (x : Scopes). Stays v x) (sym c.in_ok-ty.ensures.scopes) ((c.scopes_stay.ensures v Plain).0 (node_of c.args.tree.now)) in
    subst (λ (known : List ℕ). KnowsStatics known w) (sym c.in_ok-add.ensures)
    (knows-more c.args.statics.now v w c.count_names-before.result (map name_entry c.names_behind.result.now) c.requires.statics stays c.count_names-before.ensures c.names_behind.ensures)
