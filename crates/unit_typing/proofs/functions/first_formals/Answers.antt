use Rattle.std.proofs.Common.{◌≡◌, ◌<◌, ◌∙◌, ap, sym, length, map, arith}
use Rattle.std.specs.Option.{option_map}
use Rattle.c_tree.proofs.Rows.{nodes_out}
use Rattle.c_tree.specs.declared.tree.Trees.{out-Trees}
use Rattle.type_rules.specs.Functions.{first_formals}
use Rattle.type_values.specs.Vars.{cvar_of}
use Rattle.unit_typing.proofs.Formals.{no-formals}
use Rattle.unit_typing.proofs.functions.first_formals.Goals as goal

pub returns-in-empty : goal.returns-in-empty
returns-in-empty c =
    let none : length (out-Trees c.args.suffixes.now).all.now < 1 = omega arith in
    ap (map (option_map cvar_of)) c.new.ensures.items
    ∙ sym (ap first_formals (nodes_out c.args.suffixes.now) ∙ no-formals (out-Trees c.args.suffixes.now).all.now none)
