use Rattle.std.proofs.Common.{◌≡◌, ◌∙◌, [], sym, subst, inl, inr}
use Rattle.c_tree.specs.Views.{nodes_of}
use Rattle.c_grammar.specs.CPlaces.Lines.{row_line}
use Rattle.type_rules.specs.Unit.{table_by}
use Rattle.typed_unit.specs.Tables.{table_of}
use Rattle.c_grammar.specs.CPlaces.Stands.{Stands}
use Rattle.request_files.specs.FrontEnd.Sources.{AreTypedTrees}
use Rattle.request_files.proofs.FrontEnd.NoUnit.{no_trees, trees_are, typed_trees, no_types}
use Rattle.request_files.proofs.front_end.units.read_typed.Goals as goal

pub returns-in-Err-clause-refused : goal.returns-in-Err-clause-refused
returns-in-Err-clause-refused c = λ found e. inl (no_trees c.args.tokens.now c.in-Err.fault found c.in-Err.ensures.refused (sym c.unparsed.ensures ∙ e))

pub returns-in-Ok-type_unit-clause-typed : goal.returns-in-Ok-type_unit-clause-typed
returns-in-Ok-type_unit-clause-typed c =
    subst (λ u. AreTypedTrees c.args.tokens.now.all (nodes_of u.chunks)) (sym c.in-Ok-type_unit.ensures.unit)
    (typed_trees c.args.tokens.now.all (nodes_of c.in-Ok.unit.chunks) c.in-Ok.ensures.parsed c.in-Ok.ensures.stands c.in-Ok-type_unit.ensures.fine)

pub returns-in-Err-type_unit-clause-refused : goal.returns-in-Err-type_unit-clause-refused
returns-in-Err-type_unit-clause-refused c = λ found e.
    inr (no_types c.args.tokens.now _ (nodes_of c.in-Ok.unit.chunks) found (trees_are c.args.tokens.now.all _ c.in-Ok.ensures.parsed c.in-Ok.ensures.stands)
    c.in-Err-type_unit.ensures.refused (sym c.untyped.ensures ∙ e))

pub type_unit-requires-clause-standing : goal.type_unit-requires-clause-standing
type_unit-requires-clause-standing c = let s = c.in-Ok.ensures.stands in (s.0, subst (λ ts. Stands (row_line (nodes_of c.in-Ok.unit.chunks)) 0 s.0 ts []) (sym c.in-Ok.ensures.tokens) s.2)

pub returns-in-Ok-type_unit-clause-table : goal.returns-in-Ok-type_unit-clause-table
returns-in-Ok-type_unit-clause-table c =
    subst (λ u. table_of c.in-Ok-type_unit.typed.table ≡ table_by (nodes_of u.chunks)) (sym c.in-Ok-type_unit.ensures.unit) c.in-Ok-type_unit.ensures.table
