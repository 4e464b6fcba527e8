use Rattle.std.proofs.Common.{◌-◌, ◌∙◌, sym, ap, arith}
use Rattle.c_tree.specs.Symbol.{symbols_of}
use Rattle.c_tree.specs.Syntax.{Primary, Ident}
use Rattle.c_tree.specs.Forget.{view, syntax_of}
use Rattle.c_tree.specs.Views.{node_of}
use Rattle.c_grammar.specs.Names.{with_name}
use Rattle.c_grammar.specs.Reading.{read as read_expressions}
use Rattle.c_grammar.specs.UnitGrammar.Reading.{read}
use Rattle.c_grammar.specs.CPlaces.Stands.{OfBoth}
use Rattle.c_expr.proofs.Standing.{made, at_node}
use Rattle.c_parser.proofs.InitialSteps.{initialized-read, initialized-lost, part-refused}
use Rattle.c_parser.proofs.DeclarationPlaces.{name-stands, initialized-declares}
use Rattle.c_parser.proofs.initialized.read_initialized.Goals as goal

pub returns-clause-found : goal.returns-clause-found
returns-clause-found c =
    initialized-read c.init_of.result c.args.room c.args.is_type c.args.names.now.now c.declare.new.names.now (view c.args.declarator.tree.now) (view c.in_ok-name.name.tree.now) (view c.in_ok-initial.initial.tree.now) c.in-Some-declared_word.token.now.name (symbols_of c.args.declarator.rest.now) (symbols_of c.in-Some.rest.now) (symbols_of c.in_ok-initial.initial.rest.now)
    c.requires.positive (sym c.in-Some.ensures.found) (sym c.in-Some-declared_word.ensures.name)
    (c.in_ok-declare.ensures.now ∙ ap (λ x. with_name x c.args.is_type c.args.names.now.now) c.declared_name.ensures)
    (ap syntax_of c.in_ok-name.ensures.node.0 ∙ ap (λ s. Primary (Ident s)) c.in-Some-declared_word.ensures.word)
    c.in_ok-initial.ensures.found.0 (omega (arith, c.requires.height, c.requires.low)) c.init_of.ensures.found

pub returns-clause-stands : goal.returns-clause-stands
returns-clause-stands c low ts s =
    made c.init_of.result _ _ _ _ _ _ _ c.init_of.ensures.node (at_node c.args.declarator.tree.now _ _ _ _ s)
    (OfBoth (OfBoth (OfBoth s (name-stands c.in_ok-name.name c.in-Some-declared_word.token.now _ _ _ _ _ c.in-Some-declared_word.ensures.token c.in_ok-name.ensures.node)) (c.in-Some.ensures.passes _)) c.in_ok-initial.ensures.stands)

pub returns-in_err-initial-clause-found : goal.returns-in_err-initial-clause-found
returns-in_err-initial-clause-found c =
    initialized-lost c.from_residual-in_err-initial.result c.in_err-initial.field-0.0 (read_expressions (c.args.room - 1)) (read (c.args.room - 1)) c.args.is_type c.args.names.now.now c.declare.new.names.now (view c.args.declarator.tree.now) c.in-Some-declared_word.token.now.name (symbols_of c.args.declarator.rest.now) (symbols_of c.in-Some.rest.now)
    (sym c.in-Some.ensures.found) (sym c.in-Some-declared_word.ensures.name)
    (c.in_ok-declare.ensures.now ∙ ap (λ x. with_name x c.args.is_type c.args.names.now.now) c.declared_name.ensures)
    c.in_err-initial.ensures.found c.from_residual-in_err-initial.ensures.1

pub returns-in_err-name-clause-found : goal.returns-in_err-name-clause-found
returns-in_err-name-clause-found c = part-refused c.from_residual-in_err-name.result c.in_err-name.field-0.0 _ _ c.in_err-name.ensures.found c.from_residual-in_err-name.ensures.1

pub returns-clause-now : goal.returns-clause-now
returns-clause-now c =
    initialized-declares c.init_of.result _ _ _ _ (node_of c.args.declarator.tree.now) _ _ c.args.is_type c.in-Some-declared_word.token.now.name c.args.names.now.now c.declare.new.names.now _ c.init_of.ensures.node (sym c.in-Some-declared_word.ensures.name)
    (c.in_ok-declare.ensures.now ∙ ap (λ x. with_name x c.args.is_type c.args.names.now.now) c.declared_name.ensures)
    c.in_ok-initial.ensures.names.0
