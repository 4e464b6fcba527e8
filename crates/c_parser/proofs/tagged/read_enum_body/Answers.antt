use Rattle.std.specs.Option.{option_map}
use Rattle.c_tree.specs.declared.keyword.Keyword.TheVariants as words
use Rattle.c_tree.specs.Symbol.{symbol_of, symbols_of}
use Rattle.c_tree.specs.Syntax.{Specifier, EnumBody}
use Rattle.c_tree.specs.Views.{maybe_token, nodes_of}
use Rattle.c_tree.specs.Forget.{list_view}
use Rattle.c_expr.proofs.Standing.{made, at_passed}
use Rattle.c_parser.proofs.TaggedPlaces.{enum-behind}
use Rattle.c_parser.proofs.TaggedSteps.{made-declares}
use Rattle.c_parser.proofs.tagged.read_enum_body.Goals as goal

pub returns-clause-stands : goal.returns-clause-stands
returns-clause-stands c ts us f p o =
    let read = c.in_ok-read.read in
    made c.enum_body_of.result _ _ _ _ _ _ _ c.enum_body_of.ensures.node (at_passed _ _ _ _ _ f p) (enum-behind words.Enum (maybe_token c.args.tag) (nodes_of read.trees) read.comma _ _ _ _ _ _ p o c.in_ok-read.ensures.stands)

pub returns-clause-now : goal.returns-clause-now
returns-clause-now c =
    let read = c.in_ok-read.read in
    made-declares c.enum_body_of.result c.args.room (Specifier (EnumBody (option_map symbol_of (maybe_token c.args.tag)) (list_view read.trees) read.comma)) (symbols_of read.rest.now) c.args.names.now.now _ c.enum_body_of.ensures.found c.in_ok-read.ensures.now
