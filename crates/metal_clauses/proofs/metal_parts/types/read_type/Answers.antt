use Rattle.std.proofs.Common.{◌∙◌, sym}
use Rattle.c_tree.specs.Symbol.{symbols_of}
use Rattle.metal_clauses.proofs.MetalParts.InTypes.{words-typed, type-named, type-basic}
use Rattle.metal_clauses.proofs.metal_parts.types.read_type.Goals as goal

pub returns-then-is_empty-clause-found : goal.returns-then-is_empty-clause-found
returns-then-is_empty-clause-found c =
    c.read_named_type.ensures.found ∙ sym (type-named (symbols_of c.args.tokens.now) c.split_type_words.result.0.now c.split_type_words.ensures.words (sym c.if-is_empty.ensures))

pub returns-clause-typed : goal.returns-clause-typed
returns-clause-typed c = words-typed (symbols_of c.args.tokens.now) (symbols_of c.split_type_words.result.0.now) c.split_type_words.ensures.words

pub returns-clause-found : goal.returns-clause-found
returns-clause-found c =
    type-basic (symbols_of c.args.tokens.now) (symbols_of c.split_type_words.result.1.now) (symbols_of c.split_stars-stars.result.1.now) c.split_type_words.result.0.now c.split_stars-stars.result.0
    c.split_type_words.ensures.words (sym c.if-is_empty.ensures) c.split_type_words.ensures.rest c.split_stars-stars.ensures.count c.split_stars-stars.ensures.rest
