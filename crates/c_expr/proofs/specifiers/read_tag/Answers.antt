use Rattle.std.proofs.Common.{◌∷◌}
use Rattle.c_tree.specs.declared.keyword.Keyword.TheVariants as words
use Rattle.c_tree.specs.Symbol.{Reserved}
use Rattle.c_expr.proofs.StandingParts.{first_self, self_passed, keyword_symbol}
use Rattle.c_expr.proofs.specifiers.read_tag.Goals as goal

pub returns-in-Struct-clause-stands : goal.returns-in-Struct-clause-stands
returns-in-Struct-clause-stands c = c.read_struct_tag.ensures.stands (c.args.front.now ∷ c.args.tokens.now) (first_self c.args.front.now c.args.tokens.now) (self_passed (Reserved words.Struct) c.args.front.now c.args.tokens.now (keyword_symbol c.args.front.now _ _ c.in-Keyword.is c.in-Struct.is))

pub returns-in-Union-clause-stands : goal.returns-in-Union-clause-stands
returns-in-Union-clause-stands c = c.read_struct_tag-in-Union.ensures.stands (c.args.front.now ∷ c.args.tokens.now) (first_self c.args.front.now c.args.tokens.now) (self_passed (Reserved words.Union) c.args.front.now c.args.tokens.now (keyword_symbol c.args.front.now _ _ c.in-Keyword.is c.in-Union.is))

pub returns-in-Enum-clause-stands : goal.returns-in-Enum-clause-stands
returns-in-Enum-clause-stands c = c.read_enum_tag.ensures.stands (c.args.front.now ∷ c.args.tokens.now) (first_self c.args.front.now c.args.tokens.now) (self_passed (Reserved words.Enum) c.args.front.now c.args.tokens.now (keyword_symbol c.args.front.now _ _ c.in-Keyword.is c.in-Enum.is))
